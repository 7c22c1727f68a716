use Rattle.std.proofs.Common.{◌≡◌, ◌++◌, map, take}
use Rattle.std.specs.List.{flat_map}
use Rattle.moo_dbtext_object.specs.Lines.{unlines}
use Rattle.moo_dbtext_object.specs.Objects.{verb_lines}
use Rattle.moo_dbtext_restore.specs.Says.{recorded_verb}
use Rattle.moo_dbtext.proofs.object.put_verbs.Given as goal

abbrev pub invariant-loop-verb : goal.invariant-loop-verb
invariant-loop-verb l = l.out.items ≡ l.initial.out.items ++ unlines (flat_map verb_lines (map recorded_verb (take l.verb-index l.verbs)))
