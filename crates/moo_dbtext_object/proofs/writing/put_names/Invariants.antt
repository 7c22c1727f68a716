use Rattle.std.proofs.Common.{◌≡◌, ◌++◌, take}
use Rattle.moo_dbtext_object.specs.Lines.{unlines}
use Rattle.moo_dbtext_object.proofs.writing.put_names.Given as goal

abbrev pub invariant-loop-name : goal.invariant-loop-name
invariant-loop-name l = l.out.items ≡ l.initial.out.items ++ unlines (take l.name-index l.names)
