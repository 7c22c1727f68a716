use Rattle.std.proofs.Common.{◌≡◌, ◌++◌, map, take}
use Rattle.std.specs.List.{AllWithin, flat_map}
use Rattle.moo_dbtext_object.specs.Lines.{unlines}
use Rattle.moo_dbtext_record.specs.Programs.{program_lines}
use Rattle.moo_dbtext_record.specs.Writing.{row_programs}
use Rattle.moo_dbtext_restore.specs.Says.{program_of}
use Rattle.moo_dbtext.specs.Held.{HoldsProgram}
use Rattle.moo_dbtext.specs.Texts.{row_of}
use Rattle.moo_dbtext.proofs.program.put_row.Given as goal

abbrev pub invariant-loop-number : goal.invariant-loop-number
invariant-loop-number l = record {
  lines : l.out.items ≡ l.initial.out.items ++ unlines (flat_map program_lines (row_programs l.object 0 (row_of (map program_of (take l.number l.verbs)))));
  held : AllWithin HoldsProgram l.verbs 0 l.number;
}
