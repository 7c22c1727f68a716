use Rattle.std.proofs.Common.{◌≡◌, ◌++◌, map, take}
use Rattle.std.specs.List.{AllWithin, flat_map}
use Rattle.moo_dbtext_object.specs.Lines.{unlines}
use Rattle.moo_dbtext_record.specs.Programs.{program_lines}
use Rattle.moo_dbtext_record.specs.Writing.{table_programs}
use Rattle.moo_dbtext.specs.Held.{HoldsPrograms}
use Rattle.moo_dbtext.specs.Texts.{row_at}
use Rattle.moo_dbtext.proofs.program.put_programs.Given as goal

abbrev pub invariant-loop-number : goal.invariant-loop-number
invariant-loop-number l = record {
  lines : l.out.items ≡ l.initial.out.items ++ unlines (flat_map program_lines (table_programs 0 (map row_at (take l.number l.objects))));
  held : AllWithin HoldsPrograms l.objects 0 l.number;
}
