use Rattle.std.proofs.Common.{◌≡◌, map, take}
use Rattle.moo_dbtext_object.specs.Objects.{verb_of}
use Rattle.moo_dbtext_record.specs.Programs.{row_of, no_program}
use Rattle.moo_dbtext_record.proofs.program_table.no_programs.Given as goal

abbrev pub invariant-loop-verb : goal.invariant-loop-verb
invariant-loop-verb l = row_of l.row ≡ map no_program (map verb_of (take l.verb-index l.verb-items))
