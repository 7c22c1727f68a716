use Rattle.std.proofs.Common.{◌≡◌, length, take}
use Rattle.std.specs.Prelude.{map, option_map}
use Rattle.moo_dbtext_object.specs.Objects.{object_of}
use Rattle.moo_dbtext_record.specs.Texts.{objects_lines}
use Rattle.moo_dbtext_record.specs.Writing.{no_notes}
use Rattle.moo_dbtext_read.proofs.object_line.lines_of_entries.Given as goal

abbrev pub invariant-loop-entry : goal.invariant-loop-entry
invariant-loop-entry l = l.lines ≡ length (objects_lines 0 (map (option_map object_of) (take l.entry-index l.entries)) no_notes)
