use Rattle.std.proofs.Common.{◌≡◌, ◌++◌, map}
use Rattle.std.specs.List.{range_with_len}
use Rattle.moo_dbtext_object.specs.Lines.{unlines}
use Rattle.moo_dbtext_record.specs.Texts.{objects_lines}
use Rattle.moo_dbtext_record.specs.Writing.{no_notes}
use Rattle.moo_dbtext_restore.specs.Recorded.{recorded_at}
use Rattle.moo_dbtext.proofs.object.put_entries.Given as goal

abbrev pub invariant-loop-x : goal.invariant-loop-x
invariant-loop-x l = l.out.items ≡ l.initial.out.items ++ unlines (objects_lines 0 (map (recorded_at l.world) (range_with_len 0 l.x)) no_notes)
