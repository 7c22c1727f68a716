-- Restoring a world from records: what it takes and returns.
use Rattle.std.specs.Prelude.{ℤ, ◌≤◌, List, Option, Some, None, length, map, option_map, is_some, count_by}
use Rattle.std.specs.List.{sum_by, AllByRecursion}
use Rattle.std.specs.Global.{Vec}
use Rattle.moo_syntax_ast.specs.Tree.{Block}
use Rattle.moo_world_table.specs.World.{most}
use Rattle.moo_dbtext_object.specs.Lines.{limited}
use Rattle.moo_dbtext_object.specs.Objects as recorded
use Rattle.moo_dbtext_object.specs.declared.object_record.ObjectRecord.{ObjectRecord}
use Rattle.moo_dbtext_restore.specs.declared.fault.RestoreFault.{RestoreFault}
use Rattle.moo_dbtext_restore.specs.declared.fault.RestoreFault.TheVariants as fault
use Rattle.moo_dbtext_restore.specs.Records.{Records}
use Rattle.moo_dbtext_restore.specs.Faults.{IsHierarchyFault, IsCountFault}
use Rattle.moo_dbtext_restore.specs.Plain.{programs_by_object}

-- the records of objects, of programs by object and verb, and of players
abbrev pub records_from : List (Option ObjectRecord) → List (Vec (Option Block)) → List ℤ → Records
records_from objects programs players = record { objects = map (option_map recorded.object_of) objects; programs = programs_by_object programs; players = players }

abbrev pub IsEntryWithin : Option recorded.Object → Type 0
IsEntryWithin None = Unit {0}
IsEntryWithin (Some o) = recorded.IsObject limited o

-- the records may be written as a database text within the size limits
pub record AreWithinLimits (r : Records) : Type 0 where
  pub objects : AllByRecursion IsEntryWithin r.objects
  pub object_count : length r.objects ≤ most
  pub player_count : length r.players ≤ most
  pub program_count : sum_by (count_by is_some) r.programs ≤ most

-- the records have this fault
abbrev pub IsFaultOf : Records → RestoreFault → Type 0
IsFaultOf r (fault.Hierarchy x) = IsHierarchyFault r x
IsFaultOf r (fault.PropertyCount x) = IsCountFault r x
IsFaultOf r fault.Memory = Unit {0}
