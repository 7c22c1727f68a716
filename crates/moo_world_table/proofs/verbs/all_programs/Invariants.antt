use Rattle.std.proofs.Common.{◌≡◌, take}
use Rattle.moo_world_table.specs.World.{programs_in}
use Rattle.moo_world_table.proofs.verbs.all_programs.Given as goal

abbrev pub invariant-loop-slot : goal.invariant-loop-slot
invariant-loop-slot l = record {
  counted : l.programs ≡ programs_in (take l.slot-index l.objects);
}
