use Rattle.std.proofs.Common.{◌≡◌, ◌≤◌, take}
use Rattle.moo_world_table.specs.World.{programs_of}
use Rattle.moo_world_table.proofs.verbs.count_programs.Given as goal

abbrev pub invariant-loop-verb : goal.invariant-loop-verb
invariant-loop-verb l = record {
  counted : l.programs ≡ programs_of (take l.verb-index l.verbs);
  few : l.programs ≤ l.verb-index;
}
