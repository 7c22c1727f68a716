use Rattle.std.proofs.Common.{◌≡◌, ◌<◌, ◌-◌, eqb, length}
use Rattle.std.specs.List.{list_any}
use Rattle.moo_world_tree.specs.Forest.{above_of, climb, ancestors}
use Rattle.moo_world_tree.proofs.Forest.is_within.Given as goal

-- the nodes still to be passed decide the result
abbrev pub invariant-loop : goal.invariant-loop
invariant-loop l = record {
  within : l.at < length l.self;
  rest : list_any (eqb l.top) (ancestors l.self l.x) ≡ list_any (eqb l.top) (climb (length l.self - l.counter) l.self (above_of l.self l.at));
}
