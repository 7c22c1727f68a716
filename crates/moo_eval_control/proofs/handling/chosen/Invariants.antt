use Rattle.std.proofs.Common.{◌≡◌, drop, map}
use Rattle.moo_eval_control.specs.Handling.{chosen}
use Rattle.moo_eval_control.specs.SeenHandling.{guarded_of}
use Rattle.moo_eval_control.proofs.handling.chosen.Given as goal

-- the first of those that are left is the first of all
abbrev pub invariant-loop-guarded : goal.invariant-loop-guarded
invariant-loop-guarded l = chosen (map guarded_of (drop l.guarded-index l.all)) l.code ≡ chosen (map guarded_of l.all) l.code
