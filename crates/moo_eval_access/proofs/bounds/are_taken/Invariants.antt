use Rattle.std.proofs.Common.{Ok, length, IsTrue}
use Rattle.std.specs.Prelude.{is_ok}
use Rattle.moo_value.specs.Tree.{Tree}
use Rattle.moo_eval_access.specs.Bounds.{IsWithin}
use Rattle.moo_eval_access.specs.Target.{rebuilt}
use Rattle.moo_eval_access.specs.SeenTarget.{steps_of}
use Rattle.moo_eval_access.proofs.bounds.are_taken.Given as goal

abbrev pub invariant-loop-step : goal.invariant-loop-step
invariant-loop-step l = ((v : Tree) → IsWithin l.bounds.0 l.bounds.1 v → IsTrue (is_ok (rebuilt (steps_of l.left) (Ok v)))) → (v : Tree) → IsWithin l.heaviest l.deepest v → IsTrue (is_ok (rebuilt (steps_of l.steps) (Ok v)))

abbrev pub decreases-loop-step : goal.decreases-loop-step
decreases-loop-step l = length l.left
