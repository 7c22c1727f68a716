use Rattle.std.proofs.Common.{◌≡◌, ◌<◌, ℕ}
use Rattle.slab.specs.Slab.{get}
use Rattle.moo_cli_web_listener.specs.Callers.{AreCallers, IsStepped, IsTimely}
use Rattle.moo_cli_web_listener.proofs.listener.WebListener.serve.Given as goal

abbrev pub invariant-loop-key : goal.invariant-loop-key
invariant-loop-key l =
    (AreCallers l.fn.self.allowed l.fn.self.callers → AreCallers l.self.allowed l.self.callers) × (l.self.allowed ≡ l.fn.self.allowed)
    × ((k : ℕ) → IsStepped l.now (get l.initial.self.callers k) (get l.self.callers k)) × ((k : ℕ) → k < l.key → IsTimely l.now (get l.self.callers k))
