use Rattle.std.proofs.Common.{◌≡◌, ℕ, ◌<◌, ◌≤◌}
use Rattle.slab.specs.Slab.{get}
use Rattle.moo_cli_sockets.specs.Coming.{held}
use Rattle.moo_cli_sockets.specs.Reading.{IsAlike, IsKept, IsTended}
use Rattle.moo_cli_sockets.proofs.sockets.Sockets.tend_all.Given as goal

abbrev pub invariant-loop-key : goal.invariant-loop-key
invariant-loop-key l =
    ((c : ℕ) → held l.self.sockets c ≡ held l.initial.self.sockets c)
    × ((c : ℕ) → IsKept (get l.initial.self.sockets c) (get l.self.sockets c))
    × IsAlike l.initial.self l.self
    × ((c : ℕ) → c < l.key → IsTended l.now (get l.initial.self.sockets c) (get l.self.sockets c))
    × ((c : ℕ) → l.key ≤ c → get l.self.sockets c ≡ get l.initial.self.sockets c)
