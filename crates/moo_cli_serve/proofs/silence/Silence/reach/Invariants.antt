use Rattle.std.proofs.Common.{◌≡◌, ℕ, length}
use Rattle.moo_cli_serve.specs.Silence.{heard_in}
use Rattle.moo_cli_serve.proofs.silence.Silence.reach.Given as goal

abbrev pub invariant-loop-filled : goal.invariant-loop-filled
invariant-loop-filled l = record {
  reached : length l.self.heard.items ≡ l._filled;
  heard : (k : ℕ) → heard_in l.self k ≡ heard_in l.initial.self k;
  limit : l.self.limit ≡ l.initial.self.limit;
}
