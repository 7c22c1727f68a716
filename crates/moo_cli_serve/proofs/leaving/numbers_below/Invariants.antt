use Rattle.std.proofs.Common.{ℕ, ◌<◌, Contains}
use Rattle.moo_cli_serve.proofs.leaving.numbers_below.Given as goal

abbrev pub invariant-loop-key : goal.invariant-loop-key
invariant-loop-key l = (c : ℕ) → c < l.key → Contains l.numbers.items c
