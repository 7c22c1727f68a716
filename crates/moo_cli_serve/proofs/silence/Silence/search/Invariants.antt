use Rattle.std.proofs.Common.{◌≡◌, true}
use Rattle.std.specs.Prelude.{All}
use Rattle.moo_cli_serve.specs.Silence.{is_silent}
use Rattle.moo_cli_serve.proofs.silence.Silence.search.Given as goal

abbrev pub invariant-loop-key : goal.invariant-loop-key
invariant-loop-key l = All (λ c. is_silent l.fn.self l.fn.now c ≡ true) l.silent.items
