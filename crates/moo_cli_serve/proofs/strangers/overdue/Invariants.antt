use Rattle.std.proofs.Common.{◌≡◌, true}
use Rattle.std.specs.Prelude.{All}
use Rattle.moo_cli_serve.specs.Strangers.{is_stranger}
use Rattle.moo_cli_serve.proofs.strangers.overdue.Given as goal

abbrev pub invariant-loop-key : goal.invariant-loop-key
invariant-loop-key g l = All (λ c. is_stranger g.S.Application.layer l.fn.server c ≡ true) l.found.items
