use Rattle.std.proofs.Common.{◌≡◌, ℕ, arith, subst}
use Rattle.moo_cli_web_listener.specs.Callers.{IsFirst}
use Rattle.moo_cli_web_listener.proofs.listener.first_caller.Goals as goal

pub returns-clause-first : goal.returns-clause-first
returns-clause-first c =
    let all : c.loop-key.key ≡ c.args.callers.now.capacity = omega (arith, c.loop-key-test.false, c.loop-key.auto.key-end, c.capacity-key-end.ensures.value) in
    subst (λ (n : ℕ). IsFirst c.args.callers.now n c.loop-key.first) all c.loop-key.invariant
