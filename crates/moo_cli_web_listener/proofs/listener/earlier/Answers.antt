use Rattle.std.proofs.Common.{ℕ, ◌+◌, ◌≤◌, ◌<◌, Option, Some, subst, sym}
use Rattle.moo_cli_web_listener.specs.Callers.{IsFirst}
use Rattle.moo_cli_web_listener.proofs.Calling.{first_earlier, first_none, first_stays}
use Rattle.moo_cli_web_listener.proofs.listener.earlier.Goals as goal

pub returns-in-None : goal.returns-in-None
returns-in-None c is =
    subst (λ (place : ℕ). IsFirst c.args.callers.now (c.args.key + 1) (Some (place, c.args.key))) (sym c.place-place.ensures)
    (first_none c.args.callers.now c.args.key c.in-Some.caller.now c.in-Some.ensures
    (subst (λ (first : Option (ℕ × ℕ)). IsFirst c.args.callers.now c.args.key first) c.in-None.is is))

pub returns-in-Some-first : goal.returns-in-Some-first
returns-in-Some-first c is =
    first_stays c.args.callers.now c.args.key c.in-Some-first.first c.in-Some.caller.now c.in-Some.ensures
    (subst (λ (place : ℕ). c.in-Some-first.first.0 ≤ place) c.place-place.ensures c.if-first-place.true)
    (subst (λ (first : Option (ℕ × ℕ)). IsFirst c.args.callers.now c.args.key first) c.in-Some-first.is is)

pub returns-in-Some-2 : goal.returns-in-Some-2
returns-in-Some-2 c is =
    subst (λ (place : ℕ). IsFirst c.args.callers.now (c.args.key + 1) (Some (place, c.args.key))) (sym c.place-place.ensures)
    (first_earlier c.args.callers.now c.args.key c.in-Some-first.first c.in-Some.caller.now c.in-Some.ensures
    (subst (λ (place : ℕ). place < c.in-Some-first.first.0) c.place-place.ensures c.if-first-place.false)
    (subst (λ (first : Option (ℕ × ℕ)). IsFirst c.args.callers.now c.args.key first) c.in-Some-first.is is))
