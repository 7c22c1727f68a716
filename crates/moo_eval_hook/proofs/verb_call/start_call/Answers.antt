use Rattle.std.proofs.Common.{◌∙◌, refl, sym}
use Rattle.std.proofs.lemmas.Result.{err_from_is_err_and}
use Rattle.moo_syntax_function.specs.Table.{row}
use Rattle.moo_eval_access.proofs.Counted.{refused_for_number}
use Rattle.moo_builtin_world.specs.Objects.{is_valid}
use Rattle.moo_eval_semantics.specs.VerbCalls.{refused, starts}
use Rattle.moo_eval_hook.specs.SeenByHooks.{calling_of}
use Rattle.moo_eval_hook.proofs.Passed.{ends, takes_any}
use Rattle.moo_eval_hook.proofs.verb_call.start_call.Goals as goal

pub returns-then-are_too_many : goal.returns-then-are_too_many
returns-then-are_too_many c =
    λ ticks notices k. refused (refused_for_number (is_valid c.args.world.now) (row c.args.function) c.args.values (c.are_too_many.ensures c.if-are_too_many.true))

pub returns-in_err-args : goal.returns-in_err-args
returns-in_err-args c =
    let p = err_from_is_err_and c.from_residual.result c.from_residual.ensures.1 in
    rw (p.1, p.2) (λ ticks notices k.
    let h = c.in_err-args.ensures.err k in
    rw h.0 (starts (takes_any (is_valid c.args.world.now) c.args.values) (ends (calling_of c.args.stack.now c.args.active.now) c.args.world.now c.args.values _ h.1) refl))

pub returns-in-Some : goal.returns-in-Some
returns-in-Some c =
    λ ticks notices k. refused (rw (c.deref.ensures.value, c.in_ok-args.ensures.ok) at (sym c.refusal.ensures ∙ c.in-Some.is))

pub returns : goal.returns
returns c =
    λ ticks notices k. starts (rw (c.deref.ensures.value, c.in_ok-args.ensures.ok) at (sym c.refusal.ensures ∙ c.in-None.is)) (rw c.in_ok-args.ensures.ok at (c.begin.ensures k)) refl
