use Rattle.std.proofs.Common.{rules, ℤ, [], Option, None, ap, ◌∙◌, w32}
use Rattle.std.proofs.lemmas.Int.{to_z-of_z}
use Rattle.std.proofs.lemmas.Result.{err_from_is_err_and}
use mir.Val.{SFits}
use Rattle.moo_value.specs.View.{trees}
use Rattle.moo_eval_call.specs.Spliced.{extreme_from}
use Rattle.moo_eval_call.proofs.Extremes.{one_number}
use Rattle.moo_eval_call.proofs.Stretches.{ends_at_values, ends_at_last, finished, viewed}
use Rattle.moo_eval_call.proofs.spliced.extreme_number.Goals as goal

pub returns-in_err-so_far : goal.returns-in_err-so_far
returns-in_err-so_far c =
    let p = err_from_is_err_and c.from_residual.result c.from_residual.ensures.1 in
    let seen = c.deref-stretch-items.result.now in
    let last = trees c.into_stretches-stretches.result.1.items in
    let all = viewed seen c.into_stretches-stretches.result.0.items last c.args.values c.deref-stretch-items.ensures.value c.into_stretches-stretches.ensures in
    rw (p.1, p.2) (ends_at_values c.in_err-so_far.field-0.0 (extreme_from c.args.extreme None) (extreme_from c.args.extreme c.loop-stretch.so_far) seen c.loop-stretch.stretch-index c.stretch-item.result c.deref.result.now last c.args.values c.loop-stretch-test.true c.stretch-item.is c.deref.ensures.value all c.loop-stretch.invariant c.in_err-so_far.ensures.err)

pub returns-in_err-number : goal.returns-in_err-number
returns-in_err-number c =
    let p = err_from_is_err_and c.from_residual-in_err-number.result c.from_residual-in_err-number.ensures.1 in
    let seen = c.deref-stretch-items.result.now in
    let all = viewed seen c.into_stretches-stretches.result.0.items (trees c.into_stretches-stretches.result.1.items) c.args.values c.deref-stretch-items.ensures.value c.into_stretches-stretches.ensures in
    rw (p.1, p.2) (ends_at_last c.in_err-number.field-0.0 (extreme_from c.args.extreme None) (extreme_from c.args.extreme c.loop-stretch.so_far) seen c.loop-stretch.stretch-index c.deref-2.result.now c.into_stretches-stretches.result.1.items c.args.values c.loop-stretch-test.false c.deref-2.ensures.value all c.loop-stretch.invariant c.in_err-number.ensures.err)

pub returns-in-Some : goal.returns-in-Some
returns-in-Some c =
    let fits : SFits w32 c.in-Some.number = search rules in
    let seen = c.deref-stretch-items.result.now in
    let all = viewed seen c.into_stretches-stretches.result.0.items (trees c.into_stretches-stretches.result.1.items) c.args.values c.deref-stretch-items.ensures.value c.into_stretches-stretches.ensures in
    rw (to_z-of_z w32 c.in-Some.number fits)
    (finished (extreme_from c.args.extreme None) (extreme_from c.args.extreme c.loop-stretch.so_far) (extreme_from c.args.extreme c.in_ok-number.field-0) seen c.loop-stretch.stretch-index c.deref-2.result.now c.into_stretches-stretches.result.1.items c.args.values c.loop-stretch-test.false c.deref-2.ensures.value all c.loop-stretch.invariant c.in_ok-number.ensures.ok
    ∙ ap (λ (x : Option ℤ). extreme_from c.args.extreme x []) c.in-Some.is ∙ one_number c.args.extreme c.in-Some.number)

pub returns : goal.returns
returns c =
    let seen = c.deref-stretch-items.result.now in
    let all = viewed seen c.into_stretches-stretches.result.0.items (trees c.into_stretches-stretches.result.1.items) c.args.values c.deref-stretch-items.ensures.value c.into_stretches-stretches.ensures in
    finished (extreme_from c.args.extreme None) (extreme_from c.args.extreme c.loop-stretch.so_far) (extreme_from c.args.extreme c.in_ok-number.field-0) seen c.loop-stretch.stretch-index c.deref-2.result.now c.into_stretches-stretches.result.1.items c.args.values c.loop-stretch-test.false c.deref-2.ensures.value all c.loop-stretch.invariant c.in_ok-number.ensures.ok
    ∙ ap (λ (x : Option ℤ). extreme_from c.args.extreme x []) c.in-None.is
