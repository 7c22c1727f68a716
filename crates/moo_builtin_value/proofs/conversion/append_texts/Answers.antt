use Rattle.std.proofs.lemmas.Result.{err_from_is_err_and}
use Rattle.moo_builtin_value.proofs.Joined.{all_refused}
use Rattle.moo_builtin_value.proofs.conversion.append_texts.Goals as goal

pub returns-in_err-append_text-clause-err : goal.returns-in_err-append_text-clause-err
returns-in_err-append_text-clause-err c =
    let p = err_from_is_err_and c.from_residual-in_err-append_text.result c.from_residual-in_err-append_text.ensures.1 in
    rw (p.1, p.2) (all_refused c.in_err-append_text.field-0.0 c.args.values.now c.loop-value.value-index c.value-item.result c.args.text.now.items c.loop-value.text.items c.loop-value-test.true c.value-item.is c.loop-value.invariant.texts c.in_err-append_text.ensures.err)
