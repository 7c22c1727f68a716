use Rattle.std.proofs.lemmas.Result.{err_from_is_err_and}
use Rattle.moo_checkpoint.proofs.Answered.{fault_tells}
use Rattle.moo_checkpoint.proofs.recovery.recover_all.Goals as goal

pub returns-in_err-finish-clause-answer : goal.returns-in_err-finish-clause-answer
returns-in_err-finish-clause-answer g c = λ honest.
    let text = (g.D.Disk.kind.view c.args.disk.now).main_text in
    let p = err_from_is_err_and c.from_residual-in_err-finish.result c.from_residual-in_err-finish.ensures.1 in
    rw p.1 (fault_tells text c.in_err-finish.field-0.0 p.0 p.2 (c.in_err-finish.ensures.answer text (c.in_ok-feed_main.ensures.fed honest c.new-reader.ensures)))
