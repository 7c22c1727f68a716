use Rattle.std.proofs.Common.{subst, sym}
use Rattle.std.proofs.lemmas.Result.{err_from_is_err_and}
use Rattle.moo_dbtext_object.specs.Lines.{limited}
use Rattle.moo_dbtext_record.specs.Texts.{text_of}
use Rattle.moo_dbtext_record.specs.Answer.{Answers, taken_of}
use Rattle.moo_dbtext_record.proofs.TakenLaws.{finish_fails, finish_answers}
use Rattle.moo_dbtext_record.proofs.Sparing.{at_end}
use Rattle.moo_dbtext_record.proofs.record_reader.RecordReader.finish.Goals as goal

pub returns-in_err-self-clause-answer : goal.returns-in_err-self-clause-answer
returns-in_err-self-clause-answer c = λ bytes taken.
    let p = err_from_is_err_and c.from_residual.result c.from_residual.ensures.1 in
    rw (p.1, p.2) (finish_fails limited c.args.self.outcome c.in_err-self.field-0.0 (taken_of c.args.self) bytes c.in_err-self.was taken)

pub returns-clause-answer : goal.returns-clause-answer
returns-clause-answer c = λ bytes taken. subst (Answers text_of c.end.result) (sym (finish_answers limited c.args.self.outcome (taken_of c.args.self) bytes c.in_ok-self.was taken)) c.end.ensures

pub returns-clause-spare : goal.returns-clause-spare
returns-clause-spare c = λ going bytes at. at_end c.args.self bytes c.end.result at c.end.ensures
