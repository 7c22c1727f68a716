use Rattle.std.proofs.Common.{◌≡◌, Err}
use Rattle.moo_dbtext_object.specs.Lines.{limited}
use Rattle.moo_dbtext_record.specs.Answer.{taken_of}
use Rattle.moo_dbtext_record.proofs.TakenLaws.{feed_fails, fed}
use Rattle.moo_dbtext_record.proofs.record_reader.RecordReader.feed_line.Goals as goal

pub returns-in_err-self-clause-taken : goal.returns-in_err-self-clause-taken
returns-in_err-self-clause-taken c = λ bytes taken.
    let failed : c.args.self.now.outcome ≡ Err c.in_err-self.field-0.0 = c.in_err-self.was in
    rw failed (feed_fails limited c.args.self.now.outcome c.in_err-self.field-0.0 (taken_of c.args.self.now) bytes c.args.line.now c.in_err-self.was taken)

pub returns-clause-taken : goal.returns-clause-taken
returns-clause-taken c = λ bytes taken.
    fed c.args.self.now.outcome (taken_of c.args.self.now) (taken_of c.take_line-self.new.self) bytes c.args.line.now c.take_line-self.result c.in_ok-self.was taken c.take_line-self.ensures
