use Rattle.std.proofs.Common.{sym, subst}
use Rattle.moo_dbtext_object.specs.Lines.{limited}
use Rattle.moo_dbtext_record.specs.Answer.{Answers, taken_of}
use Rattle.moo_dbtext_record.proofs.TakenLaws.{whole_taken}
use Rattle.moo_dbtext_record.proofs.record_reader.RecordReaderLineSink.take_line.Goals as goal

pub returns : goal.returns
returns c = subst (Answers _ c.end_line.result) (sym (whole_taken limited (taken_of c.args.self.now) c.args.line.now c.requires)) c.end_line.ensures
