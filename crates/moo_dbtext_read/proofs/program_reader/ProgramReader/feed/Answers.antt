use Rattle.std.proofs.Common.{◌≡◌, Err}
use Rattle.moo_dbtext_record.proofs.CuttingLaws.{fed_whole}
use Rattle.moo_dbtext_read.specs.Reading.{ReadsOn}
use Rattle.moo_dbtext_read.proofs.Refused.{refused_then, read_failed, read_well, read_kept, reads_join, reads_stop}
use Rattle.moo_dbtext_read.proofs.program_reader.ProgramReader.feed.Goals as goal

pub returns-in_err-self-clause-taken : goal.returns-in_err-self-clause-taken
returns-in_err-self-clause-taken c = λ bytes h.
    let failed : c.args.self.now.outcome ≡ Err c.in_err-self.field-0.0 = c.in_err-self.was in
    rw failed (refused_then bytes c.args.piece.now c.in_err-self.field-0.0 (read_failed c.args.self.now c.in_err-self.field-0.0 bytes failed h))

pub returns-clause-taken : goal.returns-clause-taken
returns-clause-taken c = λ bytes h.
    let following = read_well c.args.self.now bytes c.in_ok-self.was h in
    read_kept c.feed_lines-self.result c.feed_lines-self.new.sink _ (fed_whole ReadsOn reads_join reads_stop c.args.self.now c.feed_lines-self.new.sink c.args.piece.now c.feed_lines-self.result c.feed_lines-self.ensures bytes following)
