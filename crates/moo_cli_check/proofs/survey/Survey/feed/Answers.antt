use Rattle.moo_dbtext_record.proofs.CuttingLaws.{fed_whole}
use Rattle.moo_dbtext_read.proofs.Cases.{ok_of, err_of}
use Rattle.moo_cli_check.specs.Reading.{SurveysOn}
use Rattle.moo_cli_check.proofs.Ended.{surveys_join, surveys_stop}
use Rattle.moo_cli_check.proofs.survey.Survey.feed.Goals as goal

pub returns : goal.returns
returns c =
    let fed = fed_whole SurveysOn surveys_join surveys_stop c.args.self.now c.feed_lines.new.sink c.args.piece.now c.feed_lines.result c.feed_lines.ensures in
    record { goes = λ bytes h. ok_of c.feed_lines.result _ _ (fed bytes h); stops = λ bytes h. err_of c.feed_lines.result _ _ (fed bytes h) }
