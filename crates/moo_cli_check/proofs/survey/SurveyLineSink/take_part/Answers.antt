use Rattle.std.proofs.Common.{refl}
use Rattle.std.proofs.lemmas.Result.{err_from_is_err_and}
use Rattle.moo_dbtext_record.proofs.Sparing.{at_stops}
use Rattle.moo_cli_check.proofs.After.{after_part}
use Rattle.moo_cli_check.proofs.Ended.{part_ended}
use Rattle.moo_cli_check.proofs.survey.SurveyLineSink.take_part.Goals as goal

pub returns : goal.returns
returns c = λ bytes h.
    after_part c.args.self.now _ bytes c.args.part.now c.requires h c.in_ok-feed.ensures.ok (c.in_ok-feed.ensures.steps h.going) refl

pub returns-in_err-feed : goal.returns-in_err-feed
returns-in_err-feed c = λ bytes h.
    let e = c.in_err-feed.field-0.0 in
    let p = err_from_is_err_and c.from_residual.result c.from_residual.ensures.1 in
    rw (p.1, p.2) (part_ended c.args.self.now bytes c.args.part.now e _ c.requires h (at_stops c.args.self.now.records bytes c.args.part.now e h.at (c.in_err-feed.ensures.steps h.going)))
