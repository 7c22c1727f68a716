use Rattle.std.proofs.Common.{refl, sym, ◌∙◌, inl}
use Rattle.std.proofs.lemmas.Result.{err_from_is_err_and}
use Rattle.moo_dbtext_record.proofs.Sparing.{at_stops}
use Rattle.moo_dbtext_read.proofs.Cases.{ok_then, err_then, match_of}
use Rattle.moo_dbtext_read.proofs.After.{at_dot}
use Rattle.moo_cli_check.proofs.After.{after_still, after_ended}
use Rattle.moo_cli_check.proofs.Ended.{line_ended}
use Rattle.moo_cli_check.proofs.survey.SurveyLineSink.take_line.Goals as goal

pub returns-in-None : goal.returns-in-None
returns-in-None c = λ bytes h.
    after_still c.args.self.now _ bytes c.args.line.now c.requires h c.in_ok-object.ensures.ok (c.in_ok-object.ensures.steps h.going) (sym c.in_ok-object.ensures.ended ∙ c.in-None.is) refl

pub returns-in-Some : goal.returns-in-Some
returns-in-Some c = λ bytes h.
    let d = at_dot c.args.self.now.records c.take_line.new.records bytes c.args.line.now c.in-Some.object c.in-Some.verb c.requires h.at (c.in_ok-object.ensures.steps h.going) (sym c.in_ok-object.ensures.ended ∙ c.in-Some.is) in
    match_of c.note.result _ _
    (ok_then c.note.result _ _ c.note.ensures.noted (λ noted.
    after_ended c.args.self.now c.note.new.self c.take_line.new.records bytes c.args.line.now c.in-Some.object c.in-Some.verb h d (c.note.ensures.going c.in_ok-object.ensures.ok) c.note.ensures.alike (noted _ d.had)))
    (err_then c.note.result _ _ c.note.ensures.memory (λ e memory. inl memory))

pub returns-in_err-object : goal.returns-in_err-object
returns-in_err-object c = λ bytes h.
    let e = c.in_err-object.field-0.0 in
    let p = err_from_is_err_and c.from_residual.result c.from_residual.ensures.1 in
    rw (p.1, p.2) (line_ended c.args.self.now bytes c.args.line.now e c.requires h (at_stops c.args.self.now.records bytes c.args.line.now e h.at (c.in_err-object.ensures.stops h.going)))
