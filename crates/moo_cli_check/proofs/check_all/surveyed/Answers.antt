use Rattle.std.proofs.Common.{◌≡◌, ◌≢◌, ◌∙◌, ℕ, ap, subst}
use Rattle.std.specs.Io.KnownBytes.{Appends}
use Rattle.moo_dbtext_record.specs.declared.fault.DbFaultKind.TheVariants.{Memory}
use Rattle.moo_cli_io.specs.Told.{fault_line}
use Rattle.moo_cli_io.proofs.GivenUp.{if_ok}
use Rattle.moo_cli_check.specs.Answers.{LacksMemory}
use Rattle.moo_cli_check.specs.Shown.{IsAnswered, survey_text}
use Rattle.moo_cli_check.specs.declared.readers.Answer.TheVariants as answer
use Rattle.moo_cli_check.proofs.Answered.{saved_shown, other_told, surveyed_told}
use Rattle.moo_cli_check.proofs.check_all.surveyed.Goals as goal

pub returns-in-Ok-clause-answered : goal.returns-in-Ok-clause-answered
returns-in-Ok-clause-answered g c =
    let known = g.I.Read.remaining c.args.input.now in
    let old = g.O.Write.contents c.args.output.now in
    let new = g.O.Write.contents c.show.new.output in
    if_ok (λ (status : ℕ). (status ≡ 0) × Appends old new c.deref.result.now) (λ (status : ℕ). IsAnswered known old new status) c.show.result
    (λ status h. saved_shown known old new c.deref.result.now c.in_ok-saved.field-0 c.in-Checked-Ok.saved status (c.in-Checked-Ok.is ∙ ap (λ r. answer.Checked r) c.in-Checked-Ok.field-0-is) c.in_ok-saved.ensures.answer (c.deref.ensures.value ∙ c.in-Ok.ensures) h.0 h.1) c.show.ensures.shown

pub returns-in-Checked-Err-clause-answered : goal.returns-in-Checked-Err-clause-answered
returns-in-Checked-Err-clause-answered g c =
    let known = g.I.Read.remaining c.args.input.now in
    let old = g.O.Write.contents c.args.output.now in
    let new = g.O.Write.contents c.report_fault.new.output in
    if_ok (λ (status : ℕ). (status ≡ 1) × (c.in-Checked-Err.fault.kind ≢ Memory) × Appends old new (fault_line c.in-Checked-Err.fault)) (λ (status : ℕ). IsAnswered known old new status) c.report_fault.result
    (λ status h. other_told known old new c.in_ok-saved.field-0 c.in-Checked-Err.fault status (c.in-Checked-Err.is ∙ ap (λ r. answer.Checked r) c.in-Checked-Err.field-0-is) c.in_ok-saved.ensures.answer h.1 h.0 h.2) c.report_fault.ensures.reported

pub returns-in-Surveyed-clause-answered : goal.returns-in-Surveyed-clause-answered
returns-in-Surveyed-clause-answered g c =
    let known = g.I.Read.remaining c.args.input.now in
    let old = g.O.Write.contents c.args.output.now in
    let new = g.O.Write.contents c.report_all.new.output in
    if_ok (λ (status : ℕ). (status ≡ 1) × (LacksMemory c.in-Surveyed.end → ⊥) × Appends old new (survey_text c.deref-in-Surveyed.result.now c.in-Surveyed.end)) (λ (status : ℕ). IsAnswered known old new status) c.report_all.result
    (λ status h. surveyed_told known old new c.in_ok-saved.field-0 c.in-Surveyed.faults c.in-Surveyed.end status c.in-Surveyed.is c.in_ok-saved.ensures.answer h.1 h.0 (subst (λ es. Appends old new (survey_text es c.in-Surveyed.end)) c.deref-in-Surveyed.ensures.value h.2)) c.report_all.ensures.reported
