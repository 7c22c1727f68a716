use Rattle.std.proofs.Common.{◌≡◌, ◌≢◌, ◌∙◌, ℕ, List, IfSome, Ok, subst}
use Rattle.std.specs.Prelude.{Result}
use Rattle.std.specs.Io.KnownBytes.{Appends}
use Rattle.moo_dbtext_record.specs.declared.fault.DbFault.{DbFault}
use Rattle.moo_dbtext_record.specs.declared.fault.DbFaultKind.TheVariants.{Memory}
use Rattle.moo_dbtext_read.specs.Saved.{saved_of, SpellsSaved}
use Rattle.moo_dbtext_read.specs.declared.saved.Saved as stored
use Rattle.moo_dbtext_read.specs.Loading.{LoadAnswers}
use Rattle.moo_dbtext_read.proofs.Whole.{is_found}
use Rattle.moo_cli_io.specs.Told.{fault_line}
use Rattle.moo_cli_check.specs.Database.{counts_line, IsAnswered}
use Rattle.moo_cli_io.proofs.GivenUp.{if_ok, if_some}
use Rattle.moo_cli_check.proofs.Shown.{read_shown, refused_told}
use Rattle.moo_cli_check.proofs.check.checked.Goals as goal

pub returns-in-Ok-counts_line-clause-answered : goal.returns-in-Ok-counts_line-clause-answered
returns-in-Ok-counts_line-clause-answered g c =
    let known = g.I.Read.remaining c.args.input.now in
    let old = g.O.Write.contents c.args.output.now in
    let new = g.O.Write.contents c.show.new.output in
    let answer = subst (λ (l : Result stored.Saved DbFault). IfSome known (LoadAnswers l)) c.in-Ok.is c.in_ok-loaded.ensures.answer in
    let spelled = if_some (λ (b : List ℕ). LoadAnswers (Ok c.in-Ok.saved) b) (λ (b : List ℕ). SpellsSaved b (saved_of c.in-Ok.saved)) known (λ b h. is_found b (Ok c.in-Ok.saved) h) answer in
    if_ok (λ (status : ℕ). (status ≡ 0) × Appends old new c.deref.result.now) (λ (status : ℕ). IsAnswered counts_line known old new status) c.show.result
    (λ status h. read_shown counts_line known old new c.deref.result.now status (saved_of c.in-Ok.saved) spelled (c.deref.ensures.value ∙ c.in-Ok-counts_line.ensures) h.0 h.1) c.show.ensures.shown

pub returns-in-Err-clause-answered : goal.returns-in-Err-clause-answered
returns-in-Err-clause-answered g c =
    let known = g.I.Read.remaining c.args.input.now in
    let old = g.O.Write.contents c.args.output.now in
    let new = g.O.Write.contents c.report_fault.new.output in
    let answer = subst (λ (l : Result stored.Saved DbFault). IfSome known (LoadAnswers l)) c.in-Err.is c.in_ok-loaded.ensures.answer in
    if_ok (λ (status : ℕ). (status ≡ 1) × (c.in-Err.fault.kind ≢ Memory) × Appends old new (fault_line c.in-Err.fault)) (λ (status : ℕ). IsAnswered counts_line known old new status) c.report_fault.result
    (λ status h. refused_told counts_line known old new c.in-Err.fault status answer h.1 h.0 h.2) c.report_fault.ensures.reported
