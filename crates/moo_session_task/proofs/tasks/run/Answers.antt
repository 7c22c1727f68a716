use Rattle.std.proofs.Common.{◌≡◌, ℤ, List, IfOk, ◌∙◌, ap, subst, to_z, of_z, to_z-of_z, w32, SFits, rules}
use Rattle.moo_eval_frame.specs.declared.notice.Notice.{Notice}
use Rattle.moo_session_task.specs.Session.{Session}
use Rattle.moo_session_task.specs.Notices.{all_applied}
use Rattle.moo_session_task.specs.Sending.{all_notified}
use Rattle.moo_session_task.specs.Tasks.{value_of, account_of}
use Rattle.moo_session_task.specs.Seen.{seen_answer, EndIs}
use Rattle.moo_session_task.proofs.Steps.{task_answers}
use Rattle.moo_session_task.proofs.tasks.run.Goals as goal

pub returns : goal.returns
returns c =
    let same : to_z w32 (of_z w32 c.args.start.player) ≡ c.args.start.player = (let fits : SFits w32 c.args.start.player = search rules in to_z-of_z fits) in
    let along : ℤ → Type 0 = λ p. IfOk c.report_end.result (λ v. EndIs c.run_alone-ended.result.0 (λ end.
    (value_of end ≡ seen_answer v) × (c.report_end.new.session ≡ all_notified p (account_of end) c.apply_notices.new.self)))
    in
    task_answers c.report_end.result c.args.moment c.args.start c.args.live.now c.run_alone-ended.new.live.world c.apply_notices.new.self c.report_end.new.session
    c.run_alone-ended.result.0 c.run_alone-ended.result.1.items c.run_alone-ended.ensures.ends
    (c.in_ok-apply_notices.ensures
    ∙ ap (λ (ns : List Notice). all_applied ns c.run_alone-ended.new.live.session) c.deref.ensures.value
    ∙ ap (λ (s : Session). all_applied c.run_alone-ended.result.1.items s) c.run_alone-ended.ensures.kept)
    (subst along same c.report_end.ensures)
