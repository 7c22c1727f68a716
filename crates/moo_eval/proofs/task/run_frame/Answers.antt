use Rattle.std.proofs.Common.{rules, w32, ◌∙◌}
use Rattle.std.proofs.lemmas.Int.{to_z-of_z}
use mir.Val.{SFits}
use Rattle.moo_eval_frame.specs.Seen.{seen_flow, IsKnown}
use Rattle.moo_eval_access.specs.SeenState.{state_at}
use Rattle.moo_eval.proofs.Ending.{task_ends, first_runs}
use Rattle.moo_eval.proofs.task.run_frame.Goals as goal

pub returns-clause-ends : goal.returns-clause-ends
returns-clause-ends c =
    let f : SFits w32 c.running.result.programmer = search rules in
    task_ends _ _ _ _ _ _ (state_at c.run_all-outcome.new.task.ticks_left c.run_all-outcome.new.task.notices.items c.run_all-outcome.new.world c.run_all-outcome.new.active) (seen_flow c.run_all-outcome.result) (IsKnown c.run_all-outcome.result) c.end_of_task.ensures.end c.end_of_task.ensures.known
    (λ k. first_runs _ c.args.start _ c.running.result _ _ _ _ _ _ _ _ c.running.ensures c.none.ensures c.new-task.ensures.ticks (c.in-Ok.ensures ∙ c.requires) (to_z-of_z w32 c.running.result.programmer f) c.new-task.ensures.notices c.code-statements.ensures (c.run_all-outcome.ensures.meaning k)) c.in-Ok-leave_notices.ensures.left
