-- A task ends as its statements lead.
use Rattle.std.proofs.Common.{◌≡◌, ℕ, ℤ, List, [], ◌++◌, Option, None, Result, refl, sym, ap, subst, ◌∙◌, append-nil}
use Rattle.moo_world_table.specs.World.{World}
use Rattle.moo_eval_frame.specs.declared.frame.Frame.{Frame}
use Rattle.moo_eval_frame.specs.declared.frame.Running.{Running}
use Rattle.moo_eval_frame.specs.declared.frame.TraceEntry.{TraceEntry}
use Rattle.moo_eval_frame.specs.declared.notice.Notice.{Notice}
use Rattle.moo_eval_frame.specs.Surroundings.{Surroundings}
use Rattle.moo_eval_frame.specs.Outcome.{Stop, Flow}
use Rattle.moo_eval_frame.specs.Variables.{first_bindings}
use Rattle.moo_eval_slot.specs.Bindings.{value_of_name}
use Rattle.moo_eval_frame.specs.State.{Context, running_of}
use Rattle.moo_value.specs.Tree.{Tree}
use Rattle.moo_syntax_ast.specs.Tree.{Block}
use Rattle.moo_eval_access.specs.State.{State}
use Rattle.moo_builtin.specs.Telling.{Faults}
use Rattle.moo_eval_semantics.specs.Tasks.{most_ticks}
use Rattle.moo_eval.specs.declared.task.Ended as code
use Rattle.moo_eval.specs.declared.task.Ended.TheVariants as ended
use Rattle.moo_eval_semantics.specs.Meaning.{RunsAll}
use Rattle.moo_eval.specs.Ends.{IfEnded, LeavesNotices, IsBegunBy}
use Rattle.moo_eval_semantics.specs.Task.{TaskEnds, first_context, first_state, end_of}

pub task_ends : (around : Surroundings) (start : Frame) (before : World) (old new : List Notice) (result : code.Ended) (last : State) (outcome : Result Flow Stop) (Known : Type 0)
    → IfEnded result (λ end. end_of outcome ≡ end) → IfEnded result (λ end. Known)
    → (Known → RunsAll Faults (first_context around start) start.program (first_state start before) outcome last) → new ≡ old ++ last.notices
    → IfEnded result (λ end. LeavesNotices old (TaskEnds Faults around start before end last.world) new)
task_ends around start before old new (ended.Value v) last outcome Known end known runs asked = (last.notices, record { outcome = outcome; last = last; runs = runs known; ends = end; leaves = refl; asks = refl }, asked)
task_ends around start before old new (ended.Uncaught lines) last outcome Known end known runs asked = (last.notices, record { outcome = outcome; last = last; runs = runs known; ends = end; leaves = refl; asks = refl }, asked)
task_ends around start before old new (ended.OutOfTicks lines) last outcome Known end known runs asked = (last.notices, record { outcome = outcome; last = last; runs = runs known; ends = end; leaves = refl; asks = refl }, asked)
task_ends around start before old new ended.Memory last outcome Known end known runs asked = tt

-- statements that run as the first of a task do
pub first_runs : (around : Surroundings) (start : Frame) (before : World) (frame : Running) (callers : List TraceEntry) (ticks : ℕ) (variables : List ℕ → Option Tree) (programmer : ℤ) (notices : List Notice) (b : Block) (o : Result Flow Stop) (last : State)
    → frame ≡ running_of start → callers ≡ [] → ticks ≡ most_ticks → variables ≡ value_of_name (first_bindings start) → programmer ≡ frame.programmer → notices ≡ [] → b ≡ frame.program
    → RunsAll Faults (record { frame = frame; callers = callers; indexed = None; surroundings = around }) b (record { ticks = ticks; world = before; variables = variables; programmer = programmer; notices = notices }) o last
    → RunsAll Faults (first_context around start) start.program (first_state start before) o last
first_runs around start before frame callers ticks variables programmer notices b o last f p q r v m u d =
    let own = v ∙ ap (λ x. x.programmer) f in
    let program : b ≡ start.program = u ∙ ap (λ x. x.program) f in
    let context : ◌≡◌ {A = Context} (record { frame = frame; callers = callers; indexed = None; surroundings = around }) (first_context around start) = λ i. record { frame = f i; callers = p i; indexed = None; surroundings = around } in
    let state : ◌≡◌ {A = State} (record { ticks = ticks; world = before; variables = variables; programmer = programmer; notices = notices }) (first_state start before) = λ i. record { ticks = q i; world = before; variables = r i; programmer = own i; notices = m i } in
    subst (λ x. RunsAll Faults (first_context around start) x (first_state start before) o last) program (subst (λ x. RunsAll Faults x b (first_state start before) o last) context (subst (λ x. RunsAll Faults (record { frame = frame; callers = callers; indexed = None; surroundings = around }) b x o last) state d))

-- notices that stay, with others after them or without
pub followed : (old new more : List Notice) → new ≡ old ++ more → IsBegunBy old new
followed old new more added = (more, added)

pub unchanged : (old new : List Notice) → new ≡ old → IsBegunBy old new
unchanged old new same = ([], same ∙ sym (append-nil old))
