-- The steps of a function that calls verbs take no tick, and keep the notices so far.
use Rattle.std.proofs.Common.{◌≡◌, List, refl, ap}
use Rattle.moo_value.specs.Tree.{Tree}
use Rattle.moo_syntax_function.specs.declared.function.Function.{Function}
use Rattle.moo_world_table.specs.World.{World}
use Rattle.moo_eval_frame.specs.declared.notice.Notice.TheVariants.{Recycle}
use Rattle.moo_eval_frame.specs.State.{Context}
use Rattle.moo_eval_access.specs.State.{State}
use Rattle.moo_builtin.specs.Telling.{Telling}
use Rattle.moo_eval_semantics.specs.Later.{Later}
use Rattle.moo_eval_semantics.proofs.CallOnward.{kept, stays, moves, leaves_notice}
use Rattle.moo_eval_semantics.specs.declared.stage.Stage.{Stage}
use Rattle.moo_eval_semantics.specs.declared.stage.Stage.TheVariants as stage
use Rattle.moo_eval_semantics.specs.Progressing.{Progress, calling}
use Rattle.moo_eval_semantics.specs.Stages.{next_progress, after_stage, resumed}
use Rattle.moo_eval_semantics.specs.VerbCalls.{Starts, refused, starts}

pub later_start : (T : Telling) {c : Context} {f : Function} {vs : List Tree} {s s' : State} {p : Progress} → Starts T c f vs s p s' → Later s s'
later_start T (refused q) = stays
later_start T (starts q e u) = moves u (kept refl refl)

later_after : (at : Stage) (s : State) (p : Progress × World) → Later s (after_stage at s p).1
later_after (stage.Recycled o) s p = leaves_notice (Recycle o) refl refl
later_after _ s p = kept refl refl

pub later_stage : (c : Context) (at : Stage) (v : Tree) {s s' : State} {p : Progress} → resumed c at v s ≡ (p, s') → Later s s'
later_stage c at v {s = s} e = moves (ap (λ x. x.1) e) (later_after at s (next_progress (calling c s) s.world at v))
