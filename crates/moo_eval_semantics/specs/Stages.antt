-- What comes at each stage, once the verb before it has answered.
use Rattle.std.specs.Prelude.{pos, List, [], ◌∷◌, ◌++◌}
use Rattle.moo_value.specs.Tree.{Tree, integer, object}
use Rattle.moo_builtin_operator.specs.Truth.{is_true}
use Rattle.moo_world_table.specs.World.{World}
use Rattle.moo_eval_frame.specs.declared.notice.Notice.{Notice}
use Rattle.moo_eval_frame.specs.declared.notice.Notice.TheVariants.{Recycle}
use Rattle.moo_eval_frame.specs.Outcome.{answers}
use Rattle.moo_eval_frame.specs.State.{Context}
use Rattle.moo_eval_access.specs.State.{State}
use Rattle.moo_eval_semantics.specs.declared.stage.Stage.{Stage}
use Rattle.moo_eval_semantics.specs.declared.stage.Stage.TheVariants as stage
use Rattle.moo_eval_semantics.specs.Progressing.{Calling, calling, Progress, done, gives}
use Rattle.moo_eval_semantics.specs.Objects.{first_inside}
use Rattle.moo_eval_semantics.specs.Evaluating.{has_given}
use Rattle.moo_eval_semantics.specs.Moving.{accepted, after_leaving}
use Rattle.moo_eval_semantics.specs.Recycling.{emptied}

-- by what the verb has answered
abbrev pub next_progress : Calling → World → Stage → Tree → Progress × World
next_progress k w stage.Passed v = (gives v, w)
next_progress k w (stage.Created o) v = (gives (object o), w)
next_progress k w (stage.Accepting what to) v = accepted k w what to (is_true v)
next_progress k w (stage.Leaving what to) v = after_leaving k w what to
next_progress k w stage.Entering v = (gives (integer (pos 0)), w)
next_progress k w (stage.Emptying o) v = emptied k w o (first_inside w o)
next_progress k w (stage.Recycled o) v = (gives (integer (pos 0)), w)
next_progress k w stage.Evaluated v = (done (answers (has_given v)), w)

-- the notice of a removed object is left once its verbs have run
abbrev pub noticed : Stage → List Notice → List Notice
noticed (stage.Recycled o) notices = notices ++ Recycle o ∷ []
noticed _ notices = notices

abbrev pub after_stage : Stage → State → Progress × World → Progress × State
after_stage at s p = (p.0, record s { world = p.1; notices = noticed at s.notices })

-- a function at a stage, with what the verb before it answered
abbrev pub resumed : Context → Stage → Tree → State → Progress × State
resumed c at v s = after_stage at s (next_progress (calling c s) s.world at v)
