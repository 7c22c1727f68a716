-- `pass`: the verb of the same name further up.
use Rattle.std.specs.Prelude.{List, Result, Ok, Err}
use Rattle.moo_value.specs.Tree.{Tree}
use Rattle.moo_world_table.specs.World.{World}
use Rattle.moo_eval_frame.specs.Outcome.{Failure, answers}
use Rattle.moo_eval_access.specs.Entering.{Entered, entered_from}
use Rattle.moo_eval_semantics.specs.declared.stage.Stage.{Stage}
use Rattle.moo_eval_semantics.specs.declared.stage.Stage.TheVariants.{Passed}
use Rattle.moo_eval_semantics.specs.Progressing.{Calling, Progress, done, verb_next}
use Rattle.moo_eval_semantics.specs.Objects.{parent}

-- a verb that runs for the function, or the function fails as the call of it does
abbrev pub run_by : Stage → Result Entered Failure → Progress
run_by stage (Ok e) = verb_next e stage
run_by stage (Err failure) = done (Err failure)

-- The search uses the name of the running verb, and starts at the parent of the object that has it. The verb runs on
-- the same object.
unfoldable pub passing : Calling → World → List Tree → Progress
passing k w vs =
    let f = k.context.frame in
    run_by Passed (answers (entered_from w k.context k.variables k.programmer f.this (parent w f.definer) f.verb vs))
