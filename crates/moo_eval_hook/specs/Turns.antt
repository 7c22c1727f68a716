-- How often a function can go on before it ends, as long as no verb changes the world.
use Rattle.std.specs.Prelude.{ℕ, ℤ, suc, length}
use Rattle.std.specs.Option.{unwrap_or, option_map}
use Rattle.moo_world_tree.specs.Forest.{below_of}
use Rattle.moo_world_table.specs.World.{World}
use Rattle.moo_world.specs.Calls.{number_of}
use Rattle.moo_eval_semantics.specs.declared.stage.Stage.{Stage}
use Rattle.moo_eval_semantics.specs.declared.stage.Stage.TheVariants as stage
use Rattle.moo_eval_semantics.specs.Progressing.{Progress, done, verb_next, stage_next}

-- how many things are in an object
abbrev pub count_inside : World → ℤ → ℕ
count_inside w o = unwrap_or (option_map (λ x. length (below_of w.containment x)) (number_of w.objects o)) 0

-- at most so many steps come after what follows from a stage
abbrev pub stage_turns : World → Stage → ℕ
stage_turns w (stage.Accepting what to) = 2
stage_turns w (stage.Leaving what to) = 1
stage_turns w (stage.Emptying o) = suc (count_inside w o)
stage_turns w _ = 0

-- at most so many steps come after a step
abbrev pub progress_turns : World → Progress → ℕ
progress_turns w (done r) = 0
progress_turns w (verb_next e at) = suc (stage_turns w at)
progress_turns w (stage_next at) = suc (stage_turns w at)
