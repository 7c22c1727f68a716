-- What the program's answers mean.
use Rattle.std.specs.Prelude.{Option}
use Rattle.std.specs.Option.{option_map}
use Rattle.moo_value.specs.declared.value.Value.{Value}
use Rattle.moo_value.specs.Tree.{Tree}
use Rattle.moo_value.specs.View.{tree}
use Rattle.moo_eval.specs.declared.task.Ended as code
use Rattle.moo_eval.specs.declared.task.Ended.TheVariants as ended
use Rattle.moo_eval_semantics.specs.Task.{End, value, uncaught, out_of_ticks}
use Rattle.moo_eval.specs.Ends.{texts}

abbrev pub seen_answer : Option Value → Option Tree
seen_answer answer = option_map tree answer

-- a task has ended, and its end is such
abbrev pub EndIs : code.Ended → (End → Type 0) → Type 0
EndIs (ended.Value v) P = P (value (tree v))
EndIs (ended.Uncaught lines) P = P (uncaught (texts lines.items))
EndIs (ended.OutOfTicks lines) P = P (out_of_ticks (texts lines.items))
EndIs ended.Memory P = ⊥
