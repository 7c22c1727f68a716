-- The table of the built-in functions and the groups that define them.
use Rattle.std.specs.Prelude.{◌≡◌, ℕ, false, List, None}
use Rattle.moo_value.specs.Tree.{Tree}
use Rattle.moo_syntax_function.specs.declared.function.Function.{Function}
use Rattle.moo_builtin_value.specs.Calls.{answer}
use Rattle.moo_builtin.specs.Calls.{values, field}
use Rattle.moo_eval_semantics.specs.Calls.{is_of_task}
use Rattle.moo_eval_semantics.specs.VerbCalls.{calls_verbs}

-- No function of the table is without a group. Each is of the task, calls verbs, or is over the objects of the world or
-- on code. Otherwise it is one of those over values, and gives or raises something there. What it does in a group is
-- said by the group's definitions.
abbrev pub EachFunctionHasAGroup : Type 0
EachFunctionHasAGroup = (f : Function) → is_of_task f ≡ false → calls_verbs f ≡ false → field f ≡ values → (moment : ℕ) (args : List Tree) → answer f moment args ≡ None → ⊥
