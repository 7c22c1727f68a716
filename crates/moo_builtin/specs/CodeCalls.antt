-- The results of the functions on the code of verbs.
use Rattle.std.specs.Prelude.{ℤ, List, [], ◌∷◌, Bool, true, false, IsOk}
use Rattle.moo_value.specs.Tree.{Tree, object}
use Rattle.moo_builtin_value.specs.TextAnswers.{IsMade}
use Rattle.moo_syntax_function.specs.declared.function.Function.{Function}
use Rattle.moo_syntax_function.specs.declared.function.Function.TheVariants.{VerbCode, SetVerbCode}
use Rattle.moo_world_table.specs.World.{World}
use Rattle.moo_builtin.specs.Answers.{Outcomes, Only}
use Rattle.moo_builtin.specs.Telling.{Telling}
use Rattle.moo_builtin.specs.Listed.{verb_code}
use Rattle.moo_builtin.specs.Setting.{verb_to_set, SetsCode}

-- the functions that list the code of a verb or set it
abbrev pub is_of_code : Function → Bool
is_of_code VerbCode = true
is_of_code SetVerbCode = true
is_of_code _ = false

-- the result of each of them for arguments that fit
abbrev pub Answers : Telling → Function → World → ℤ → List Tree → Outcomes
Answers T VerbCode w p args r after = Only (verb_code w p args) w r after
Answers T SetVerbCode w p args r after = SetsCode T w p args r after
Answers T _ w p args r after = ⊥

-- a text is read only for a verb that is there and that the programmer may set
abbrev pub SetMayLack : World → ℤ → List Tree → Type 0
SetMayLack w p (object o ∷ t ∷ text ∷ []) = IsOk (verb_to_set w p o t)
SetMayLack w p _ = ⊥

-- where memory may run out: for a listing that is made, and for a text that is read
abbrev pub MayLack : Function → World → ℤ → List Tree → Type 0
MayLack VerbCode w p args = IsMade (verb_code w p args)
MayLack SetVerbCode w p args = SetMayLack w p args
MayLack _ w p args = ⊥
