-- What the functions that take any number of values give of those so far and of those that follow.
use Rattle.std.specs.Prelude.{◌≡◌, ℕ, ℤ, List, [], ◌∷◌, ◌++◌, Option, None, Some, Result, Err}
use Rattle.std.specs.Int.{int_min, int_max}
use Rattle.std.specs.List.{flat_map}
use Rattle.moo_value.specs.declared.error_code.ErrorCode.{ErrorCode}
use Rattle.moo_value.specs.declared.error_code.ErrorCode.TheVariants.{Arguments, TypeMismatch}
use Rattle.moo_value.specs.Text.{plain}
use Rattle.moo_value.specs.Tree.{Tree, integer, string}
use Rattle.moo_builtin_operator.specs.declared.fault.OperationFault.{OperationFault}
use Rattle.moo_builtin_operator.specs.Answer.{limited}
use Rattle.moo_builtin_value.specs.TextAnswers.{Gives}
use Rattle.moo_builtin_value.specs.Numbers.{least_of, greatest_of}
use Rattle.moo_eval_call.specs.declared.spliced.Extreme.{Extreme}
use Rattle.moo_eval_call.specs.declared.spliced.Extreme.TheVariants.{Least, Greatest}

-- what is given of values
abbrev pub Giving : Type 0
Giving = List Tree → Result Tree ErrorCode

-- `tostr`: a text so far, and the texts of the values
abbrev pub text_from : List ℕ → Giving
text_from text ts = limited (string (text ++ flat_map plain ts))

-- `min` and `max`: the least or the greatest of a number so far and of the values
abbrev pub extreme_of : Extreme → ℤ → Giving
extreme_of Least i ts = least_of i ts
extreme_of Greatest i ts = greatest_of i ts

-- the least or the greatest, if there may be no number so far: one is needed
abbrev pub extreme_from : Extreme → Option ℤ → Giving
extreme_from e (Some i) ts = extreme_of e i ts
extreme_from e None [] = Err Arguments
extreme_from e None (integer i ∷ ts) = extreme_of e i ts
extreme_from e None _ = Err TypeMismatch

-- the further of two numbers, if there may be none so far
abbrev pub better : Extreme → Option ℤ → ℤ → ℤ
better e None j = j
better Least (Some i) j = int_min i j
better Greatest (Some i) j = int_max j i

-- past these values the one goes on as the other, whatever follows
abbrev pub GoesOn : Giving → List Tree → Giving → Type 0
GoesOn from ts to = (more : List Tree) → from (ts ++ more) ≡ to more

-- it ends at these values, whatever follows
abbrev pub Ends : OperationFault → Giving → List Tree → Type 0
Ends fault from ts = (more : List Tree) → Gives (Err fault) (from (ts ++ more))
