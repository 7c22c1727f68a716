-- What the operators give.
use Rattle.std.specs.Prelude.{◌+ℤ◌, ◌-ℤ◌, ◌*ℤ◌, neg_ℤ, ◌++◌, not, Result, Ok, Err}
use Rattle.std.specs.Ordering.{is_lt, is_le, is_gt, is_ge}
use Rattle.moo_value.specs.declared.error_code.ErrorCode.{ErrorCode}
use Rattle.moo_value.specs.declared.error_code.ErrorCode.TheVariants.{TypeMismatch}
use Rattle.moo_value.specs.Tree.{Tree, integer, string}
use Rattle.moo_value.specs.Compare.{order}
use Rattle.moo_syntax_ast.specs.declared.operator.UnaryOperator.{UnaryOperator}
use Rattle.moo_syntax_ast.specs.declared.operator.UnaryOperator.TheVariants.{Not, Negate}
use Rattle.moo_syntax_ast.specs.declared.operator.BinaryOperator.{BinaryOperator}
use Rattle.moo_syntax_ast.specs.declared.operator.BinaryOperator.TheVariants.{Add, Subtract, Multiply, Divide, Remainder, Power, Equal, NotEqual, Less, LessOrEqual, Greater, GreaterOrEqual, In}
use Rattle.moo_builtin_operator.specs.Answer.{limited}
use Rattle.moo_builtin_operator.specs.Truth.{is_true, equal, truth_value}
use Rattle.moo_builtin_operator.specs.Arithmetic.{wrapped, on_integers, quotient, remainder, power}
use Rattle.moo_builtin_operator.specs.Comparison.{compared, place_in}

abbrev pub negated : Tree → Result Tree ErrorCode
negated (integer i) = Ok (wrapped (neg_ℤ i))
negated _ = Err TypeMismatch

abbrev pub unary_of : UnaryOperator → Tree → Result Tree ErrorCode
unary_of Not a = Ok (truth_value (not (is_true a)))
unary_of Negate a = negated a

-- the sum of two integers, or two strings joined
abbrev pub added : Tree → Tree → Result Tree ErrorCode
added (string s) (string t) = limited (string (s ++ t))
added a b = on_integers (λ i j. Ok (wrapped (i +ℤ j))) a b

abbrev pub binary_of : BinaryOperator → Tree → Tree → Result Tree ErrorCode
binary_of Add a b = added a b
binary_of Subtract a b = on_integers (λ i j. Ok (wrapped (i -ℤ j))) a b
binary_of Multiply a b = on_integers (λ i j. Ok (wrapped (i *ℤ j))) a b
binary_of Divide a b = on_integers quotient a b
binary_of Remainder a b = on_integers remainder a b
binary_of Power a b = on_integers power a b
binary_of Equal a b = Ok (truth_value (equal a b))
binary_of NotEqual a b = Ok (truth_value (not (equal a b)))
binary_of Less a b = compared is_lt (order a b)
binary_of LessOrEqual a b = compared is_le (order a b)
binary_of Greater a b = compared is_gt (order a b)
binary_of GreaterOrEqual a b = compared is_ge (order a b)
binary_of In a b = place_in a b
