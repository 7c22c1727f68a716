-- The operands that are in parentheses.
use Rattle.std.specs.Prelude.{ℕ, Bool, nat_lt}
use Rattle.moo_syntax_ast.specs.declared.operator.BinaryOperator.{BinaryOperator}
use Rattle.moo_syntax_ast.specs.declared.operator.BinaryOperator.TheVariants as operator
use Rattle.moo_syntax_ast.specs.Tree.{Expr, unary, binary, logic, conditional, assign}
use Rattle.moo_syntax_ast.specs.Listing.{is_compound}
use Rattle.moo_unparse.specs.declared.form.Parentheses.{Parentheses}
use Rattle.moo_unparse.specs.declared.form.Parentheses.TheVariants.{All, Needed}
use Rattle.moo_unparse.specs.declared.form.Part.{Part}
use Rattle.moo_unparse.specs.declared.form.Part.TheVariants.{Assignment, Conditional, Logic, Relation, Sum, Product, Power, Sign, Plain}

-- how tightly a part of the grammar binds
abbrev pub rank : Part → ℕ
rank Assignment = 0
rank Conditional = 1
rank Logic = 2
rank Relation = 3
rank Sum = 4
rank Product = 5
rank Power = 6
rank Sign = 7
rank Plain = 8

abbrev pub operator_part : BinaryOperator → Part
operator_part operator.Add = Sum
operator_part operator.Subtract = Sum
operator_part operator.Multiply = Product
operator_part operator.Divide = Product
operator_part operator.Remainder = Product
operator_part operator.Power = Power
operator_part _ = Relation

-- the part of the grammar that an expression without parentheses is
abbrev pub part_of : Expr → Part
part_of (assign a b) = Assignment
part_of (conditional a b c) = Conditional
part_of (logic o a b) = Logic
part_of (binary o a b) = operator_part o
part_of (unary o a) = Sign
part_of e = Plain

-- The loosest part without parentheses to the left of an operator: chains group from the left, and `^` has a sign's
-- operand.
abbrev pub left_of : Part → Part
left_of Power = Sign
left_of p = p

-- the loosest part without parentheses to the right of an operator: the next part, and a power to the right of `^`
abbrev pub right_of : Part → Part
right_of Logic = Relation
right_of Relation = Sum
right_of Sum = Product
right_of Product = Power
right_of p = p

-- whether an operand is in parentheses at a place where `least` is the loosest part without them
abbrev pub needs : Parentheses → (least : Part) → Expr → Bool
needs All least e = is_compound e
needs Needed least e = nat_lt (rank (part_of e)) (rank least)
