-- Truth and equality of values, as tests.
use Rattle.std.specs.Prelude.{pos, [], Bool, true, false, not, ◌==◌, ◌&&◌, nat_eq}
use Rattle.std.specs.Ordering.{int_eq}
use Rattle.std.specs.Cmp.Lexicographic.{pointwise}
use Rattle.moo_value.specs.Errors.{error_number}
use Rattle.moo_value.specs.Tree.{Tree, Elements, integer, object, error, string, list, no_elements, element}
use Rattle.moo_value.specs.Compare.{fold_letters}
use Rattle.moo_syntax_ast.specs.declared.operator.LogicOperator.{LogicOperator}
use Rattle.moo_syntax_ast.specs.declared.operator.LogicOperator.TheVariants.{And, Or}

-- integers other than 0, and strings and lists that are not empty, count as true
abbrev pub is_true : Tree → Bool
is_true (integer i) = not (int_eq i (pos 0))
is_true (object o) = false
is_true (error e) = false
is_true (string []) = false
is_true (string s) = true
is_true (list no_elements) = false
is_true (list es) = true

-- `&&` is decided by a first operand that does not count as true, `||` by one that does
abbrev pub is_decided : LogicOperator → Tree → Bool
is_decided And t = not (is_true t)
is_decided Or t = is_true t

abbrev mutual
  -- whether two values are the same
  pub same_tree : Tree → Tree → Bool
  same_tree (integer i) (integer j) = int_eq i j
  same_tree (object o) (object p) = int_eq o p
  same_tree (error e) (error f) = error_number e == error_number f
  same_tree (string s) (string t) = pointwise nat_eq s t
  same_tree (list es) (list fs) = same_elements es fs
  same_tree _ _ = false

  pub same_elements : Elements → Elements → Bool
  same_elements no_elements no_elements = true
  same_elements (element t es) (element u fs) = same_tree t u && same_elements es fs
  same_elements _ _ = false

-- whether two values are equal, letters folded
abbrev pub equal : Tree → Tree → Bool
equal a b = same_tree (fold_letters a) (fold_letters b)

-- the result of a test, as a value
abbrev pub truth_value : Bool → Tree
truth_value true = integer (pos 1)
truth_value false = integer (pos 0)
