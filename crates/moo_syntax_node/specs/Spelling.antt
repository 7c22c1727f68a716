-- Values as programs write them.
use Rattle.std.specs.Prelude.{ℕ, ◌+◌}
use Rattle.moo_value.specs.Tree.{Tree, Elements, integer, object, error, string, list, no_elements, element}
use Rattle.moo_syntax_ast.specs.Tree as source_tree
use Rattle.moo_syntax_ast.specs.declared.tree.Literal.TheVariants as literal

abbrev mutual
  -- the expression that writes a value
  pub spelled : Tree → source_tree.Expr
  spelled (integer n) = source_tree.literal (literal.Integer n)
  spelled (object n) = source_tree.literal (literal.Object n)
  spelled (error e) = source_tree.literal (literal.Error e)
  spelled (string s) = source_tree.literal (literal.Str s)
  spelled (list es) = source_tree.list (spelled_items es)

  pub spelled_items : Elements → source_tree.Items
  spelled_items no_elements = source_tree.no_items
  spelled_items (element t es) = source_tree.element (spelled t) (spelled_items es)

abbrev mutual
  -- how many expressions that is, with those in it
  pub nodes_of : Tree → ℕ
  nodes_of (integer n) = 1
  nodes_of (object n) = 1
  nodes_of (error e) = 1
  nodes_of (string s) = 1
  nodes_of (list es) = 1 + nodes_in es

  pub nodes_in : Elements → ℕ
  nodes_in no_elements = 0
  nodes_in (element t es) = nodes_of t + nodes_in es
