-- The expressions that lowered nodes come from.
use Rattle.std.specs.Prelude.{List, [], ◌∷◌}
use Rattle.moo_syntax_ast.specs.Tree
use Rattle.moo_syntax_ast.specs.Tree.{Items}
use Rattle.moo_syntax_ast.specs.declared.tree.Literal.TheVariants as literal
use Rattle.moo_syntax_node.specs.declared.node.Node.{Node, Integer, Object, Error, Str, Variable, Length, Unary', Binary', Arithmetic', Logic', Conditional', Index', Range', List', Constant, Property', VerbCall', Call', Assign', Catch', Row_of-NodeItem, end_of-NodeItem, more_of-NodeItem, None', Some'}
use Rattle.moo_syntax_node.specs.declared.node.NodeItem.{NodeItem, Element', Splice', Optional, Defaulted'}
use Rattle.moo_syntax_node.specs.declared.node.NodeCodes.{NodeCodes, Any, Known, Listed'}
use Rattle.moo_syntax_node.specs.Spelling.{spelled_items}
use Rattle.moo_value.specs.declared.error_code.ErrorCode.{ErrorCode}
use Rattle.moo_value.specs.Tree.{elements_of}

-- the items that are these literal errors
abbrev pub error_items : List ErrorCode → Items
error_items [] = Tree.no_items
error_items (e ∷ es) = Tree.element (Tree.literal (literal.Error e)) (error_items es)

abbrev mutual
  -- the expression that a node comes from
  pub source : Node → Tree.Expr
  source (Integer n) = Tree.literal (literal.Integer n)
  source (Object n) = Tree.literal (literal.Object n)
  source (Error e) = Tree.literal (literal.Error e)
  source (Str s) = Tree.literal (literal.Str s)
  source (Variable v) = Tree.variable v
  source Length = Tree.length_mark
  source (Unary' o p a) = Tree.unary o (source a)
  source (Binary' o p a q b) = Tree.binary o (source a) (source b)
  source (Arithmetic' o p a q b) = Tree.binary o (source a) (source b)
  source (Logic' o p a q b) = Tree.logic o (source a) (source b)
  source (Conditional' p a q b r c) = Tree.conditional (source a) (source b) (source c)
  source (Index' p a q b) = Tree.index (source a) (source b)
  source (Range' p a q b r c) = Tree.range (source a) (source b) (source c)
  source (List' shape xs) = Tree.list (source_row xs)
  source (Constant ts) = Tree.list (spelled_items (elements_of ts))
  source (Property' p a q b) = Tree.property (source a) (source b)
  source (VerbCall' p a q b r shape xs) = Tree.verb_call (source a) (source b) (source_row xs)
  source (Call' f shape xs) = Tree.call f (source_row xs)
  source (Assign' p a q b) = Tree.assign (source a) (source b)
  source (Catch' p a r c None') = Tree.catch (source a) (source_codes c)
  source (Catch' p a r c (Some' q b)) = Tree.catch_or (source a) (source_codes c) (source b)

  pub source_codes : NodeCodes → Tree.Codes
  source_codes Any = Tree.any_error
  source_codes (Known es) = Tree.listed_errors (error_items es.items)
  source_codes (Listed' shape xs) = Tree.listed_errors (source_row xs)

  pub source_row : {m : _} → Row_of-NodeItem m → Items
  source_row end_of-NodeItem = Tree.no_items
  source_row (more_of-NodeItem x xs) = with_source x (source_row xs)

  -- the source of an item before others
  pub with_source : NodeItem → Items → Items
  with_source (Element' p e) xs = Tree.element (source e) xs
  with_source (Splice' p e) xs = Tree.splice (source e) xs
  with_source (Optional v) xs = Tree.optional v.value xs
  with_source (Defaulted' v p e) xs = Tree.defaulted v.value (source e) xs

-- the sources of items, before others
abbrev pub sources_before : List NodeItem → Items → Items
sources_before [] xs = xs
sources_before (x ∷ front) xs = with_source x (sources_before front xs)

abbrev pub source_items : List NodeItem → Items
source_items items = sources_before items Tree.no_items
