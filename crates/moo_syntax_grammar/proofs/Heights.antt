-- The height of a list's items, one item more.
use Rattle.std.proofs.Common.{ℕ, zero, suc, ◌+◌, ◌≤◌, List, [], ◌∷◌, ◌++◌, ◌≡◌, refl, subst, ◌-◌, zero-add, suc-add, max, arith}
use Rattle.moo_syntax_ast.specs.declared.tree.Item.{Item, Element', Splice', Optional, Defaulted'}
use Rattle.moo_syntax_ast.specs.Tree.{Expr, Items, literal, variable, length_mark, unary, binary, logic, conditional, index, range, list, property, verb_call, call, assign, catch, catch_or, no_items}
use Rattle.moo_syntax_ast.specs.declared.tree.Literal.TheVariants.{Integer}
use Rattle.moo_syntax_ast.specs.Limits.{height, items_height}
use Rattle.moo_syntax_ast.specs.View.{with_item, items_of}
use Rattle.moo_syntax_grammar.specs.Items.{item_height}
use Rattle.moo_syntax_grammar.specs.declared.level.Operator.{Operator}
use Rattle.moo_syntax_grammar.specs.declared.level.Operator.TheVariants as operator
use Rattle.moo_syntax_grammar.specs.Grammar.{negated, joined}
use Rattle.moo_syntax_grammar.specs.Minuses.{negations}

pub item_in_front : (x : Item) (xs : Items) → items_height (with_item x xs) ≡ max (item_height x) (items_height xs)
item_in_front (Element' p e) xs = refl
item_in_front (Splice' p e) xs = refl
item_in_front (Optional s) xs = refl
item_in_front (Defaulted' s p e) xs = refl

pub items_height_push : (xs : List Item) (x : Item) → items_height (items_of (xs ++ x ∷ [])) ≡ max (items_height (items_of xs)) (item_height x)
items_height_push [] x = omega (arith, item_in_front x no_items)
items_height_push (y ∷ xs) x = omega (arith, item_in_front y (items_of (xs ++ x ∷ [])), item_in_front y (items_of xs), items_height_push xs x)

-- a minus never makes a tree lower, and makes it at most one higher
pub negated_height : (e : Expr) → (height e ≤ height (negated e)) × (height (negated e) ≤ 1 + height e)
negated_height (literal (Integer n)) = (omega arith, omega arith)
negated_height _ = (omega arith, omega arith)

pub height_positive : (e : Expr) → 1 ≤ height e
height_positive (literal l) = omega arith
height_positive (variable s) = omega arith
height_positive length_mark = omega arith
height_positive (unary o a) = omega arith
height_positive (binary o a b) = omega arith
height_positive (logic o a b) = omega arith
height_positive (conditional a b c) = omega arith
height_positive (index a b) = omega arith
height_positive (range a b c) = omega arith
height_positive (list xs) = omega arith
height_positive (property a b) = omega arith
height_positive (verb_call a b xs) = omega arith
height_positive (call s xs) = omega arith
height_positive (assign a b) = omega arith
height_positive (catch a c) = omega arith
height_positive (catch_or a c b) = omega arith

-- more minuses never make a tree lower
more_negations : (k m : ℕ) (e : Expr) → height (negations m e) ≤ height (negations (k + m) e)
more_negations zero m e = rw zero-add (omega arith)
more_negations (suc k) m e = rw suc-add (omega (arith, more_negations k m e, (negated_height (negations (k + m) e)).0))

pub negations_higher : (m n : ℕ) (e : Expr) → m ≤ n → height (negations m e) ≤ height (negations n e)
negations_higher m n e h = let same : (n - m) + m ≡ n = omega arith in subst (λ v. height (negations m e) ≤ height (negations v e)) same (more_negations (n - m) m e)

-- n minuses make a tree at most n higher
pub negations_lower : (n : ℕ) (e : Expr) → height (negations n e) ≤ height e + n
negations_lower zero e = omega arith
negations_lower (suc n) e = omega (arith, negations_lower n e, (negated_height (negations n e)).1)

pub joined_height : (o : Operator) (a b : Expr) → height (joined o a b) ≡ 1 + max (height a) (height b)
joined_height (operator.Binary o) a b = refl
joined_height (operator.Logic o) a b = refl
