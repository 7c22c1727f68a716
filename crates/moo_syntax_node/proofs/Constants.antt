-- The items of lists of literals, one after another.
use Rattle.std.proofs.Common.{◌≡◌, refl, ap, sym, ◌∙◌, ℕ, ◌+◌, ◌<◌, List, [], ◌∷◌, ◌++◌, length, get_or, drop, arith}
use Rattle.std.proofs.lemmas.List.{drop_more}
use Rattle.moo_value.specs.Tree.{Tree, elements_of}
use Rattle.moo_syntax_ast.specs.Tree.{Items, no_items, element}
use Rattle.moo_syntax_node.specs.declared.node.NodeItem.{NodeItem}
use Rattle.moo_syntax_node.specs.Source.{with_source, source_items}
use Rattle.moo_syntax_node.specs.Spelling.{spelled, spelled_items, nodes_of, nodes_in}

-- the items that write these values, before others
abbrev pub spelled_before : List Tree → Items → Items
spelled_before [] rest = rest
spelled_before (t ∷ ts) rest = element (spelled t) (spelled_before ts rest)

-- one value more before the others
pub spelled_last : (ts : List Tree) (t : Tree) (rest : Items) → spelled_before (ts ++ t ∷ []) rest ≡ spelled_before ts (element (spelled t) rest)
spelled_last [] t rest = refl
spelled_last (u ∷ ts) t rest = ap (element (spelled u)) (spelled_last ts t rest)

-- values before no others
pub spelled_alone : (ts : List Tree) → spelled_before ts no_items ≡ spelled_items (elements_of ts)
spelled_alone [] = refl
spelled_alone (t ∷ ts) = ap (element (spelled t)) (spelled_alone ts)

pub nodes_last : (ts : List Tree) (t : Tree) → nodes_in (elements_of (ts ++ t ∷ [])) ≡ nodes_in (elements_of ts) + nodes_of t
nodes_last [] t = omega arith
nodes_last (u ∷ ts) t = omega (arith, nodes_last ts t)

-- the items from one on
pub source_at : (xs : List NodeItem) (i : ℕ) (x : NodeItem) → i < length xs → x ≡ get_or xs i x → with_source x (source_items (drop (i + 1) xs)) ≡ source_items (drop i xs)
source_at xs i x h e = ap (λ y. with_source y (source_items (drop (i + 1) xs))) e ∙ sym (ap source_items (drop_more xs i x h))
