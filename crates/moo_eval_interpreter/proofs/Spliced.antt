-- Items among which no list is spliced in.
use Rattle.std.proofs.Common.{◌≡◌, List, ◌∷◌, true, false}
use Rattle.std.specs.List.{list_any}
use Rattle.moo_syntax_node.specs.declared.node.NodeItem.{NodeItem, Element', Splice', Optional, Defaulted'}
use Rattle.moo_eval_task.specs.Arguments.{is_splice}

-- the items after the first one have no splice either
pub plain_rest : (item : NodeItem) (rest : List NodeItem) → list_any is_splice (item ∷ rest) ≡ false → list_any is_splice rest ≡ false
plain_rest (Element' p e) rest h = h
plain_rest (Splice' p e) rest h = absurd cc
plain_rest (Optional v) rest h = h
plain_rest (Defaulted' v p e) rest h = h

-- and the first one is none
pub not_spliced : (item : NodeItem) (rest : List NodeItem) → is_splice item ≡ true → list_any is_splice (item ∷ rest) ≡ false → ⊥
not_spliced (Element' p e) rest is h = absurd cc
not_spliced (Splice' p e) rest is h = absurd cc
not_spliced (Optional v) rest is h = absurd cc
not_spliced (Defaulted' v p e) rest is h = absurd cc
