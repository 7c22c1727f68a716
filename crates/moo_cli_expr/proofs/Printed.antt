-- Lines printed one after the other.
use Rattle.std.proofs.Common.{◌≡◌, ℕ, ◌+◌, ◌<◌, List, [], ◌∷◌, ◌++◌, codes, map, take, get_or, length, sym, ap, ◌∙◌, append_assoc, append-nil}
use Rattle.std.proofs.lemmas.List.{take_more, map-append}
use Rattle.moo_cli_expr.specs.Expr.{printed}

pub printed-more : (ls : List (List ℕ)) (l : List ℕ) → printed (ls ++ l ∷ []) ≡ printed ls ++ (l ++ codes "\n")
printed-more [] l = append-nil (l ++ codes "\n")
printed-more (k ∷ ls) l = ap (λ r. (k ++ codes "\n") ++ r) (printed-more ls l) ∙ sym (append_assoc (k ++ codes "\n") (printed ls) (l ++ codes "\n"))

-- one more item's line
pub printed-item : {V : Type 0} (f : V → List ℕ) (vs : List V) (i : ℕ) (v : V) → i < length vs → v ≡ get_or vs i v
    → printed (map f (take (i + 1) vs)) ≡ printed (map f (take i vs)) ++ (f v ++ codes "\n")
printed-item f vs i v h is =
    ap (λ ws. printed (map f ws)) (take_more vs i v h) ∙ ap printed (map-append f (take i vs) (get_or vs i v ∷ []))
    ∙ printed-more (map f (take i vs)) (f (get_or vs i v)) ∙ ap (λ w. printed (map f (take i vs)) ++ (f w ++ codes "\n")) (sym is)
