-- The elements of a list that a loop has visited.
use Rattle.std.proofs.Common.{◌≡◌, ℕ, ◌+◌, ◌<◌, List, length, get_or, inl, inr, sym, ◌∙◌, subst, arith}
use Rattle.std.proofs.lemmas.Bool.{cases_eq}
use Rattle.std.proofs.lemmas.List.{get_or_default}

-- one more
pub visited_more : {X : Type 0} (P : X → Type 0) (xs : List X) (i : ℕ) (x : X) → i < length xs → x ≡ get_or xs i x
    → ((j : ℕ) (d : X) → j < i → P (get_or xs j d)) → P x → (j : ℕ) (d : X) → j < i + 1 → P (get_or xs j d)
visited_more P xs i x within is before here j d less =
    elim (cases_eq j i) [
      | inl same ↦ subst (λ k. P (get_or xs k d)) (sym same) (subst P (is ∙ get_or_default xs i x d within) here)
      | inr differs ↦ before j d (omega (arith, less, differs))
    ]
