-- Empty slots at the front.
use Rattle.std.proofs.Common.{◌≡◌, ℕ, zero, suc, ◌+◌, ◌-◌, ◌<◌, ◌≤◌, List, [], ◌∷◌, ◌++◌, Option, Some, None, refl, sym, ◌∙◌, ap, arith, length, get_or, set, take, drop}
use Rattle.std.proofs.lemmas.List.{take_more, take_all, length-drop, take-append-drop, length-set}
use Rattle.moo_world_tree.specs.Gapped.{present, BeginsEmpty}
use Rattle.moo_world_tree.proofs.Gaps.{present-append}

-- all other elements follow them
after : (n : ℕ) (slots : List (Option ℕ)) → present (take n slots) ≡ [] → present (drop n slots) ≡ present slots
after n slots none = sym (ap present (sym (take-append-drop n slots)) ∙ present-append (take n slots) (drop n slots) ∙ ap (λ ys. ys ++ present (drop n slots)) none)

pub all_after : (n : ℕ) (slots : List (Option ℕ)) → present (take n slots) ≡ [] → present (take (length slots - n) (drop n slots)) ≡ present slots
all_after n slots none = ap present (take_all (length slots - n) (drop n slots) (omega (arith, length-drop n slots))) ∙ after n slots none

emptied : (n i : ℕ) (slots : List (Option ℕ)) → present (take n slots) ≡ [] → present (take n (set slots i None)) ≡ []
emptied zero i slots none = refl
emptied (suc n) i [] none = refl
emptied (suc n) zero (None ∷ slots) none = none
emptied (suc n) zero (Some x ∷ slots) none = absurd cc
emptied (suc n) (suc i) (None ∷ slots) none = emptied n i slots none
emptied (suc n) (suc i) (Some x ∷ slots) none = absurd cc

-- they stay where one more is emptied
pub begins_with_gap : (n i : ℕ) (slots : List (Option ℕ)) → BeginsEmpty n slots → BeginsEmpty n (set slots i None)
begins_with_gap n i slots b = (omega (arith, length-set slots i None, b.0), emptied n i slots b.1)

-- the next one is empty too
pub begins_with_one_more : (n : ℕ) (slots : List (Option ℕ)) → n < length slots → get_or slots n None ≡ None → BeginsEmpty n slots → BeginsEmpty (n + 1) slots
begins_with_one_more n slots low none b =
    (omega (arith, low), ap present (take_more slots n None low) ∙ present-append (take n slots) (get_or slots n None ∷ []) ∙ ap (λ s. present (take n slots) ++ present (s ∷ [])) none ∙ ap (λ ys. ys ++ []) b.1)
