-- Names spelled otherwise.
use Rattle.std.proofs.Common.{◌≡◌, ℕ, zero, suc, ◌+◌, ◌<◌, ◌≤◌, List, [], ◌∷◌, Bool, cond, Option, Some, None, true, false, refl, sym, ap, ⊎_elim, arith, length, get_or, set}
use Rattle.std.specs.List.{position, position_or_len, All}
use Rattle.std.proofs.lemmas.List.Quantifiers.{position-Some}
use Rattle.std.proofs.lemmas.List.Elements.{All-cons, All-head, All-tail}
use Rattle.std.proofs.lemmas.Bool.{cases_Bool, ltb-false}
use Rattle.moo_value.specs.Compare.{folded}
use Rattle.moo_value.specs.Size.{IsString}
use Rattle.moo_world_object.specs.Names.{same_name}
use Rattle.moo_world_table.specs.Edits.{respelled}

set_respelled : (name n : List ℕ) (ds : List (List ℕ)) (i : ℕ) → i < length ds → same_name name (folded (get_or ds i n)) ≡ true → ((k : ℕ) → k < i → same_name name (folded (get_or ds k n)) ≡ false) → set ds i n ≡ respelled name n ds
set_respelled name n [] i h here before = absurd (omega arith)
set_respelled name n (d ∷ ds) zero h here before = rw here refl
set_respelled name n (d ∷ ds) (suc i) h here before =
    let first : same_name name (folded d) ≡ false = before zero (omega arith) in
    rw first (ap (λ es. d ∷ es) (set_respelled name n ds i (omega arith) here (λ k low. before (suc k) (omega arith))))

-- what the code writes
pub spelled : (name n : List ℕ) (ds : List (List ℕ)) (i : ℕ) → Some i ≡ position (λ d. same_name name (folded d)) ds → set ds i n ≡ respelled name n ds
spelled name n ds i is = let at = position-Some (λ d. same_name name (folded d)) ds i n (sym is) in set_respelled name n ds i at.0 at.1 at.2

pub spelled_low : (name n : List ℕ) (ds : List (List ℕ)) (i : ℕ) → Some i ≡ position (λ d. same_name name (folded d)) ds → i < length ds
spelled_low name n ds i is = (position-Some (λ d. same_name name (folded d)) ds i n (sym is)).0

none_respelled : (name n : List ℕ) (ds : List (List ℕ)) → length ds ≤ position_or_len (λ d. same_name name (folded d)) ds → ds ≡ respelled name n ds
none_respelled name n [] h = refl
none_respelled name n (d ∷ ds) h = ⊎_elim
    (λ e. absurd (let none : length (d ∷ ds) ≤ 0 = (rw e at h) in omega (arith, none)))
    (λ e.
    let rest : length (d ∷ ds) ≤ 1 + position_or_len (λ c. same_name name (folded c)) ds = (rw e at h) in
    rw e (ap (λ es. d ∷ es) (none_respelled name n ds (omega (arith, rest)))))
    (cases_Bool (same_name name (folded d)))

-- a name that no object has is not respelled
pub unspelled : (name n : List ℕ) (ds : List (List ℕ)) → None ≡ position (λ d. same_name name (folded d)) ds → ds ≡ respelled name n ds
unspelled name n ds is = none_respelled name n ds (ltb-false (position_or_len (λ d. same_name name (folded d)) ds) (length ds) (not_there _ _ is))
  where
    not_there : (b : Bool) (n : ℕ) → ◌≡◌ {A = Option ℕ} None (cond b (Some n) None) → b ≡ false
    not_there true n h = cc
    not_there false n h = refl

pub all_respelled : (name n : List ℕ) (ds : List (List ℕ)) → IsString n → All IsString ds → All IsString (respelled name n ds)
all_respelled name n [] s all = all
all_respelled name n (d ∷ ds) s all = ⊎_elim
    (λ e. rw e (All-cons IsString n ds s (All-tail IsString d ds all)))
    (λ e. rw e (All-cons IsString d (respelled name n ds) (All-head IsString d ds all) (all_respelled name n ds s (All-tail IsString d ds all))))
    (cases_Bool (same_name name (folded d)))
