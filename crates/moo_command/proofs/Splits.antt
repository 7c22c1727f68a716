-- The preposition that splits words, and that there is one split.
use Rattle.std.proofs.Common.{◌≡◌, ◌⊎◌, ℕ, ◌≤◌, ◌<◌, ◌+◌, ◌-◌, Bool, true, false, List, [], ◌∷◌, ◌++◌, length, map, take, drop, slice_range, Bor, Some, None, refl, sym, ap, ◌∙◌, inl, inr, arith, subst}
use Rattle.std.proofs.lemmas.List.{length-map, length-append, drop_all, take_all, append-nil}
use Rattle.std.proofs.lemmas.List.Folds.{drop_split}
use Rattle.moo_value.specs.Compare.{folded}
use Rattle.moo_world_object.specs.declared.verb_args.Preposition.{Preposition}
use Rattle.moo_command.specs.Prepositions.{BeginsWith, StandsAt, IsPreposition, parts_at, parts_without, Splits, at, nowhere}
use Rattle.moo_command.specs.Commands.{OneSplit}
use Rattle.moo_command.specs.Inner.{form_table, form_among, begins_with, parts_of}
use Rattle.moo_command.specs.declared.splitting.Division.{Division}
use Rattle.moo_command.proofs.Table.{IsFirst, form_found, form_longest, form_nowhere, one_owner, begins_tested, nothing_begins}

pub begins_fits : (form words : List (List ℕ)) → BeginsWith form words → length form ≤ length words
begins_fits form words h = omega (arith, ap length h.1, length-map words folded, length-map form folded, length-append (map folded form) h.0)

-- no form begins before a place
abbrev pub NoneBefore : List (List ℕ) → ℕ → Type 0
NoneBefore words i = (j : ℕ) → j < i → form_among form_table (drop j words) ≡ None

pub none_yet : (words : List (List ℕ)) → NoneBefore words 0
none_yet words j h = absurd (omega (arith, h))

pub none_more : (words : List (List ℕ)) (i : ℕ) → NoneBefore words i → form_among form_table (drop i words) ≡ None → NoneBefore words (i + 1)
none_more words i before here j h =
    elim (split j i h) [
      | inl less ↦ before j less
      | inr same ↦ ap (λ k. form_among form_table (drop k words)) same ∙ here
    ]
  where
    split : (j i : ℕ) → j < i + 1 → (j < i) ⊎ (j ≡ i)
    split j i h = search (arith)

pub stands_first : (words : List (List ℕ)) (i : ℕ) (p : Preposition) (n : ℕ) → NoneBefore words i → form_among form_table (drop i words) ≡ Some (p, n) → IsFirst form_table (drop i words) p n
stands_first words i p n before here = form_found (drop i words) p n here

pub is_preposition : (words : List (List ℕ)) (i : ℕ) (p : Preposition) (n : ℕ) → NoneBefore words i → (is : form_among form_table (drop i words) ≡ Some (p, n))
    → IsPreposition words i p (form_found (drop i words) p n is).form
is_preposition words i p n before is =
    let found = form_found (drop i words) p n is in
    record {
      here = record { own = found.own; begins = found.begins };
      leftmost = λ j q other stands. elim (cases j) [
        | inl late ↦ late
        | inr early ↦ absurd (form_nowhere (drop j words) q other (before j early) stands.own stands.begins)
      ];
      longest = λ q other stands. omega (arith, form_longest (drop i words) p q n other is stands.own stands.begins, found.long);
    }
  where
    cases : (j : ℕ) → (i ≤ j) ⊎ (j < i)
    cases j = search (arith)

-- the parts of a division at a preposition
pub splits_at : (words : List (List ℕ)) (i : ℕ) (p : Preposition) (n : ℕ) (s : Division) → NoneBefore words i → form_among form_table (drop i words) ≡ Some (p, n)
    → s.preposition ≡ Some p → s.at ≡ i → s.following ≡ i + n → Splits words (parts_of words s)
splits_at words i p n s before is preposition place following =
    subst (Splits words) (same (form_found (drop i words) p n is).form (form_found (drop i words) p n is).long) (at (is_preposition words i p n before is))
  where
    same : (form : List (List ℕ)) → length form ≡ n → parts_at words i p form ≡ parts_of words s
    same form long =
        let cut : (i + n) - i ≡ n = omega arith in
        rw (preposition, place, following, cut, long) refl

pub splits_nowhere : (words : List (List ℕ)) (s : Division) → NoneBefore words (length words) → s.preposition ≡ None → s.at ≡ length words → s.following ≡ length words
    → Splits words (parts_of words s)
splits_nowhere words s before none place following =
    let all : take (length words) words ≡ words = take_all (length words) words (omega arith) in
    let rest : drop (length words) words ≡ [] = drop_all (length words) words (omega arith) in
    let cut : length words - length words ≡ 0 = omega arith in
    let same : parts_without words ≡ parts_of words s = rw (none, place, following, all, rest, cut) refl in
    subst (Splits words) same (nowhere (λ i p form stands. elim (cases i) [
      | inl inside ↦ form_nowhere (drop i words) p form (before i inside) stands.own stands.begins
      | inr past ↦ form_nowhere (drop i words) p form (ap (form_among form_table) (drop_all i words past) ∙ nothing_begins) stands.own stands.begins
    ]))
  where
    cases : (i : ℕ) → (i < length words) ⊎ (length words ≤ i)
    cases i = search (arith)

front_of : (xs ys : List (List ℕ)) → take (length xs) (xs ++ ys) ≡ xs
front_of [] ys = refl
front_of (x ∷ xs) ys = ap (λ zs. x ∷ zs) (front_of xs ys)

-- forms of one length that begin the same words are alike
alike : (form other words : List (List ℕ)) → BeginsWith form words → BeginsWith other words → length form ≡ length other → map folded form ≡ map folded other
alike form other words h k same =
    sym (front_of (map folded form) h.0)
    ∙ ap (λ n. take n (map folded form ++ h.0)) (length-map form folded ∙ same ∙ sym (length-map other folded))
    ∙ ap (take (length (map folded other))) (sym h.1 ∙ k.1)
    ∙ front_of (map folded other) k.0

same_place : (i j : ℕ) → i ≤ j → j ≤ i → i ≡ j
same_place i j h k = omega (arith, h, k)

one_at : (words : List (List ℕ)) (i j : ℕ) (p q : Preposition) (form other : List (List ℕ)) → IsPreposition words i p form → IsPreposition words j q other
    → parts_at words i p form ≡ parts_at words j q other
one_at words i j p q form other h k =
    let place : i ≡ j = same_place i j (h.leftmost j q other k.here) (k.leftmost i p form h.here) in
    let there : StandsAt words i q other = subst (λ (n : ℕ). StandsAt words n q other) (sym place) k.here in
    let here : StandsAt words j p form = subst (λ (n : ℕ). StandsAt words n p form) place h.here in
    let long : length form ≡ length other = same_place (length form) (length other) (k.longest p form here) (h.longest q other there) in
    let owner : p ≡ q = one_owner p q form other h.here.own k.here.own (alike form other (drop i words) h.here.begins there.begins long) in
    ap (λ n. parts_at words n p form) place ∙ ap (λ o. parts_at words j o form) owner ∙ same_length words j q form other long
  where
    same_length : (words : List (List ℕ)) (j : ℕ) (q : Preposition) (form other : List (List ℕ)) → length form ≡ length other → parts_at words j q form ≡ parts_at words j q other
    same_length words j q form other e = rw e refl

pub one_split : OneSplit
one_split words parts others (at h) (at k) = one_at words _ _ _ _ _ _ h k
one_split words parts others (at h) (nowhere none) = absurd (none _ _ _ h.here)
one_split words parts others (nowhere none) (at k) = absurd (none _ _ _ k.here)
one_split words parts others (nowhere none) (nowhere other) = refl

-- what is left of a list from a place on
pub rest_whole : {X : Type 0} (xs : List X) (i : ℕ) → i ≤ length xs → slice_range xs i (length xs) ≡ drop i xs
rest_whole xs i inside =
    sym (drop_split xs i (length xs) inside ∙ ap (λ ys. slice_range xs i (length xs) ++ ys) (drop_all (length xs) xs (omega arith)) ∙ append-nil (slice_range xs i (length xs)))

pub begins_short : (form words : List (List ℕ)) → length words ≡ 0 → 0 < length form → begins_with form words ≡ false
begins_short [] words none some = absurd (omega (arith, some))
begins_short (f ∷ fs) [] none some = refl
begins_short (f ∷ fs) (w ∷ ws) none some = absurd (omega (arith, none))

pub begins_long : (form words : List (List ℕ)) → begins_with form words ≡ true → length form ≤ length words
begins_long form words h = begins_fits form words (begins_tested form words h)

pub form_fits : (form : List (Bor (List ℕ))) (words : List (List ℕ)) (r : Bool) → r ≡ begins_with (map (λ w. w.now) form) words → r ≡ true → length form ≤ length words
form_fits form words r is yes_it_is = omega (arith, begins_long (map (λ w. w.now) form) words (sym is ∙ yes_it_is), length-map form (λ w. w.now))
