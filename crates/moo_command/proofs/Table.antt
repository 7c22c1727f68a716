-- The table of forms: it has each form of each preposition, and no form after one with fewer words.
use Rattle.std.proofs.Common.{◌≡◌, ℕ, suc, zero, ◌≤◌, Bool, true, false, ◌&&◌, List, [], ◌∷◌, length, map, Option, Some, None, is_some, refl, sym, ap, ◌∙◌, inl, inr, arith, subst, slice_get}
use Rattle.std.specs.Prelude.{Contains, nat_le}
use Rattle.std.specs.Bool.{⊤}
use Rattle.std.specs.List.{AllByRecursion, list_all}
use Rattle.std.proofs.lemmas.Bool.{cases_Bool, cond-true, cond-false, true≢false, false≢true, and_parts, leb-true}
use Rattle.std.proofs.lemmas.List.Elements.{All-from_recursion, All-contains}
use Rattle.std.proofs.lemmas.Slice.Eq.{bytes_eq-Decides}
use Rattle.moo_value.specs.Compare.{folded}
use Rattle.moo_world_object.specs.Names.{same_name}
use Rattle.moo_world_object.specs.declared.verb_args.Preposition.{Preposition}
use Rattle.moo_world_object.specs.declared.verb_args.Preposition.TheVariants.{With, At, InFrontOf, Inside, OnTopOf, OutOf, Over, Through, Under, Behind, Beside, About, Is, As, Off}
use Rattle.moo_command.specs.Prepositions.{forms, BeginsWith}
use Rattle.moo_command.specs.Inner.{form_table, form_among, begins_with}

-- a form in the table, which is the first to begin its own words
pub record IsListed (p : Preposition) (form : List (List ℕ)) : Type 0 where
  pub place : ℕ
  pub there : slice_get form_table place ≡ Some (p, form)
  pub own : form_among form_table (map folded form) ≡ Some (p, length form)

-- each form of each preposition is listed
pub all_listed : (p : Preposition) → AllByRecursion (IsListed p) (forms p)
unfolding form_table
all_listed With = (record { place = 5; there = refl; own = refl }, (record { place = 6; there = refl; own = refl }, (tt)))
all_listed At = (record { place = 7; there = refl; own = refl }, (record { place = 8; there = refl; own = refl }, (tt)))
all_listed InFrontOf = (record { place = 0; there = refl; own = refl }, (tt))
all_listed Inside = (record { place = 9; there = refl; own = refl }, (record { place = 10; there = refl; own = refl }, (record { place = 11; there = refl; own = refl }, (tt))))
all_listed OnTopOf = (record { place = 1; there = refl; own = refl }, (record { place = 12; there = refl; own = refl }, (record { place = 13; there = refl; own = refl }, (record { place = 14; there = refl; own = refl }, (tt)))))
all_listed OutOf = (record { place = 2; there = refl; own = refl }, (record { place = 3; there = refl; own = refl }, (record { place = 15; there = refl; own = refl }, (tt))))
all_listed Over = (record { place = 16; there = refl; own = refl }, (tt))
all_listed Through = (record { place = 17; there = refl; own = refl }, (tt))
all_listed Under = (record { place = 18; there = refl; own = refl }, (record { place = 19; there = refl; own = refl }, (record { place = 20; there = refl; own = refl }, (tt))))
all_listed Behind = (record { place = 21; there = refl; own = refl }, (tt))
all_listed Beside = (record { place = 22; there = refl; own = refl }, (tt))
all_listed About = (record { place = 23; there = refl; own = refl }, (record { place = 24; there = refl; own = refl }, (tt)))
all_listed Is = (record { place = 25; there = refl; own = refl }, (tt))
all_listed As = (record { place = 26; there = refl; own = refl }, (tt))
all_listed Off = (record { place = 27; there = refl; own = refl }, (record { place = 4; there = refl; own = refl }, (tt)))

pub listed : (p : Preposition) (form : List (List ℕ)) → Contains (forms p) form → IsListed p form
listed p form own = All-contains (IsListed p) (forms p) form (All-from_recursion (IsListed p) (forms p) (all_listed p)) own

-- the entries of a list of forms are forms of their prepositions
abbrev Owned : List (Preposition × List (List ℕ)) → Type 0
Owned [] = ⊤
Owned (e ∷ es) = Contains (forms e.0) e.1 × Owned es

table_owned : Owned form_table
unfolding form_table
table_owned = ((0, omega arith, refl), ((0, omega arith, refl), ((0, omega arith, refl), ((1, omega arith, refl), ((1, omega arith, refl), ((0, omega arith, refl), ((1, omega arith, refl), ((0, omega arith, refl), ((1, omega arith, refl), ((0, omega arith, refl), ((1, omega arith, refl), ((2, omega arith, refl), ((1, omega arith, refl), ((2, omega arith, refl), ((3, omega arith, refl), ((2, omega arith, refl), ((0, omega arith, refl), ((0, omega arith, refl), ((0, omega arith, refl), ((1, omega arith, refl), ((2, omega arith, refl), ((0, omega arith, refl), ((0, omega arith, refl), ((0, omega arith, refl), ((1, omega arith, refl), ((0, omega arith, refl), ((0, omega arith, refl), ((0, omega arith, refl), (tt)))))))))))))))))))))))))))))

-- whether no form comes after one with fewer words
abbrev falls : List (Preposition × List (List ℕ)) → Bool
falls [] = true
falls (e ∷ es) = list_all (λ f. nat_le (length f.1) (length e.1)) es && falls es

table_falls : falls form_table ≡ true
unfolding form_table
table_falls = refl

-- words begin with a form exactly if the test says so
pub begins_tested : (form words : List (List ℕ)) → begins_with form words ≡ true → BeginsWith form words
begins_tested [] words h = (map folded words, refl)
begins_tested (f ∷ fs) [] h = absurd (false≢true h)
begins_tested (f ∷ fs) (w ∷ ws) h =
    let both = and_parts (same_name (folded f) (folded w)) (begins_with fs ws) h in
    let rest = begins_tested fs ws both.1 in
    let head : folded f ≡ folded w = (bytes_eq-Decides (folded f) (folded w)).0 both.0 in
    (rest.0, ap (λ x. x ∷ map folded ws) (sym head) ∙ ap (λ xs. folded f ∷ xs) rest.1)

abbrev head_of : List (List ℕ) → List ℕ
head_of [] = []
head_of (x ∷ xs) = x

abbrev tail_of : List (List ℕ) → List (List ℕ)
tail_of [] = []
tail_of (x ∷ xs) = xs

pub tested_begins : (form words : List (List ℕ)) → BeginsWith form words → begins_with form words ≡ true
tested_begins [] words h = refl
tested_begins (f ∷ fs) [] h = absurd (omega (arith, ap length h.1))
tested_begins (f ∷ fs) (w ∷ ws) h =
    let head : same_name (folded f) (folded w) ≡ true = (bytes_eq-Decides (folded f) (folded w)).1 (sym (ap head_of h.1)) in
    let rest : begins_with fs ws ≡ true = tested_begins fs ws (h.0, ap tail_of h.1) in
    rw (head, rest) refl

-- what is found among forms
pub record IsFirst (es : List (Preposition × List (List ℕ))) (words : List (List ℕ)) (p : Preposition) (n : ℕ) : Type 0 where
  pub form : List (List ℕ)
  pub own : Contains (forms p) form
  pub long : length form ≡ n
  pub begins : BeginsWith form words

abbrev preposition_or : Preposition → Option (Preposition × ℕ) → Preposition
preposition_or p None = p
preposition_or p (Some x) = x.0

abbrev count_or : ℕ → Option (Preposition × ℕ) → ℕ
count_or n None = n
count_or n (Some x) = x.1

some_pair : (p q : Preposition) (m n : ℕ) → ◌≡◌ {A = Option (Preposition × ℕ)} (Some (p, m)) (Some (q, n)) → (p ≡ q) × (m ≡ n)
some_pair p q m n e = (ap (preposition_or p) e, ap (count_or m) e)

none_pair : {X : Type 0} (x : X) → None ≡ Some x → ⊥
none_pair x e = false≢true (ap is_some e)

first_among : (es : List (Preposition × List (List ℕ))) (words : List (List ℕ)) (p : Preposition) (n : ℕ) → Owned es → form_among es words ≡ Some (p, n) → IsFirst es words p n
first_among [] words p n owned is = absurd (none_pair _ is)
first_among (e ∷ es) words p n owned is =
    elim (cases_Bool (begins_with e.1 words)) [
      | inl here ↦
          let same = some_pair e.0 p (length e.1) n (sym (cond-true (begins_with e.1 words) (Some (e.0, length e.1)) (form_among es words) here) ∙ is) in
          record {
            form = e.1;
            own = subst (λ (q : Preposition). Contains (forms q) e.1) same.0 owned.0;
            long = same.1;
            begins = begins_tested e.1 words here;
          }
      | inr other ↦
          let rest = first_among es words p n owned.1 (sym (cond-false (begins_with e.1 words) (Some (e.0, length e.1)) (form_among es words) other) ∙ is) in
          record { form = rest.form; own = rest.own; long = rest.long; begins = rest.begins }
    ]

pub form_found : (words : List (List ℕ)) (p : Preposition) (n : ℕ) → form_among form_table words ≡ Some (p, n) → IsFirst form_table words p n
form_found words p n is = first_among form_table words p n table_owned is

abbrev test_or : {X : Type 0} → (X → Bool) → Option X → Bool
test_or test None = true
test_or test (Some x) = test x

abbrev words_or : Option (Preposition × List (List ℕ)) → List (List ℕ)
words_or None = []
words_or (Some f) = f.1

all_pass : {X : Type 0} (test : X → Bool) (xs : List X) (k : ℕ) (x : X) → list_all test xs ≡ true → slice_get xs k ≡ Some x → test x ≡ true
all_pass test [] k x all is = absurd (none_pair x is)
all_pass test (y ∷ ys) zero x all is = sym (ap (test_or test) is) ∙ (and_parts (test y) (list_all test ys) all).0
all_pass test (y ∷ ys) (suc k) x all is = all_pass test ys k x (and_parts (test y) (list_all test ys) all).1 is

-- no longer form of the list begins the words
longest_among : (es : List (Preposition × List (List ℕ))) (words : List (List ℕ)) (p q : Preposition) (n k : ℕ) (other : List (List ℕ)) → falls es ≡ true
    → form_among es words ≡ Some (p, n) → slice_get es k ≡ Some (q, other) → begins_with other words ≡ true → length other ≤ n
longest_among [] words p q n k other falling is there begins = absurd (none_pair _ is)
longest_among (e ∷ es) words p q n k other falling is there begins =
    elim (cases_Bool (begins_with e.1 words)) [
      | inl here ↦ omega (arith, bound k there, (some_pair e.0 p (length e.1) n (sym (cond-true (begins_with e.1 words) (Some (e.0, length e.1)) (form_among es words) here) ∙ is)).1)
      | inr none ↦
          let rest = sym (cond-false (begins_with e.1 words) (Some (e.0, length e.1)) (form_among es words) none) ∙ is in
          later k there none (λ j at. longest_among es words p q n j other (and_parts (list_all (λ f. nat_le (length f.1) (length e.1)) es) (falls es) falling).1 rest at begins)
    ]
  where
    parts : (list_all (λ f. nat_le (length f.1) (length e.1)) es ≡ true) × (falls es ≡ true)
    parts = and_parts (list_all (λ f. nat_le (length f.1) (length e.1)) es) (falls es) falling

    bound : (k : ℕ) → slice_get (e ∷ es) k ≡ Some (q, other) → length other ≤ length e.1
    bound zero at = omega (arith, ap (λ o. length (words_or o)) at)
    bound (suc k) at = leb-true (length other) (length e.1) (all_pass (λ f. nat_le (length f.1) (length e.1)) es k (q, other) parts.0 at)

    later : (k : ℕ) → slice_get (e ∷ es) k ≡ Some (q, other) → begins_with e.1 words ≡ false → ((j : ℕ) → slice_get es j ≡ Some (q, other) → length other ≤ n) → length other ≤ n
    later zero at none more = absurd (false≢true (sym none ∙ ap (λ o. begins_with (words_or o) words) at ∙ begins))
    later (suc k) at none more = more k at

pub form_longest : (words : List (List ℕ)) (p q : Preposition) (n : ℕ) (other : List (List ℕ)) → form_among form_table words ≡ Some (p, n) → Contains (forms q) other
    → BeginsWith other words → length other ≤ n
form_longest words p q n other is own begins =
    let entry = listed q other own in
    longest_among form_table words p q n entry.place other table_falls is entry.there (tested_begins other words begins)

none_among : (es : List (Preposition × List (List ℕ))) (words : List (List ℕ)) (q : Preposition) (k : ℕ) (other : List (List ℕ)) → form_among es words ≡ None
    → slice_get es k ≡ Some (q, other) → begins_with other words ≡ true → ⊥
none_among [] words q k other none there begins = none_pair _ there
none_among (e ∷ es) words q k other none there begins =
    elim (cases_Bool (begins_with e.1 words)) [
      | inl here ↦ some_is_none (sym (cond-true (begins_with e.1 words) (Some (e.0, length e.1)) (form_among es words) here) ∙ none)
      | inr not_here ↦
          let rest = sym (cond-false (begins_with e.1 words) (Some (e.0, length e.1)) (form_among es words) not_here) ∙ none in
          later k there not_here (λ j at. none_among es words q j other rest at begins)
    ]
  where
    some_is_none : ◌≡◌ {A = Option (Preposition × ℕ)} (Some (e.0, length e.1)) None → ⊥
    some_is_none h = true≢false (ap is_some h)

    later : (k : ℕ) → slice_get (e ∷ es) k ≡ Some (q, other) → begins_with e.1 words ≡ false → ((j : ℕ) → slice_get es j ≡ Some (q, other) → ⊥) → ⊥
    later zero at not_here more = false≢true (sym not_here ∙ ap (λ o. begins_with (words_or o) words) at ∙ begins)
    later (suc k) at not_here more = more k at

pub form_nowhere : (words : List (List ℕ)) (q : Preposition) (other : List (List ℕ)) → form_among form_table words ≡ None → Contains (forms q) other → BeginsWith other words → ⊥
form_nowhere words q other none own begins =
    let entry = listed q other own in
    none_among form_table words q entry.place other none entry.there (tested_begins other words begins)

-- forms that are alike, letters folded, are of one preposition
pub one_owner : (p q : Preposition) (form other : List (List ℕ)) → Contains (forms p) form → Contains (forms q) other → map folded form ≡ map folded other → p ≡ q
one_owner p q form other own owns same =
    (some_pair p q (length form) (length other) (sym (listed p form own).own ∙ ap (form_among form_table) same ∙ (listed q other owns).own)).0

-- no form begins no words
pub nothing_begins : form_among form_table [] ≡ None
unfolding form_table
nothing_begins = refl
