-- The lines of a stream with one more byte, and with one more piece.
use Rattle.std.proofs.Common.{◌≡◌, ℕ, suc, zero, ◌<◌, Bool, true, false, cond, eqb, ◌&&◌, List, [], ◌∷◌, ◌++◌, length, take, get_or, map, refl, sym, ap, ◌∙◌, inl, inr, arith, filter}
use Rattle.std.proofs.lemmas.List.{append-nil, append_assoc, map_push}
use Rattle.std.proofs.lemmas.List.Elements.{filter-append}
use Rattle.std.proofs.lemmas.Bool.{cases_Bool, true≢false, false_from_ne_true, or_parts, cond-true, cond-false}
use Rattle.std.proofs.lemmas.List.Splits.{slice_split-cons_yes, slice_split-cons_no}
use Rattle.std.specs.List.{slice_split, onto_first}
use Rattle.moo_session_line.specs.Rest.{Rest, line_limit}
use Rattle.moo_session_line.specs.Lines.{is_end, is_second, with_single_ends, all_but_last, last, last_byte, is_kept, kept, lines, rest}

-- a test that chooses between two lists with one end
cond-append : (x : Bool) (b : ℕ) (s t : List ℕ) → cond x (s ++ t) (b ∷ (s ++ t)) ≡ cond x s (b ∷ s) ++ t
cond-append true b s t = refl
cond-append false b s t = refl

with_single_ends-push : (a : ℕ) (bs : List ℕ) (c : ℕ)
    → with_single_ends a (bs ++ c ∷ []) ≡ with_single_ends a bs ++ cond (is_second (last_byte a bs) c) [] (c ∷ [])
with_single_ends-push a [] c = refl
with_single_ends-push a (b ∷ bs) c =
    let tail : List ℕ = cond (is_second (last_byte b bs) c) [] (c ∷ []) in
    ap (λ w. cond (is_second a b) w (b ∷ w)) (with_single_ends-push b bs c) ∙ cond-append (is_second a b) b (with_single_ends b bs) tail

-- the parts with one more element in the last
abbrev put_last : ℕ → List (List ℕ) → List (List ℕ)
put_last y [] = (y ∷ []) ∷ []
put_last y (a ∷ []) = (a ++ y ∷ []) ∷ []
put_last y (a ∷ b ∷ c) = a ∷ put_last y (b ∷ c)

abbrev IsNonempty : List (List ℕ) → Type 0
IsNonempty [] = ⊥
IsNonempty (a ∷ more) = Unit {0}

abbrev parts : List ℕ → List (List ℕ)
parts xs = slice_split is_end xs

onto_first-nonempty : (x : ℕ) (p : List (List ℕ)) → IsNonempty (onto_first x p)
onto_first-nonempty x [] = tt
onto_first-nonempty x (a ∷ more) = tt

cond-nonempty : (b : Bool) (p q : List (List ℕ)) → IsNonempty p → IsNonempty q → IsNonempty (cond b p q)
cond-nonempty true p q h k = h
cond-nonempty false p q h k = k

parts-nonempty : (xs : List ℕ) → IsNonempty (parts xs)
parts-nonempty [] = tt
parts-nonempty (x ∷ xs) = cond-nonempty (is_end x) ([] ∷ parts xs) (onto_first x (parts xs)) tt (onto_first-nonempty x (parts xs))

append-nonempty : (b : Bool) (x : ℕ) (p : List (List ℕ)) (q : List ℕ) → IsNonempty p
    → cond b ([] ∷ (p ++ q ∷ [])) (onto_first x (p ++ q ∷ [])) ≡ cond b ([] ∷ p) (onto_first x p) ++ q ∷ []
append-nonempty b x [] q h = absurd h
append-nonempty true x (a ∷ more) q h = refl
append-nonempty false x (a ∷ more) q h = refl

put_last-nonempty : (b : Bool) (x y : ℕ) (p : List (List ℕ)) → IsNonempty p
    → cond b ([] ∷ put_last y p) (onto_first x (put_last y p)) ≡ put_last y (cond b ([] ∷ p) (onto_first x p))
put_last-nonempty b x y [] h = absurd h
put_last-nonempty true x y (a ∷ []) h = refl
put_last-nonempty true x y (a ∷ c ∷ d) h = refl
put_last-nonempty false x y (a ∷ []) h = refl
put_last-nonempty false x y (a ∷ c ∷ d) h = refl

-- an end more begins a new part
parts-push_end : (xs : List ℕ) (y : ℕ) → is_end y ≡ true → parts (xs ++ y ∷ []) ≡ parts xs ++ [] ∷ []
parts-push_end [] y h = slice_split-cons_yes is_end y [] h
parts-push_end (x ∷ xs) y h =
    ap (λ w. cond (is_end x) ([] ∷ w) (onto_first x w)) (parts-push_end xs y h) ∙ append-nonempty (is_end x) x (parts xs) [] (parts-nonempty xs)

-- another byte more is in the last part
parts-push_other : (xs : List ℕ) (y : ℕ) → is_end y ≡ false → parts (xs ++ y ∷ []) ≡ put_last y (parts xs)
parts-push_other [] y h = slice_split-cons_no is_end y [] h
parts-push_other (x ∷ xs) y h =
    ap (λ w. cond (is_end x) ([] ∷ w) (onto_first x w)) (parts-push_other xs y h) ∙ put_last-nonempty (is_end x) x y (parts xs) (parts-nonempty xs)

all_but_last-append : (p : List (List ℕ)) (q : List ℕ) → all_but_last (p ++ q ∷ []) ≡ p
all_but_last-append [] q = refl
all_but_last-append (a ∷ []) q = refl
all_but_last-append (a ∷ b ∷ c) q = ap (λ w. a ∷ w) (all_but_last-append (b ∷ c) q)

last-append : (p : List (List ℕ)) (q : List ℕ) → last (p ++ q ∷ []) ≡ q
last-append [] q = refl
last-append (a ∷ []) q = refl
last-append (a ∷ b ∷ c) q = last-append (b ∷ c) q

all_but_last-put_last : (y : ℕ) (p : List (List ℕ)) → all_but_last (put_last y p) ≡ all_but_last p
all_but_last-put_last y [] = refl
all_but_last-put_last y (a ∷ []) = refl
all_but_last-put_last y (a ∷ b ∷ []) = refl
all_but_last-put_last y (a ∷ b ∷ c ∷ d) = ap (λ w. a ∷ w) (all_but_last-put_last y (b ∷ c ∷ d))

last-put_last : (y : ℕ) (p : List (List ℕ)) → last (put_last y p) ≡ last p ++ y ∷ []
last-put_last y [] = refl
last-put_last y (a ∷ []) = refl
last-put_last y (a ∷ b ∷ []) = refl
last-put_last y (a ∷ b ∷ c ∷ d) = last-put_last y (b ∷ c ∷ d)

all_and_last : (p : List (List ℕ)) → IsNonempty p → all_but_last p ++ last p ∷ [] ≡ p
all_and_last [] h = absurd h
all_and_last (a ∷ []) h = refl
all_and_last (a ∷ b ∷ c) h = ap (λ w. a ∷ w) (all_and_last (b ∷ c) tt)

-- a front of a front with more after it
pub take-take_append : (n : ℕ) (xs ys : List ℕ) → take n (take n xs ++ ys) ≡ take n (xs ++ ys)
take-take_append zero xs ys = refl
take-take_append (suc n) [] ys = refl
take-take_append (suc n) (x ∷ xs) ys = ap (λ w. x ∷ w) (take-take_append n xs ys)

kept-push : (xs : List ℕ) (y : ℕ) → kept (xs ++ y ∷ []) ≡ take line_limit (kept xs ++ filter is_kept (y ∷ []))
kept-push xs y =
    ap (take line_limit) (filter-append is_kept xs (y ∷ [])) ∙ sym (take-take_append line_limit (filter is_kept xs) (filter is_kept (y ∷ [])))

-- the lines that one more byte ends
abbrev pub ended_at : Rest → ℕ → List (List ℕ)
ended_at r b = cond (r.after_return && eqb b 10) [] (cond (is_end b) (r.line ∷ []) [])

abbrev pub line_after : Rest → ℕ → List ℕ
line_after r b = cond (r.after_return && eqb b 10) r.line (cond (is_end b) [] (take line_limit (r.line ++ filter is_kept (b ∷ []))))

-- the rest after the last end when one more byte has come
abbrev pub next : Rest → ℕ → Rest
next r b = record { line = line_after r b; after_return = eqb b 13 }

kept-none : kept [] ≡ []
unfolding line_limit
kept-none = refl

lines_at : (u : List ℕ) (b : ℕ) (second : Bool)
    → map kept (all_but_last (parts (u ++ cond second [] (b ∷ []))))
    ≡ map kept (all_but_last (parts u)) ++ cond second [] (cond (is_end b) (kept (last (parts u)) ∷ []) [])
lines_at u b true = ap (λ w. map kept (all_but_last (parts w))) (append-nil u) ∙ sym (append-nil (map kept (all_but_last (parts u))))
lines_at u b false = elim (cases_Bool (is_end b)) [
  | inl ends ↦
      ap (λ w. map kept (all_but_last w)) (parts-push_end u b ends)
      ∙ ap (map kept) (all_but_last-append (parts u) [] ∙ sym (all_and_last (parts u) (parts-nonempty u)))
      ∙ map_push kept (all_but_last (parts u)) (last (parts u))
      ∙ ap (λ w. map kept (all_but_last (parts u)) ++ w) (sym (cond-true (is_end b) (kept (last (parts u)) ∷ []) [] ends))
  | inr goes_on ↦
      ap (λ w. map kept (all_but_last w)) (parts-push_other u b goes_on)
      ∙ ap (map kept) (all_but_last-put_last b (parts u))
      ∙ sym (append-nil (map kept (all_but_last (parts u))))
      ∙ ap (λ w. map kept (all_but_last (parts u)) ++ w) (sym (cond-false (is_end b) (kept (last (parts u)) ∷ []) [] goes_on))
]

line_at : (u : List ℕ) (b : ℕ) (second : Bool)
    → kept (last (parts (u ++ cond second [] (b ∷ []))))
    ≡ cond second (kept (last (parts u))) (cond (is_end b) [] (take line_limit (kept (last (parts u)) ++ filter is_kept (b ∷ []))))
line_at u b true = ap (λ w. kept (last (parts w))) (append-nil u)
line_at u b false =
    let more : List ℕ = take line_limit (kept (last (parts u)) ++ filter is_kept (b ∷ [])) in
    elim (cases_Bool (is_end b)) [
      | inl ends ↦
          ap (λ w. kept (last w)) (parts-push_end u b ends) ∙ ap kept (last-append (parts u) []) ∙ kept-none ∙ sym (cond-true (is_end b) [] more ends)
      | inr goes_on ↦
          ap (λ w. kept (last w)) (parts-push_other u b goes_on)
          ∙ ap kept (last-put_last b (parts u))
          ∙ kept-push (last (parts u)) b
          ∙ sym (cond-false (is_end b) [] more goes_on)
    ]

last_byte-push : (a : ℕ) (bs : List ℕ) (c : ℕ) → last_byte a (bs ++ c ∷ []) ≡ c
last_byte-push a [] c = refl
last_byte-push a (b ∷ bs) c = last_byte-push b bs c

pub lines-push : (s : List ℕ) (b : ℕ) → lines (s ++ b ∷ []) ≡ lines s ++ ended_at (rest s) b
lines-push s b =
    ap (λ w. map kept (all_but_last (parts w))) (with_single_ends-push 0 s b)
    ∙ lines_at (with_single_ends 0 s) b (is_second (last_byte 0 s) b)

abbrev pub held : List ℕ → Bool → Rest
held line after = record { line = line; after_return = after }

pub same_rest : (l m : List ℕ) (x y : Bool) → l ≡ m → x ≡ y → held l x ≡ held m y
same_rest l m x y e f = ap (λ l. held l x) e ∙ ap (held m) f

pub rest-push : (s : List ℕ) (b : ℕ) → rest (s ++ b ∷ []) ≡ next (rest s) b
rest-push s b =
    same_rest _ _ _ _
    (ap (λ w. kept (last (parts w))) (with_single_ends-push 0 s b) ∙ line_at (with_single_ends 0 s) b (is_second (last_byte 0 s) b))
    (ap (λ c. eqb c 13) (last_byte-push 0 s b))

-- the lines that a piece ends, and what it leaves
abbrev pub lines_of : Rest → List ℕ → List (List ℕ)
lines_of r [] = []
lines_of r (b ∷ bs) = ended_at r b ++ lines_of (next r b) bs

abbrev pub rest_of : Rest → List ℕ → Rest
rest_of r [] = r
rest_of r (b ∷ bs) = rest_of (next r b) bs

-- a stream with a piece after it
pub lines-append : (s p : List ℕ) → lines (s ++ p) ≡ lines s ++ lines_of (rest s) p
lines-append s [] = ap lines (append-nil s) ∙ sym (append-nil (lines s))
lines-append s (b ∷ bs) =
    ap lines (sym (append_assoc s (b ∷ []) bs))
    ∙ lines-append (s ++ b ∷ []) bs
    ∙ ap (λ w. w ++ lines_of (rest (s ++ b ∷ [])) bs) (lines-push s b)
    ∙ ap (λ r. (lines s ++ ended_at (rest s) b) ++ lines_of r bs) (rest-push s b)
    ∙ append_assoc (lines s) (ended_at (rest s) b) (lines_of (next (rest s) b) bs)

pub rest-append : (s p : List ℕ) → rest (s ++ p) ≡ rest_of (rest s) p
rest-append s [] = ap rest (append-nil s)
rest-append s (b ∷ bs) = ap rest (sym (append_assoc s (b ∷ []) bs)) ∙ rest-append (s ++ b ∷ []) bs ∙ ap (λ r. rest_of r bs) (rest-push s b)

no_line : (a c e : Bool) (l : List (List ℕ)) → e ≡ false → cond (a && c) [] (cond e l []) ≡ []
no_line true true e l h = refl
no_line true false true l h = absurd (true≢false h)
no_line true false false l h = refl
no_line false c true l h = absurd (true≢false h)
no_line false c false l h = refl

line_grows : (a c e : Bool) (l m n : List ℕ) → c ≡ false → e ≡ false → cond (a && c) l (cond e m n) ≡ n
line_grows true true e l m n h k = absurd (true≢false h)
line_grows true false true l m n h k = absurd (true≢false k)
line_grows true false false l m n h k = refl
line_grows false c true l m n h k = absurd (true≢false k)
line_grows false c false l m n h k = refl

-- no byte is a line end
abbrev pub NoEnds : List ℕ → Type 0
NoEnds xs = (k : ℕ) → k < length xs → is_end (get_or xs k 0) ≡ true → ⊥

no_ends-first : (x : ℕ) (xs : List ℕ) → NoEnds (x ∷ xs) → is_end x ≡ false
no_ends-first x xs h = false_from_ne_true (is_end x) (h 0 (omega arith))

no_ends-others : (x : ℕ) (xs : List ℕ) → NoEnds (x ∷ xs) → NoEnds xs
no_ends-others x xs h = λ k l. h (suc k) (omega arith)

abbrev pub line_with : List ℕ → List ℕ → List ℕ
line_with line xs = take line_limit (line ++ filter is_kept xs)

next-plain : (r : Rest) (x : ℕ) → is_end x ≡ false → next r x ≡ record { line = line_with r.line (x ∷ []); after_return = false }
next-plain r x h =
    let parts = or_parts (eqb x 13) (eqb x 10) h in
    same_rest _ _ _ _ (line_grows r.after_return (eqb x 10) (is_end x) r.line [] (line_with r.line (x ∷ [])) parts.1 h) parts.0

line_with-more : (line : List ℕ) (x : ℕ) (xs : List ℕ) → line_with (line_with line (x ∷ [])) xs ≡ line_with line (x ∷ xs)
line_with-more line x xs =
    take-take_append line_limit (line ++ filter is_kept (x ∷ [])) (filter is_kept xs)
    ∙ ap (take line_limit) (append_assoc line (filter is_kept (x ∷ [])) (filter is_kept xs) ∙ ap (λ w. line ++ w) (sym (filter-append is_kept (x ∷ []) xs)))

-- what bytes without a line end leave
abbrev pub after_stretch : Rest → List ℕ → Rest
after_stretch r [] = r
after_stretch r (x ∷ xs) = record { line = line_with r.line (x ∷ xs); after_return = false }

after_stretch-more : (line : List ℕ) (x : ℕ) (xs : List ℕ)
    → after_stretch (record { line = line_with line (x ∷ []); after_return = false }) xs ≡ record { line = line_with line (x ∷ xs); after_return = false }
after_stretch-more line x [] = refl
after_stretch-more line x (y ∷ ys) = same_rest _ _ _ _ (line_with-more line x (y ∷ ys)) refl

pub lines_of-stretch : (r : Rest) (xs ys : List ℕ) → NoEnds xs → lines_of r (xs ++ ys) ≡ lines_of (after_stretch r xs) ys
lines_of-stretch r [] ys h = refl
lines_of-stretch r (x ∷ xs) ys h =
    let plain : is_end x ≡ false = no_ends-first x xs h in
    ap (λ w. w ++ lines_of (next r x) (xs ++ ys)) (no_line r.after_return (eqb x 10) (is_end x) (r.line ∷ []) plain)
    ∙ lines_of-stretch (next r x) xs ys (no_ends-others x xs h)
    ∙ ap (λ q. lines_of (after_stretch q xs) ys) (next-plain r x plain)
    ∙ ap (λ q. lines_of q ys) (after_stretch-more r.line x xs)

pub rest_of-stretch : (r : Rest) (xs ys : List ℕ) → NoEnds xs → rest_of r (xs ++ ys) ≡ rest_of (after_stretch r xs) ys
rest_of-stretch r [] ys h = refl
rest_of-stretch r (x ∷ xs) ys h =
    rest_of-stretch (next r x) xs ys (no_ends-others x xs h)
    ∙ ap (λ q. rest_of (after_stretch q xs) ys) (next-plain r x (no_ends-first x xs h))
    ∙ ap (λ q. rest_of q ys) (after_stretch-more r.line x xs)
