-- Lines with a space, and the lines of objects' numbers.
use Rattle.std.proofs.Common.{◌≡◌, ◌≢◌, ℕ, ◌+◌, ◌<◌, ◌≤◌, Bool, true, false, cond, eqb, List, [], ◌∷◌, ◌++◌, take, drop, length, get_or, Option, Some, None, refl, sym, ap, ◌∙◌, subst, append_assoc, MatchOption, eq-eqb, ◌-◌}
use Rattle.std.specs.Prelude.{option_map}
use Rattle.std.specs.Borrow.{Bor}
use Rattle.std.specs.Cmp.Lexicographic.{pointwise}
use Rattle.std.specs.Str.{bytes_eq}
use Rattle.std.proofs.lemmas.Bool.{ne_eqb}
use Rattle.std.proofs.lemmas.Slice.Eq.{bytes_eq-Decides, strip_prefix_is}
use Rattle.std.proofs.lemmas.Bool.Decides.{Decides-eqb}
use Rattle.std.proofs.lemmas.List.{at_drop_more, take_more, append-nil, take_rest, drop_all, take-append-drop}
use Rattle.std.proofs.Math.Seq.{take-append_seam, drop-append_seam}
use Rattle.moo_dbtext_object.specs.Lines.{Line}
use Rattle.moo_dbtext_record.specs.Headings.{before, parts_of, following as rest_after}

-- the parts with more in front
abbrev pub led : Line → Option (Line × Line) → Option (Line × Line)
led front rest = option_map (λ p. (front ++ p.0, p.1)) rest

led-before : (front : Line) (b : ℕ) (rest : Option (Line × Line)) → led front (before b rest) ≡ led (front ++ b ∷ []) rest
led-before front b None = refl
led-before front b (Some p) = ap (λ (f : Line). Some (f, p.1)) (sym (append_assoc front (b ∷ []) p.0))

pub skip : (at b : ℕ) (bs : Line) → b ≢ at → parts_of at (b ∷ bs) ≡ before b (parts_of at bs)
unfolding parts_of
skip at b bs other = rw (ne_eqb b at other) refl

pub stop : (at b : ℕ) (bs : Line) → b ≡ at → parts_of at (b ∷ bs) ≡ Some ([], bs)
unfolding parts_of
stop at b bs space = rw (eq-eqb b at space) refl

pub parts_more : (at : ℕ) (line : Line) (i : ℕ) → i < length line → get_or line i 0 ≢ at → led (take i line) (parts_of at (drop i line)) ≡ parts_of at line → led (take (i + 1) line) (parts_of at (drop (i + 1) line)) ≡ parts_of at line
parts_more at line i lt other so_far =
    let b = get_or line i 0 in
    let rest = drop (i + 1) line in
    let here : parts_of at (drop i line) ≡ before b (parts_of at rest) = at_drop_more (parts_of at) line i 0 lt ∙ skip at b rest other in
    ap (λ (f : Line). led f (parts_of at rest)) (take_more line i 0 lt) ∙ sym (led-before (take i line) b (parts_of at rest)) ∙ sym (ap (led (take i line)) here) ∙ so_far

pub parts_here : (at : ℕ) (line : Line) (i : ℕ) → i < length line → get_or line i 0 ≡ at → led (take i line) (parts_of at (drop i line)) ≡ parts_of at line → Some (take i line, take (length line - (i + 1)) (drop (i + 1) line)) ≡ parts_of at line
parts_here at line i lt space so_far =
    let rest = drop (i + 1) line in
    let whole : take (length line - (i + 1)) rest ≡ rest = take_rest line (i + 1) in
    let here : parts_of at (drop i line) ≡ Some ([], rest) = at_drop_more (parts_of at) line i 0 lt ∙ stop at (get_or line i 0) rest space in
    ap (λ (r : Line). Some (take i line, r)) whole ∙ ap (λ (f : Line). Some (f, rest)) (sym (append-nil (take i line))) ∙ sym (ap (led (take i line)) here) ∙ so_far

pub parts_none : (at : ℕ) (line : Line) (i : ℕ) → length line ≤ i → led (take i line) (parts_of at (drop i line)) ≡ parts_of at line → None ≡ parts_of at line
unfolding parts_of
parts_none at line i past so_far = ap (λ (r : Line). led (take i line) (parts_of at r)) (sym (drop_all i line past)) ∙ so_far

bytes_eq-append : (front a b : List ℕ) → bytes_eq (front ++ a) (front ++ b) ≡ bytes_eq a b
bytes_eq-append [] a b = refl
bytes_eq-append (x ∷ front) a b = rw (eq-eqb x x refl) (bytes_eq-append front a b)

pub joined_some : (line front back : List ℕ) (r : Option (Bor (List ℕ))) (x : Bor (List ℕ)) → MatchOption r (pointwise eqb (take (length front) line) front ≡ false) (λ y. (pointwise eqb (take (length front) line) front ≡ true) × (y.now ≡ drop (length front) line) × (length y.now + length front ≡ length line))
    → r ≡ Some x → bytes_eq x.now back ≡ bytes_eq line (front ++ back)
joined_some line front back r x h e =
    let parts = strip_prefix_is Decides-eqb line front r h in
    let split : line ≡ front ++ x.now = subst (λ (o : Option (Bor (List ℕ))). MatchOption o ((rest : List ℕ) → line ≢ front ++ rest) (λ y. line ≡ front ++ y.now)) e parts in
    sym (ap (λ (l : List ℕ). bytes_eq l (front ++ back)) split ∙ bytes_eq-append front x.now back)

is_false : (b : Bool) → (b ≡ true → ⊥) → false ≡ b
is_false true refuted = absurd (refuted refl)
is_false false refuted = refl

pub joined_none : (line front back : List ℕ) (r : Option (Bor (List ℕ))) → MatchOption r (pointwise eqb (take (length front) line) front ≡ false) (λ y. (pointwise eqb (take (length front) line) front ≡ true) × (y.now ≡ drop (length front) line) × (length y.now + length front ≡ length line))
    → r ≡ None → false ≡ bytes_eq line (front ++ back)
joined_none line front back r h e =
    let parts = strip_prefix_is Decides-eqb line front r h in
    let differs : (rest : List ℕ) → line ≢ front ++ rest = subst (λ (o : Option (Bor (List ℕ))). MatchOption o ((rest : List ℕ) → line ≢ front ++ rest) (λ y. line ≡ front ++ y.now)) e parts in
    is_false (bytes_eq line (front ++ back)) (λ same. differs back ((bytes_eq-Decides line (front ++ back)).0 same))

-- ---- the rest after a prefix

eq_self : (line : Line) → bytes_eq line line ≡ true
eq_self line = (bytes_eq-Decides line line).1 refl

pub after_again : (front x : Line) → rest_after front (front ++ x) ≡ Some x
unfolding rest_after
after_again front x = rw (take-append_seam front x, drop-append_seam front x, eq_self front) refl

pub after_found : (front line x : Line) → rest_after front line ≡ Some x → line ≡ front ++ x
unfolding rest_after
after_found front line x e = decide (bytes_eq (take (length front) line) front) refl e
  where
    decide : (b : Bool) → bytes_eq (take (length front) line) front ≡ b → cond b (Some (drop (length front) line)) None ≡ Some x → line ≡ front ++ x
    decide true is f =
        let rest : drop (length front) line ≡ x = cc in
        sym (take-append-drop (length front) line) ∙ ap (λ (l : Line). l ++ drop (length front) line) ((bytes_eq-Decides (take (length front) line) front).0 is) ∙ ap (λ (l : Line). front ++ l) rest
    decide false is f = absurd cc

after_none : (front line : Line) → ((rest : Line) → line ≢ front ++ rest) → rest_after front line ≡ None
unfolding rest_after
after_none front line h = decide (bytes_eq (take (length front) line) front) refl
  where
    decide : (b : Bool) → bytes_eq (take (length front) line) front ≡ b → cond b (Some (drop (length front) line)) None ≡ None
    decide true is = absurd (h (drop (length front) line) (sym (take-append-drop (length front) line) ∙ ap (λ (l : Line). l ++ drop (length front) line) ((bytes_eq-Decides (take (length front) line) front).0 is)))
    decide false is = refl

pub stripped : (front line : Line) (r : Option (Bor (List ℕ))) → MatchOption r (pointwise eqb (take (length front) line) front ≡ false) (λ y. (pointwise eqb (take (length front) line) front ≡ true) × (y.now ≡ drop (length front) line) × (length y.now + length front ≡ length line))
    → option_map (λ y. y.now) r ≡ rest_after front line
stripped front line None h = sym (after_none front line (strip_prefix_is Decides-eqb line front None h))
stripped front line (Some y) h =
    let split : line ≡ front ++ y.now = strip_prefix_is Decides-eqb line front (Some y) h in
    sym (ap (rest_after front) split ∙ after_again front y.now)
