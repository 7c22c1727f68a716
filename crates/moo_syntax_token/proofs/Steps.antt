-- Steps over a text.
use Rattle.std.proofs.Common.{ℕ, suc, List, [], ◌∷◌, ◌++◌, ◌≡◌, ◌+◌, refl, sym, ◌∙◌, ap, subst, true, false, drop, Some, None, append_assoc, ◌<◌, ◌≤◌, ◌-◌, length, get_or, take, nat_eq, Option, arith, add-one, drop-cons}
use Rattle.std.proofs.lemmas.List.{append-nil, take_rest, drop_all}
use Rattle.std.specs.Option.{is_some}
use Rattle.moo_syntax_token.specs.declared.token.Token.{Token}
use Rattle.moo_syntax_token.specs.declared.token.Token.TheVariants.{Bad}
use Rattle.moo_syntax_token.specs.declared.token.Spot.{Spot}
use Rattle.moo_syntax_token.specs.Tokens.{token_at}
use Rattle.moo_syntax_token.specs.Lexing.{begins_blank, begins_comment, ends_comment, complete, broken, unclosed, Place, outside, commented, IsReading, text_end, line_end, blank, token, comment, comment_goes_on, comment_end, no_token, never_closed}
use Rattle.moo_syntax_token.specs.Passing.{place, GoesOn, Passes, Stops}

at_start : (lines : List (List ℕ)) (found : List Spot) → found ≡ [] → GoesOn lines outside 0 [] lines found
at_start lines found e = rw e (record { reads = λ f ts d. d })

pub stays : (n : ℕ) (p : Place) (bs : List ℕ) (found : List Spot) → Passes n p bs found p bs found
stays n p bs found = record { passes = λ lines below g. g }

goes : {n : ℕ} {p q r : Place} {bs cs ds : List ℕ} {ts us vs : List Spot} → Passes n p bs ts q cs us → Passes n q cs us r ds vs → Passes n p bs ts r ds vs
goes a b = record { passes = λ lines below g. b.passes lines below (a.passes lines below g) }

over_blank : {n : ℕ} {bs : List ℕ} (found : List Spot) → begins_blank bs ≡ true → Passes n outside bs found outside (drop 1 bs) found
over_blank found h = record { passes = λ lines below g. record { reads = λ e ts d. g.reads e ts (blank h d) } }

into_comment : {n : ℕ} {bs : List ℕ} (found : List Spot) → begins_comment bs ≡ true → Passes n outside bs found (commented n) (drop 2 bs) found
into_comment found h = record { passes = λ lines below g. record { reads = λ e ts d. g.reads e ts (comment h d) } }

out_of_comment : {k n : ℕ} {bs : List ℕ} (found : List Spot) → ends_comment bs ≡ true → Passes n (commented k) bs found outside (drop 2 bs) found
out_of_comment found h = record { passes = λ lines below g. record { reads = λ e ts d. g.reads e ts (comment_end h d) } }

in_comment : {k n : ℕ} (b : ℕ) (bs : List ℕ) (found : List Spot) → ends_comment (b ∷ bs) ≡ false → Passes n (commented k) (b ∷ bs) found (commented k) bs found
in_comment b bs found h = record { passes = λ lines below g. record { reads = λ e ts d. g.reads e ts (comment_goes_on h d) } }

over_token : (n : ℕ) (bs : List ℕ) (x : Token) (k : ℕ) (found more : List Spot) → begins_comment bs ≡ false → token_at bs ≡ Some (x, k) → more ≡ found ++ record { token = x; line = n } ∷ [] → Passes n outside bs found outside (drop k bs) more
over_token n bs x k found more h t m = rw m (record {
  passes = λ lines below g. record {
    reads = λ e ts d. rw (append_assoc found (record { token = x; line = n } ∷ []) ts) (g.reads e (record { token = x; line = n } ∷ ts) (token h t d));
  };
})

over_comment_byte : (k n : ℕ) (bs : List ℕ) (found : List Spot) → 0 < length bs → ends_comment bs ≡ false → Passes n (commented k) bs found (commented k) (drop 1 bs) found
over_comment_byte k n [] found i h = absurd (omega arith)
over_comment_byte k n (b ∷ bs) found i h = in_comment b bs found h

place_none : (o : Option ℕ) → false ≡ is_some o → place o ≡ outside
place_none None h = refl
place_none (Some n) h = cc

place_some : (o : Option ℕ) → true ≡ is_some o → (k : ℕ) × (place o ≡ commented k)
place_some None h = cc
place_some (Some n) h = (n, refl)

-- the cases of a reader's step
pub passes_comment_byte : (n : ℕ) (o : Option ℕ) (bs : List ℕ) (found : List Spot) → true ≡ is_some o → 0 < length bs → false ≡ ends_comment bs → Passes n (place o) bs found (place o) (drop 1 bs) found
passes_comment_byte n o bs found s i h = let at = place_some o s in rw at.1 (over_comment_byte at.0 n bs found i (sym h))

pub passes_comment_end : (n : ℕ) (o : Option ℕ) (bs : List ℕ) (found : List Spot) → true ≡ is_some o → true ≡ ends_comment bs → Passes n (place o) bs found outside (drop 2 bs) found
passes_comment_end n o bs found s h = let at = place_some o s in rw at.1 (out_of_comment found (sym h))

pub passes_blank : (n : ℕ) (o : Option ℕ) (bs : List ℕ) (found : List Spot) → false ≡ is_some o → true ≡ begins_blank bs → Passes n (place o) bs found (place o) (drop 1 bs) found
passes_blank n o bs found s h = rw (place_none o s) (over_blank found (sym h))

pub passes_comment_begin : (n : ℕ) (o : Option ℕ) (bs : List ℕ) (found : List Spot) → false ≡ is_some o → true ≡ begins_comment bs → Passes n (place o) bs found (commented n) (drop 2 bs) found
passes_comment_begin n o bs found s h = rw (place_none o s) (into_comment found (sym h))

pub passes_token : (n : ℕ) (o : Option ℕ) (bs : List ℕ) (x : Token) (k : ℕ) (found more : List Spot) → false ≡ is_some o → false ≡ begins_comment bs → Some (x, k) ≡ token_at bs → more ≡ found ++ record { token = x; line = n } ∷ [] → Passes n (place o) bs found (place o) (drop k bs) more
passes_token n o bs x k found more s h t m = rw (place_none o s) (over_token n bs x k found more (sym h) (sym t) m)

stops_outside : (n : ℕ) (bs : List ℕ) (found spots : List Spot) → 0 < length bs → begins_blank bs ≡ false → begins_comment bs ≡ false → token_at bs ≡ None → spots ≡ found ++ record { token = Bad; line = n } ∷ [] → Stops n outside bs found spots
stops_outside n [] found spots i f g h m = absurd (omega arith)
stops_outside n (b ∷ bs) found spots i f g h m = rw m (record {
  stops = λ lines below r. record { ending = broken; lexes = r.reads broken (record { token = Bad; line = n } ∷ []) (no_token f g h) };
})

pub stops_at : (n : ℕ) (o : Option ℕ) (bs : List ℕ) (found spots : List Spot) → false ≡ is_some o → 0 < length bs → false ≡ begins_blank bs → false ≡ begins_comment bs → None ≡ token_at bs → spots ≡ found ++ record { token = Bad; line = n } ∷ [] → Stops n (place o) bs found spots
stops_at n o bs found spots s i f g h m = rw (place_none o s) (stops_outside n bs found spots i (sym f) (sym g) (sym h) m)

-- spots that are found from a later place of a line are found from its start
pub stops_later : {n : ℕ} {p q : Place} {bs cs : List ℕ} {ts us spots : List Spot} → Passes n p bs ts q cs us → Stops n q cs us spots → Stops n p bs ts spots
stops_later a f = record { stops = λ lines below g. f.stops lines below (a.passes lines below g) }

empty : (bs : List ℕ) → true ≡ nat_eq (length bs) 0 → bs ≡ []
empty [] h = refl
empty (b ∷ bs) h = absurd (grind arith)

pub at_line_end : {n : ℕ} {p q : Place} {bs cs : List ℕ} {ts us : List Spot} → true ≡ nat_eq (length cs) 0 → Passes n p bs ts q cs us → Passes n p bs ts q [] us
at_line_end {cs = cs} e a = rw (empty cs e) at a

pub goes_rest : {n : ℕ} {p q r : Place} {bs : List ℕ} (cs : List ℕ) (k : ℕ) {ts us vs : List Spot} → Passes n p bs ts q cs us → Passes n q cs us r (drop k cs) vs → Passes n p bs ts r (take (length cs - k) (drop k cs)) vs
goes_rest cs k a b = rw (take_rest cs k) (goes a b)

-- the lexer after the first i lines of a text
pub record IsAt (lines : List (List ℕ)) (i n : ℕ) (o : Option ℕ) (found : List Spot) : Type 0 where
  pub at : n ≡ i
  pub goes_on : GoesOn lines (place o) n [] (drop i lines) found

pub starts : (lines : List (List ℕ)) (found : List Spot) → found ≡ [] → IsAt lines 0 0 None found
starts lines found e = record { at = refl; goes_on = at_start lines found e }

next_line : {lines : List (List ℕ)} {p : Place} {n : ℕ} {line : List ℕ} {below : List (List ℕ)} {found : List Spot} → GoesOn lines p n [] (line ∷ below) found → GoesOn lines p (suc n) line below found
next_line g = record { reads = λ e ts d. g.reads e ts (line_end d) }

at_line : (lines : List (List ℕ)) (i n : ℕ) (o : Option ℕ) (found : List Spot) (line : List ℕ) → i < length lines → line ≡ get_or lines i line → IsAt lines i n o found → GoesOn lines (place o) (n + 1) line (drop (i + 1) lines) found
at_line lines i n o found line h e a =
    let front : drop i lines ≡ line ∷ drop (suc i) lines = drop-cons lines i line h ∙ ap (λ x. x ∷ drop (suc i) lines) (sym e) in
    let g : GoesOn lines (place o) n [] (line ∷ drop (suc i) lines) found = subst (λ x. GoesOn lines (place o) n [] x found) front a.goes_on in
    rw (add-one, add-one) (next_line g)

pub line_passed : (lines : List (List ℕ)) (i n : ℕ) (o q : Option ℕ) (found more : List Spot) (line bytes : List ℕ) → i < length lines → line ≡ get_or lines i line → bytes ≡ line → IsAt lines i n o found → Passes (n + 1) (place o) bytes found (place q) [] more → IsAt lines (i + 1) (n + 1) q more
line_passed lines i n o q found more line bytes h e b a p = record {
  at = omega arith;
  goes_on = (rw b at p).passes lines (drop (i + 1) lines) (at_line lines i n o found line h e a);
}

pub line_stops : (lines : List (List ℕ)) (i n : ℕ) (o : Option ℕ) (found spots : List Spot) (line bytes : List ℕ) → i < length lines → line ≡ get_or lines i line → bytes ≡ line → IsAt lines i n o found → Stops (n + 1) (place o) bytes found spots → IsReading lines spots
line_stops lines i n o found spots line bytes h e b a f = (rw b at f).stops lines (drop (i + 1) lines) (at_line lines i n o found line h e a)

at_end : (lines : List (List ℕ)) (i n : ℕ) (o : Option ℕ) (found : List Spot) → length lines ≤ i → IsAt lines i n o found → GoesOn lines (place o) n [] [] found
at_end lines i n o found h a = rw (drop_all i lines h) at a.goes_on

pub ends_unclosed : (lines : List (List ℕ)) (i n : ℕ) (o : Option ℕ) (k : ℕ) (found spots : List Spot) → length lines ≤ i → IsAt lines i n o found → o ≡ Some k → spots ≡ found ++ record { token = Bad; line = k } ∷ [] → IsReading lines spots
ends_unclosed lines i n o k found spots h a e m =
    let g : GoesOn lines (commented k) n [] [] found = at_end lines i n (Some k) found h (rw e at a) in
    rw m (record { ending = unclosed; lexes = g.reads unclosed (record { token = Bad; line = k } ∷ []) never_closed })

pub ends : (lines : List (List ℕ)) (i n : ℕ) (o : Option ℕ) (found : List Spot) → length lines ≤ i → IsAt lines i n o found → o ≡ None → IsReading lines found
ends lines i n o found h a e =
    let g : GoesOn lines outside n [] [] found = at_end lines i n None found h (rw e at a) in
    record { ending = complete; lexes = rw append-nil at (g.reads complete [] text_end) }
