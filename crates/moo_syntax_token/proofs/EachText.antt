-- Each text is read in some way.
use Rattle.std.proofs.Common.{ℕ, suc, zero, List, [], ◌∷◌, ◌≡◌, refl, ◌+◌, ◌<◌, Bool, true, false, Option, Some, None, length, drop, arith}
use Rattle.std.proofs.lemmas.List.{length-drop}
use Rattle.moo_syntax_token.specs.declared.token.Token.{Token}
use Rattle.moo_syntax_token.specs.declared.token.Spot.{Spot}
use Rattle.moo_syntax_token.specs.Tokens.{token_at}
use Rattle.moo_syntax_token.specs.Lexing.{begins_blank, begins_comment, ends_comment, Ending, complete, broken, unclosed, Place, outside, commented, Lexes, text_end, line_end, blank, token, comment, comment_goes_on, comment_end, no_token, never_closed, IsReading}
use Rattle.moo_syntax_token.proofs.TokenLengths.{token_length}

-- the text after a place is read in some way
record Goes (p : Place) (n : ℕ) (bs : List ℕ) (below : List (List ℕ)) : Type 0 where
  pub ending : Ending
  pub spots : List Spot
  pub lexes : Lexes ending p n bs below spots

-- how many steps are left at most
left : List ℕ → List (List ℕ) → ℕ
left bs [] = length bs
left bs (line ∷ below) = suc (length bs + left line below)

left_less : (k b : ℕ) (bs : List ℕ) (below : List (List ℕ)) → 0 < k → left (drop k (b ∷ bs)) below < left (b ∷ bs) below
unfolding left
left_less k b bs [] h = omega (arith, length-drop k (b ∷ bs))
left_less k b bs (line ∷ below) h = omega (arith, length-drop k (b ∷ bs))

left_line : (line : List ℕ) (below : List (List ℕ)) → left line below < left [] (line ∷ below)
unfolding left
left_line line below = omega arith

-- one step, where what follows it is read
in_comment : (k n b : ℕ) (bs : List ℕ) (below : List (List ℕ)) → ((m : ℕ) (p : Place) → 0 < m → Goes p n (drop m (b ∷ bs)) below) → (q : Bool) → ends_comment (b ∷ bs) ≡ q → Goes (commented k) n (b ∷ bs) below
in_comment k n b bs below more true e = let g = more 2 outside (omega arith) in record { ending = g.ending; spots = g.spots; lexes = comment_end e g.lexes }
in_comment k n b bs below more false e = let g = more 1 (commented k) (omega arith) in record { ending = g.ending; spots = g.spots; lexes = comment_goes_on e g.lexes }

at_token : (n b : ℕ) (bs : List ℕ) (below : List (List ℕ)) → ((m : ℕ) (p : Place) → 0 < m → Goes p n (drop m (b ∷ bs)) below) → begins_blank (b ∷ bs) ≡ false → begins_comment (b ∷ bs) ≡ false → (o : Option (Token × ℕ)) → token_at (b ∷ bs) ≡ o → Goes outside n (b ∷ bs) below
at_token n b bs below more h c None e = record { ending = broken; spots = _; lexes = no_token h c e }
at_token n b bs below more h c (Some t) e =
    let g = more t.1 outside (token_length (b ∷ bs) t.0 t.1 e) in
    record { ending = g.ending; spots = record { token = t.0; line = n } ∷ g.spots; lexes = token c e g.lexes }

no_blank : (n b : ℕ) (bs : List ℕ) (below : List (List ℕ)) → ((m : ℕ) (p : Place) → 0 < m → Goes p n (drop m (b ∷ bs)) below) → begins_blank (b ∷ bs) ≡ false → (q : Bool) → begins_comment (b ∷ bs) ≡ q → Goes outside n (b ∷ bs) below
no_blank n b bs below more h true e = let g = more 2 (commented n) (omega arith) in record { ending = g.ending; spots = g.spots; lexes = comment e g.lexes }
no_blank n b bs below more h false e = at_token n b bs below more h e (token_at (b ∷ bs)) refl

between : (n b : ℕ) (bs : List ℕ) (below : List (List ℕ)) → ((m : ℕ) (p : Place) → 0 < m → Goes p n (drop m (b ∷ bs)) below) → (q : Bool) → begins_blank (b ∷ bs) ≡ q → Goes outside n (b ∷ bs) below
between n b bs below more true e = let g = more 1 outside (omega arith) in record { ending = g.ending; spots = g.spots; lexes = blank e g.lexes }
between n b bs below more false e = no_blank n b bs below more e (begins_comment (b ∷ bs)) refl

read_within : (steps : ℕ) (p : Place) (n : ℕ) (bs : List ℕ) (below : List (List ℕ)) → left bs below < steps → Goes p n bs below
read_within zero p n bs below h = absurd (omega arith)
read_within (suc s) outside n [] [] h = record { ending = complete; spots = []; lexes = text_end }
read_within (suc s) (commented k) n [] [] h = record { ending = unclosed; spots = _; lexes = never_closed }
read_within (suc s) p n [] (line ∷ below) h =
    let g = read_within s p (suc n) line below (let l = left_line line below in omega arith) in
    record { ending = g.ending; spots = g.spots; lexes = line_end g.lexes }
read_within (suc s) (commented k) n (b ∷ bs) below h =
    in_comment k n b bs below (λ m p i. read_within s p n (drop m (b ∷ bs)) below (let l = left_less m b bs below i in omega arith)) (ends_comment (b ∷ bs)) refl
read_within (suc s) outside n (b ∷ bs) below h =
    between n b bs below (λ m p i. read_within s p n (drop m (b ∷ bs)) below (let l = left_less m b bs below i in omega arith)) (begins_blank (b ∷ bs)) refl

pub each_text_has_a_reading : (lines : List (List ℕ)) → (spots : List Spot) × IsReading lines spots
each_text_has_a_reading lines =
    let g = read_within (suc (left [] lines)) outside 0 [] lines (omega arith) in
    (g.spots, record { ending = g.ending; lexes = g.lexes })
