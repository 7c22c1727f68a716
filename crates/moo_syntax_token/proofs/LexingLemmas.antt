-- The bytes at the front of a line's rest decide how it is read.
use Rattle.std.proofs.Common.{ℕ, suc, List, [], ◌∷◌, ◌≡◌, refl, sym, ap, subst, Bool, true, false, drop, Some, None, nat_eq, ◌||◌, ◌⊎◌, inl, inr, arith}
use Rattle.moo_syntax_token.specs.declared.token.Token.{Token}
use Rattle.moo_syntax_token.specs.declared.token.Token.TheVariants.{Bad}
use Rattle.moo_syntax_token.specs.declared.token.Spot.{Spot}
use Rattle.moo_syntax_token.specs.Signs.{sign_at}
use Rattle.moo_syntax_token.specs.Tokens.{token_at}
use Rattle.moo_syntax_token.specs.Lexing.{begins_blank, begins_comment, ends_comment, Ending, complete, broken, unclosed, Place, outside, commented, Lexes, text_end, line_end, blank, token, comment, comment_goes_on, comment_end, no_token, never_closed}

either : (a b : Bool) → (a || b) ≡ true → (a ≡ true) ⊎ (b ≡ true)
either true b h = inl refl
either false b h = inr h

same_byte : (a b : ℕ) → nat_eq a b ≡ true → a ≡ b
same_byte a b h = grind arith

-- none of the three begins where nothing is left
pub no_blank_at_end : begins_blank [] ≡ false
unfolding begins_blank
no_blank_at_end = refl

pub no_comment_at_end : begins_comment [] ≡ false
unfolding begins_comment
no_comment_at_end = refl

pub no_comment_end_at_end : ends_comment [] ≡ false
unfolding ends_comment
no_comment_end_at_end = refl

pub no_token_at_end : token_at [] ≡ None
unfolding token_at
no_token_at_end = refl

at_space : (cs : List ℕ) → token_at (32 ∷ cs) ≡ None
unfolding token_at sign_at
at_space [] = refl
at_space (c ∷ cs) = refl

at_tab : (cs : List ℕ) → token_at (9 ∷ cs) ≡ None
unfolding token_at sign_at
at_tab [] = refl
at_tab (c ∷ cs) = refl

space_or_tab : (b : ℕ) (bs : List ℕ) → (nat_eq b 32 ≡ true) ⊎ (nat_eq b 9 ≡ true) → token_at (b ∷ bs) ≡ None
space_or_tab b bs (inl e) = rw (same_byte b 32 e) (at_space bs)
space_or_tab b bs (inr e) = rw (same_byte b 9 e) (at_tab bs)

-- no token begins with a blank
pub no_token_at_blank : (bs : List ℕ) → begins_blank bs ≡ true → token_at bs ≡ None
unfolding begins_blank
no_token_at_blank [] h = no_token_at_end
no_token_at_blank (b ∷ bs) h = space_or_tab b bs (either (nat_eq b 32) (nat_eq b 9) h)

space_no_comment : (cs : List ℕ) → begins_comment (32 ∷ cs) ≡ false
unfolding begins_comment
space_no_comment [] = refl
space_no_comment (c ∷ cs) = refl

tab_no_comment : (cs : List ℕ) → begins_comment (9 ∷ cs) ≡ false
unfolding begins_comment
tab_no_comment [] = refl
tab_no_comment (c ∷ cs) = refl

no_comment_cases : (b : ℕ) (bs : List ℕ) → (nat_eq b 32 ≡ true) ⊎ (nat_eq b 9 ≡ true) → begins_comment (b ∷ bs) ≡ false
no_comment_cases b bs (inl e) = rw (same_byte b 32 e) (space_no_comment bs)
no_comment_cases b bs (inr e) = rw (same_byte b 9 e) (tab_no_comment bs)

-- no comment begins with a blank
pub no_comment_at_blank : (bs : List ℕ) → begins_blank bs ≡ true → begins_comment bs ≡ false
unfolding begins_blank
no_comment_at_blank [] h = no_comment_at_end
no_comment_at_blank (b ∷ bs) h = no_comment_cases b bs (either (nat_eq b 32) (nat_eq b 9) h)

-- so each place of a text goes on in one way
pub after_blank : {e : Ending} {n : ℕ} {bs : List ℕ} {below : List (List ℕ)} {ts : List Spot} → begins_blank bs ≡ true → Lexes e outside n bs below ts → Lexes e outside n (drop 1 bs) below ts
after_blank h text_end = let f = no_blank_at_end in cc
after_blank h (line_end d) = let f = no_blank_at_end in cc
after_blank h (blank f d) = d
after_blank {bs = bs} h (token c t d) = let f = no_token_at_blank bs h in cc
after_blank {bs = bs} h (comment c d) = let f = no_comment_at_blank bs h in cc
after_blank h (no_token f c t) = cc

pub after_comment : {e : Ending} {n : ℕ} {bs : List ℕ} {below : List (List ℕ)} {ts : List Spot} → begins_comment bs ≡ true → Lexes e outside n bs below ts → Lexes e (commented n) n (drop 2 bs) below ts
after_comment h text_end = let f = no_comment_at_end in cc
after_comment h (line_end d) = let f = no_comment_at_end in cc
after_comment {bs = bs} h (blank f d) = let g = no_comment_at_blank bs f in cc
after_comment h (token c t d) = cc
after_comment h (comment c d) = d
after_comment h (no_token f c t) = cc

-- the tokens begin with x, and the others follow it
pub record GoesOnWith (e : Ending) (n : ℕ) (x : Token) (rest : List ℕ) (below : List (List ℕ)) (ts : List Spot) : Type 0 where
  pub others : List Spot
  pub is : ts ≡ record { token = x; line = n } ∷ others
  pub lexes : Lexes e outside n rest below others

pub after_token : {e : Ending} {n : ℕ} {bs : List ℕ} {below : List (List ℕ)} {ts : List Spot} {x : Token} {k : ℕ} → begins_comment bs ≡ false → token_at bs ≡ Some (x, k) → Lexes e outside n bs below ts → GoesOnWith e n x (drop k bs) below ts
after_token h s text_end = let f = no_token_at_end in cc
after_token h s (line_end d) = let f = no_token_at_end in cc
after_token {bs = bs} h s (blank f d) = let g = no_token_at_blank bs f in cc
after_token {e = e} {n = n} {bs = bs} {below = below} {x = x} {k = k} h s (token {ts = vs} {x = y} {k = m} c t d) =
    let pair : ◌≡◌ {A = Token × ℕ} (x, k) (y, m) = cc in
    let head : x ≡ y = ap (λ (t : Token × ℕ). t.0) pair in
    let length : k ≡ m = ap (λ (t : Token × ℕ). t.1) pair in
    record {
      others = vs;
      is = rw head refl;
      lexes = subst (λ k. Lexes e outside n (drop k bs) below vs) (sym length) d;
    }
after_token h s (comment c d) = cc
after_token h s (no_token f c t) = cc

pub at_no_token : {e : Ending} {n b : ℕ} {bs : List ℕ} {below : List (List ℕ)} {ts : List Spot} → begins_blank (b ∷ bs) ≡ false → begins_comment (b ∷ bs) ≡ false → token_at (b ∷ bs) ≡ None → Lexes e outside n (b ∷ bs) below ts → (e ≡ broken) × (ts ≡ record { token = Bad; line = n } ∷ [])
at_no_token f g h (blank i d) = cc
at_no_token f g h (token c t d) = cc
at_no_token f g h (comment c d) = cc
at_no_token f g h (no_token i c t) = (refl, refl)

pub after_comment_end : {e : Ending} {k n : ℕ} {bs : List ℕ} {below : List (List ℕ)} {ts : List Spot} → ends_comment bs ≡ true → Lexes e (commented k) n bs below ts → Lexes e outside n (drop 2 bs) below ts
after_comment_end h (line_end d) = let f = no_comment_end_at_end in cc
after_comment_end h (comment_goes_on f d) = cc
after_comment_end h (comment_end f d) = d
after_comment_end h never_closed = let f = no_comment_end_at_end in cc

pub in_comment : {e : Ending} {k n b : ℕ} {bs : List ℕ} {below : List (List ℕ)} {ts : List Spot} → ends_comment (b ∷ bs) ≡ false → Lexes e (commented k) n (b ∷ bs) below ts → Lexes e (commented k) n bs below ts
in_comment h (comment_goes_on f d) = d
in_comment h (comment_end f d) = cc

pub after_line : {e : Ending} {p : Place} {n : ℕ} {line : List ℕ} {below : List (List ℕ)} {ts : List Spot} → Lexes e p n [] (line ∷ below) ts → Lexes e p (suc n) line below ts
after_line (line_end d) = d
after_line (blank h d) = let f = no_blank_at_end in cc
after_line (token c t d) = let f = no_token_at_end in cc
after_line (comment c d) = let f = no_comment_at_end in cc
after_line (comment_end h d) = let f = no_comment_end_at_end in cc

pub at_text_end : {e : Ending} {n : ℕ} {ts : List Spot} → Lexes e outside n [] [] ts → (e ≡ complete) × (ts ≡ [])
at_text_end text_end = (refl, refl)
at_text_end (blank h d) = let f = no_blank_at_end in cc
at_text_end (token c t d) = let f = no_token_at_end in cc
at_text_end (comment c d) = let f = no_comment_at_end in cc

pub at_open_end : {e : Ending} {k n : ℕ} {ts : List Spot} → Lexes e (commented k) n [] [] ts → (e ≡ unclosed) × (ts ≡ record { token = Bad; line = k } ∷ [])
at_open_end (comment_end h d) = let f = no_comment_end_at_end in cc
at_open_end never_closed = (refl, refl)

-- and it is read in one way
pub one_lexing : {e f : Ending} {p : Place} {n : ℕ} {bs : List ℕ} {below : List (List ℕ)} {ts us : List Spot} → Lexes e p n bs below ts → Lexes f p n bs below us → (e ≡ f) × (ts ≡ us)
one_lexing text_end d = let a = at_text_end d in (sym a.0, sym a.1)
one_lexing (line_end c) d = one_lexing c (after_line d)
one_lexing (blank h c) d = one_lexing c (after_blank h d)
one_lexing (token h t c) d =
    let a = after_token h t d in
    let b = one_lexing c a.lexes in
    (b.0, rw (a.is, b.1) refl)
one_lexing (comment h c) d = one_lexing c (after_comment h d)
one_lexing (comment_goes_on h c) d = one_lexing c (in_comment h d)
one_lexing (comment_end h c) d = one_lexing c (after_comment_end h d)
one_lexing (no_token h i t) d = let a = at_no_token h i t d in (sym a.0, sym a.1)
one_lexing never_closed d = let a = at_open_end d in (sym a.0, sym a.1)
