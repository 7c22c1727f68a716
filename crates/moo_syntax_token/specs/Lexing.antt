-- The tokens of a text, each with its line.
use Rattle.std.specs.Prelude.{ℕ, suc, List, [], ◌∷◌, ◌≡◌, Bool, true, false, Some, None, nat_eq, ◌&&◌, ◌||◌, drop}
use Rattle.moo_syntax_token.specs.declared.token.Token.{Token}
use Rattle.moo_syntax_token.specs.declared.token.Token.TheVariants.{Bad}
use Rattle.moo_syntax_token.specs.declared.token.Spot.{Spot}
use Rattle.moo_syntax_token.specs.Tokens.{token_at}

-- a space or a tab
unfoldable pub begins_blank : List ℕ → Bool
begins_blank [] = false
begins_blank (a ∷ bs) = nat_eq a 32 || nat_eq a 9

-- `/*`
unfoldable pub begins_comment : List ℕ → Bool
begins_comment (a ∷ b ∷ bs) = nat_eq a 47 && nat_eq b 42
begins_comment (a ∷ []) = false
begins_comment [] = false

-- `*/`
unfoldable pub ends_comment : List ℕ → Bool
ends_comment (a ∷ b ∷ bs) = nat_eq a 42 && nat_eq b 47
ends_comment (a ∷ []) = false
ends_comment [] = false

-- between tokens, or in a comment that was opened on this line
pub data Place : Type 0 where
  outside : Place
  commented : ℕ → Place

-- why the tokens end: at the end of the text, at a place where no token begins, or in a comment that is never closed
pub data Ending : Type 0 where
  complete : Ending
  broken : Ending
  unclosed : Ending

-- From this place of line n, with these bytes left of the line and these lines below it, these tokens follow and end in
-- this way. If they do not end with the text, the last is `Bad`, on the line of the fault: that of the comment's `/*`.
pub data Lexes : Ending → Place → ℕ → List ℕ → List (List ℕ) → List Spot → Type 0 where
  -- the text ends between tokens
  text_end : {n : ℕ} → Lexes complete outside n [] [] []
  -- a line's end separates tokens, and may be in a comment too
  line_end : {e : Ending} {p : Place} {n : ℕ} {line : List ℕ} {below : List (List ℕ)} {ts : List Spot} → Lexes e p (suc n) line below ts → Lexes e p n [] (line ∷ below) ts
  blank : {e : Ending} {n : ℕ} {bs : List ℕ} {below : List (List ℕ)} {ts : List Spot} → begins_blank bs ≡ true → Lexes e outside n (drop 1 bs) below ts → Lexes e outside n bs below ts
  -- the longest token, which ends on its line
  token : {e : Ending} {n : ℕ} {bs : List ℕ} {below : List (List ℕ)} {ts : List Spot} {x : Token} {k : ℕ} → begins_comment bs ≡ false → token_at bs ≡ Some (x, k) → Lexes e outside n (drop k bs) below ts → Lexes e outside n bs below (record { token = x; line = n } ∷ ts)
  -- from `/*` to the first `*/` after it
  comment : {e : Ending} {n : ℕ} {bs : List ℕ} {below : List (List ℕ)} {ts : List Spot} → begins_comment bs ≡ true → Lexes e (commented n) n (drop 2 bs) below ts → Lexes e outside n bs below ts
  comment_goes_on : {e : Ending} {k n : ℕ} {b : ℕ} {bs : List ℕ} {below : List (List ℕ)} {ts : List Spot} → ends_comment (b ∷ bs) ≡ false → Lexes e (commented k) n bs below ts → Lexes e (commented k) n (b ∷ bs) below ts
  comment_end : {e : Ending} {k n : ℕ} {bs : List ℕ} {below : List (List ℕ)} {ts : List Spot} → ends_comment bs ≡ true → Lexes e outside n (drop 2 bs) below ts → Lexes e (commented k) n bs below ts
  -- none of these begins here
  no_token : {n : ℕ} {b : ℕ} {bs : List ℕ} {below : List (List ℕ)} → begins_blank (b ∷ bs) ≡ false → begins_comment (b ∷ bs) ≡ false → token_at (b ∷ bs) ≡ None → Lexes broken outside n (b ∷ bs) below (record { token = Bad; line = n } ∷ [])
  -- the text ends in a comment
  never_closed : {k n : ℕ} → Lexes unclosed (commented k) n [] [] (record { token = Bad; line = k } ∷ [])

-- the text of these lines has these tokens
abbrev pub IsTokens : List (List ℕ) → List Spot → Type 0
IsTokens lines ts = Lexes complete outside 0 [] lines ts

-- at some place of the text no token begins: these are the tokens before that place, and then `Bad` on its line
abbrev pub IsBroken : List (List ℕ) → List Spot → Type 0
IsBroken lines ts = Lexes broken outside 0 [] lines ts

-- a comment of the text is never closed: these are the tokens before it, and then `Bad` on its first line
abbrev pub IsUnclosed : List (List ℕ) → List Spot → Type 0
IsUnclosed lines ts = Lexes unclosed outside 0 [] lines ts

-- the spots that the lexer finds: one of the three
pub record IsReading (lines : List (List ℕ)) (spots : List Spot) : Type 0 where
  pub ending : Ending
  pub lexes : Lexes ending outside 0 [] lines spots

-- the text has no tokens
abbrev pub HasNoTokens : List (List ℕ) → Type 0
HasNoTokens lines = (ts : List Spot) → IsTokens lines ts → ⊥
