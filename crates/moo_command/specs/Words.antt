-- The words of a line.
use Rattle.std.specs.Prelude.{◌≡◌, ◌≢◌, ℕ, Bool, false, not, List, [], ◌∷◌}

abbrev pub blank : ℕ
blank = 32

abbrev pub quote : ℕ
quote = 34

abbrev pub backslash : ℕ
backslash = 92

-- a byte that means itself: none with a meaning of its own, and outside a group no blank
pub record IsPlain (grouped : Bool) (b : ℕ) : Type 0 where
  pub no_quote : b ≢ quote
  pub no_backslash : b ≢ backslash
  pub no_blank : grouped ≡ false → b ≢ blank

-- the text `ts` goes on a word by the bytes `w`, inside a group or outside, and `r` comes after the word
pub data Word : Bool → List ℕ → List ℕ → List ℕ → Type 0 where
  -- the line's end ends a word, and an open group with it
  ends : {g : Bool} → Word g [] [] []
  -- outside a group a blank ends it
  blank_ends : {b : ℕ} {r : List ℕ} → b ≡ blank → Word false (b ∷ r) [] (b ∷ r)
  -- a quote opens or closes a group
  quotes : {g : Bool} {b : ℕ} {ts w r : List ℕ} → b ≡ quote → Word (not g) ts w r → Word g (b ∷ ts) w r
  -- a backslash takes the next byte, whatever it is
  escapes : {g : Bool} {b c : ℕ} {ts w r : List ℕ} → b ≡ backslash → Word g ts w r → Word g (b ∷ c ∷ ts) (c ∷ w) r
  -- at the line's end it means nothing
  escapes_nothing : {g : Bool} {b : ℕ} → b ≡ backslash → Word g (b ∷ []) [] []
  -- every other byte means itself
  plain : {g : Bool} {b : ℕ} {ts w r : List ℕ} → IsPlain g b → Word g ts w r → Word g (b ∷ ts) (b ∷ w) r

-- a text that begins a word
pub data BeginsWord : List ℕ → Type 0 where
  begins : {b : ℕ} {ts : List ℕ} → b ≢ blank → BeginsWord (b ∷ ts)

-- a line is blanks and words
pub data Words : List ℕ → List (List ℕ) → Type 0 where
  no_more : Words [] []
  after_blank : {b : ℕ} {ts : List ℕ} {ws : List (List ℕ)} → b ≡ blank → Words ts ws → Words (b ∷ ts) ws
  one_more : {ts w r : List ℕ} {ws : List (List ℕ)} → BeginsWord ts → Word false ts w r → Words r ws → Words ts (w ∷ ws)
