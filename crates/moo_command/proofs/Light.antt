-- Words take no more bytes than their line.
use Rattle.std.proofs.Common.{◌≡◌, ℕ, ◌+◌, ◌≤◌, Bool, eqb, List, [], ◌∷◌, length, map, arith, refl, inl, inr, ap}
use Rattle.std.specs.Bool.{⊤}
use Rattle.std.proofs.lemmas.Bool.{cases_Bool, cond-true, cond-false}
use Rattle.moo_value.specs.Tree.{string, elements_of}
use Rattle.moo_value.specs.Size.{total_weight, list_weight, weight_limit, IsString}
use Rattle.moo_command.specs.Words.{blank, Word, ends, blank_ends, quotes, escapes, escapes_nothing, plain, BeginsWord, begins, Words, no_more, after_blank, one_more}
use Rattle.moo_command.specs.FirstWord.{IsTyped, unindented}

-- each word takes 1 and its bytes
abbrev spread : List (List ℕ) → ℕ
spread [] = 0
spread (w ∷ ws) = 1 + length w + spread ws

weight_is : (ws : List (List ℕ)) → total_weight (elements_of (map (λ w. string w) ws)) ≡ spread ws
weight_is [] = refl
weight_is (w ∷ ws) = ap (λ n. 1 + length w + n) (weight_is ws)

-- a text that is over, or leads with a blank
abbrev Stops : List ℕ → Type 0
Stops [] = ⊤
Stops (b ∷ bs) = b ≡ blank

word_stops : {g : Bool} {ts w r : List ℕ} → Word g ts w r → Stops r
word_stops ends = tt
word_stops (blank_ends e) = e
word_stops (quotes e h) = word_stops h
word_stops (escapes e h) = word_stops h
word_stops (escapes_nothing e) = tt
word_stops (plain p h) = word_stops h

pub word_fits : {g : Bool} {ts w r : List ℕ} → Word g ts w r → length w + length r ≤ length ts
word_fits ends = omega arith
word_fits (blank_ends e) = omega arith
word_fits (quotes e h) = omega (arith, word_fits h)
word_fits (escapes e h) = omega (arith, word_fits h)
word_fits (escapes_nothing e) = omega arith
word_fits (plain p h) = omega (arith, word_fits h)

begins_no_stop : {ts : List ℕ} → BeginsWord ts → Stops ts → ⊥
begins_no_stop (begins n) e = n e

spread_fits : {ts : List ℕ} {ws : List (List ℕ)} → Words ts ws → (spread ws ≤ length ts + 1) × (Stops ts → spread ws ≤ length ts)
spread_fits no_more = (omega arith, λ s. omega arith)
spread_fits (after_blank e h) = let later = (spread_fits h).0 in (omega (arith, later), λ s. omega (arith, later))
spread_fits (one_more b h m) = let later = (spread_fits m).1 (word_stops h) in (omega (arith, later, word_fits h), λ s. absurd (begins_no_stop b s))

pub words_are_light : (line : List ℕ) (ws : List (List ℕ)) → Words line ws → list_weight (map (λ w. string w) ws) ≤ length line + 2
words_are_light line ws h = omega (arith, weight_is ws, (spread_fits h).0)

unindented_fits : (ts : List ℕ) → length (unindented ts) ≤ length ts
unindented_fits [] = omega arith
unindented_fits (b ∷ bs) =
    elim (cases_Bool (eqb b 32)) [
      | inl blanks ↦ omega (arith, ap length (cond-true (eqb b 32) (unindented bs) (b ∷ bs) blanks), unindented_fits bs)
      | inr none ↦ omega (arith, ap length (cond-false (eqb b 32) (unindented bs) (b ∷ bs) none))
    ]

pub typed_is_light : (line verb rest : List ℕ) (args : List (List ℕ)) → IsTyped line verb rest args → list_weight (map (λ w. string w) args) ≤ length line + 2
typed_is_light line verb rest args t = omega (arith, words_are_light t.following args t.others, word_fits t.first, unindented_fits line)

-- the words of a string are light enough to be joined
pub light_enough : (line : List ℕ) (args : List (List ℕ)) → IsString line → list_weight (map (λ w. string w) args) ≤ length line + 2 → list_weight (map (λ w. string w) args) ≤ weight_limit + 1
light_enough line args s light = omega (arith, s.fits, light)
