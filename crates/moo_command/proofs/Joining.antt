-- Words with one blank between.
use Rattle.std.proofs.Common.{◌≡◌, ℕ, zero, suc, ◌≤◌, ◌<◌, ◌+◌, ◌-◌, List, [], ◌∷◌, ◌++◌, length, map, take, drop, get_or, slice_range, refl, sym, ap, ◌∙◌, arith, inr}
use Rattle.std.proofs.lemmas.List.{append-nil, append_assoc, drop_more, drop_all, length-append}
use Rattle.std.proofs.lemmas.List.Elements.{All-append, All-push}
use Rattle.moo_value.specs.Tree.{string, elements_of, IsTextByte, IsText}
use Rattle.moo_value.specs.Size.{total_weight, list_weight, weight_limit, IsString}
use Rattle.moo_command.specs.Prepositions.{joined}

-- words, each after a blank
abbrev pub after_blanks : List (List ℕ) → List ℕ
after_blanks [] = []
after_blanks (w ∷ ws) = 32 ∷ (w ++ after_blanks ws)

pub joined_first : (w : List ℕ) (ws : List (List ℕ)) → joined (w ∷ ws) ≡ w ++ after_blanks ws
joined_first w [] = sym (append-nil w)
joined_first w (v ∷ ws) = ap (λ t. w ++ (32 ∷ t)) (joined_first v ws)

-- how far words are joined
pub record IsJoining (words : List (List ℕ)) (left : List (List ℕ)) (text : List ℕ) : Type 0 where
  pub goes_on : joined words ≡ text ++ after_blanks left
  pub allowed : IsText text

pub joining_begins : (words : List (List ℕ)) (first : List ℕ) (others : List (List ℕ)) → words ≡ first ∷ others → IsString first → IsJoining words others first
joining_begins words first others is fine = record { goes_on = ap joined is ∙ joined_first first others; allowed = fine.text }

pub word_joined : (words others : List (List ℕ)) (i : ℕ) (text word d : List ℕ) → i < length others → IsJoining words (drop i others) text → word ≡ get_or others i d → IsString word
    → IsJoining words (drop (i + 1) others) ((text ++ 32 ∷ []) ++ word)
word_joined words others i text word d inside joining is fine = record {
  goes_on = joining.goes_on
      ∙ ap (λ ws. text ++ after_blanks ws) (drop_more others i d inside ∙ ap (λ v. v ∷ drop (i + 1) others) (sym is))
      ∙ sym (append_assoc text (32 ∷ []) (word ++ after_blanks (drop (i + 1) others)))
      ∙ sym (append_assoc (text ++ 32 ∷ []) word (after_blanks (drop (i + 1) others)));
  allowed = All-append IsTextByte (text ++ 32 ∷ []) word (All-push IsTextByte text 32 joining.allowed (inr (omega arith, omega arith))) fine.text;
}

pub all_joined : (words others : List (List ℕ)) (i : ℕ) (text : List ℕ) → length others ≤ i → IsJoining words (drop i others) text → joined words ≡ text
all_joined words others i text over joining = joining.goes_on ∙ ap (λ ws. text ++ after_blanks ws) (drop_all i others over) ∙ append-nil text

pub joined_is_string : (words others : List (List ℕ)) (i : ℕ) (text : List ℕ) → length others ≤ i → IsJoining words (drop i others) text → length (joined words) < weight_limit
    → IsString text
joined_is_string words others i text over joining fits =
    record { text = joining.allowed; fits = omega (arith, ap length (all_joined words others i text over joining), fits) }

-- each word takes 1 and its bytes
abbrev spread : List (List ℕ) → ℕ
spread [] = 0
spread (w ∷ ws) = 1 + length w + spread ws

weight_is : (ws : List (List ℕ)) → total_weight (elements_of (map (λ w. string w) ws)) ≡ spread ws
weight_is [] = refl
weight_is (w ∷ ws) = ap (λ n. 1 + length w + n) (weight_is ws)

after_fits : (ws : List (List ℕ)) → length (after_blanks ws) ≡ spread ws
after_fits [] = refl
after_fits (w ∷ ws) = omega (arith, length-append w (after_blanks ws), after_fits ws)

joined_fits : (ws : List (List ℕ)) (n : ℕ) → spread ws ≤ n + 1 → length (joined ws) ≤ n
joined_fits [] n h = omega arith
joined_fits (w ∷ ws) n h = omega (arith, h, ap length (joined_first w ws), length-append w (after_blanks ws), after_fits ws)

spread_take : (i : ℕ) (ws : List (List ℕ)) → spread (take i ws) ≤ spread ws
spread_take zero ws = omega arith
spread_take (suc i) [] = omega arith
spread_take (suc i) (w ∷ ws) = omega (arith, spread_take i ws)

spread_drop : (i : ℕ) (ws : List (List ℕ)) → spread (drop i ws) ≤ spread ws
spread_drop zero ws = omega arith
spread_drop (suc i) [] = omega arith
spread_drop (suc i) (w ∷ ws) = omega (arith, spread_drop i ws)

-- some of light words, joined, are within the limit
pub taken_fits : (i : ℕ) (ws : List (List ℕ)) → list_weight (map (λ w. string w) ws) ≤ weight_limit + 1 → length (joined (take i ws)) < weight_limit
taken_fits i ws light = omega (arith, joined_fits (take i ws) (weight_limit - 1) (omega (arith, light, weight_is ws, spread_take i ws)))

pub dropped_fits : (i : ℕ) (ws : List (List ℕ)) → list_weight (map (λ w. string w) ws) ≤ weight_limit + 1 → length (joined (drop i ws)) < weight_limit
dropped_fits i ws light = omega (arith, joined_fits (drop i ws) (weight_limit - 1) (omega (arith, light, weight_is ws, spread_drop i ws)))

pub range_fits : (i j : ℕ) (ws : List (List ℕ)) → list_weight (map (λ w. string w) ws) ≤ weight_limit + 1 → length (joined (slice_range ws i j)) < weight_limit
range_fits i j ws light =
    omega (arith, joined_fits (slice_range ws i j) (weight_limit - 1) (omega (arith, light, weight_is ws, spread_take (j - i) (drop i ws), spread_drop i ws)))
