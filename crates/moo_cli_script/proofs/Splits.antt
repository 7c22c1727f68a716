-- A text that is split at its first blank.
use Rattle.std.proofs.Common.{◌≡◌, ◌≢◌, ℕ, ◌+◌, ◌-◌, ◌<◌, List, [], ◌∷◌, ◌++◌, codes, length, take, drop, slice_index, All, refl, sym, ap, subst, ◌∙◌, arith, length-append, take-append-drop, Some, None, MatchOption}
use Rattle.std.specs.Prelude.{Option}
use Rattle.std.proofs.lemmas.List.{at_drop_more}
use Rattle.std.proofs.Math.Seq.{drop-append_seam, take-append_seam}
use Rattle.std.proofs.lemmas.List.Elements.{All-head, All-tail, All-nil, All-cons, All-drop}
use Rattle.std.specs.Char.{digit_value}
use Rattle.std.specs.Str.Parse.{AllDigits}
use Rattle.moo_cli_script.specs.ScriptLines.{IsAddressed, IsNumber, most_connection}

-- no digit is a blank
pub digits_no_blank : (ds : List ℕ) → AllDigits 10 ds → All (λ b. b ≢ 32) ds
digits_no_blank [] h = All-nil (λ b. b ≢ 32)
digits_no_blank (d ∷ ds) h = All-cons (λ b. b ≢ 32) d ds (λ is. omega (arith, subst (λ b. digit_value b < 10) is h.0)) (digits_no_blank ds h.1)

abbrev head_of : ℕ → List ℕ → ℕ
head_of z [] = z
head_of z (x ∷ xs) = x

abbrev tail_of : List ℕ → List ℕ
tail_of [] = []
tail_of (x ∷ xs) = xs

-- the first blank of a text is one
pub one_split : (xs ys us vs : List ℕ) → All (λ b. b ≢ 32) xs → All (λ b. b ≢ 32) us → xs ++ (codes " " ++ ys) ≡ us ++ (codes " " ++ vs) → (xs ≡ us) × (ys ≡ vs)
one_split [] ys [] vs h k e = (refl, ap tail_of e)
one_split [] ys (u ∷ us) vs h k e = absurd (All-head (λ b. b ≢ 32) u us k (sym (ap (head_of 0) e)))
one_split (x ∷ xs) ys [] vs h k e = absurd (All-head (λ b. b ≢ 32) x xs h (ap (head_of 0) e))
one_split (x ∷ xs) ys (u ∷ us) vs h k e =
    let more = one_split xs ys us vs (All-tail (λ b. b ≢ 32) x xs h) (All-tail (λ b. b ≢ 32) u us k) (ap tail_of e) in
    (ap (λ b. b ∷ xs) (ap (head_of 0) e) ∙ ap (λ l. u ∷ l) more.0, more.1)

-- a text that has a blank, at its first one
pub at_blank : (xs : List ℕ) (at : ℕ) → at < length xs → slice_index xs at ≡ 32 → xs ≡ take at xs ++ (codes " " ++ drop (at + 1) xs)
at_blank xs at lt here =
    sym (take-append-drop at xs) ∙ ap (λ (r : List ℕ). take at xs ++ r) (at_drop_more (λ (r : List ℕ). r) xs at 0 lt ∙ ap (λ (x : ℕ). x ∷ drop (at + 1) xs) here)

blank_within : (xs ys : List ℕ) → All (λ b. b ≢ 32) (xs ++ (codes " " ++ ys)) → ⊥
blank_within xs ys h =
    All-head (λ b. b ≢ 32) 32 ys (subst (All (λ b. b ≢ 32)) (drop-append_seam xs (codes " " ++ ys)) (All-drop (λ b. b ≢ 32) (length xs) (xs ++ (codes " " ++ ys)) h)) refl

-- what has no blank is no address
pub no_blank : (xs : List ℕ) → All (λ b. b ≢ 32) xs → (c : ℕ) (text : List ℕ) → ¬ IsAddressed xs c text
no_blank xs h c text a = blank_within a.digits text (subst (All (λ b. b ≢ 32)) a.whole h)

-- nor is what has no number before its first blank
pub no_number : (xs : List ℕ) (at : ℕ) → at < length xs → slice_index xs at ≡ 32 → All (λ b. b ≢ 32) (take at xs) → ((n : ℕ) → ¬ IsNumber most_connection (take at xs) n)
    → (c : ℕ) (text : List ℕ) → ¬ IsAddressed xs c text
no_number xs at lt here before none c text a =
    let same = one_split (take at xs) (drop (at + 1) xs) a.digits text before (digits_no_blank a.digits a.number.numeral.1) (sym (at_blank xs at lt here) ∙ a.whole) in
    none c (subst (λ (ds : List ℕ). IsNumber most_connection ds c) (sym same.0) a.number)

-- and what has one is an address
pub address : (xs : List ℕ) (at n : ℕ) → at < length xs → slice_index xs at ≡ 32 → IsNumber most_connection (take at xs) n → IsAddressed xs n (drop (at + 1) xs)
address xs at n lt here number = record { digits = take at xs; whole = at_blank xs at lt here; number = number }

-- ---- the text after a word, or before it

pub cancel_word : (line word rest other : List ℕ) → line ≡ word ++ rest → line ≡ word ++ other → rest ≡ other
cancel_word line word rest other e f = sym (drop-append_seam word rest) ∙ ap (drop (length word)) (sym e ∙ f) ∙ drop-append_seam word other

pub front_of : (line word rest : List ℕ) → line ≡ word ++ rest → take (length word) line ≡ word
front_of line word rest e = ap (take (length word)) e ∙ take-append_seam word rest

pub end_of : (line front word : List ℕ) → line ≡ front ++ word → drop (length line - length word) line ≡ word
end_of line front word e =
    let n : length line - length word ≡ length front = omega (arith, ap length e, length-append front word) in
    ap (λ k. drop k line) n ∙ ap (drop (length front)) e ∙ drop-append_seam front word

-- a property of the rest after a word is one of every text after it
pub told_after : {A : Type 0} (P : List ℕ → A → Type 0) (line word rest : List ℕ) (r : Option A) → line ≡ word ++ rest → MatchOption r ((x : A) → ¬ P rest x) (P rest)
    → MatchOption r ((other : List ℕ) (x : A) → line ≡ word ++ other → ¬ P other x) (λ x. (other : List ℕ) × (line ≡ word ++ other) × P other x)
told_after P line word rest None e h = λ other x f p. h x (subst (λ (l : List ℕ). P l x) (cancel_word line word other rest f e) p)
told_after P line word rest (Some x) e h = (rest, e, h)

pub cancel_end : (xs ys end : List ℕ) → xs ++ end ≡ ys ++ end → xs ≡ ys
cancel_end xs ys end e =
    let n : length xs ≡ length ys = omega (arith, ap length e, length-append xs end, length-append ys end) in
    sym (take-append_seam xs end) ∙ ap (take (length xs)) e ∙ ap (λ k. take k (ys ++ end)) n ∙ take-append_seam ys end
