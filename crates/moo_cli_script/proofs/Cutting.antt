-- The lines of a text, from its front.
use Rattle.std.proofs.Common.{take_all, ◌≡◌, ◌≢◌, ℕ, zero, suc, ◌+◌, ◌-◌, ◌<◌, true, false, Bool, List, [], ◌∷◌, ◌++◌, ◌==◌, All, length, take, drop, refl, sym, ap, ◌∙◌, ne_eqb, arith, length-drop, append_assoc}
use Rattle.std.proofs.lemmas.List.Elements.{All-head, All-tail}
use Rattle.std.specs.List.{flat_map}
use Rattle.std.specs.Prelude.{slice_index, if◌then◌else◌}
use Rattle.memchr.specs.Find.{NoneBefore, Nowhere, Passes, is_byte}
use Rattle.moo_cli_script.specs.Lines.{IsCut, in_front, lines_of, without_return}
use Rattle.moo_cli_script.specs.Printed.{sent_line, sent_lines}

goes_on : (x : ℕ) (xs line : List ℕ) (lines : List (List ℕ)) → (x == 10) ≡ false → lines_of xs ≡ line ∷ lines → lines_of (x ∷ xs) ≡ (x ∷ line) ∷ lines
goes_on x xs line lines other is = ap (λ (t : Bool). in_front t x (lines_of xs)) other ∙ ap (in_front false x) is

stops : (x : ℕ) (xs : List ℕ) → (x == 10) ≡ true → lines_of (x ∷ xs) ≡ [] ∷ lines_of xs
stops x xs is = ap (λ (t : Bool). in_front t x (lines_of xs)) is

is_last : (x : ℕ) → (x == 10) ≡ false → lines_of (x ∷ []) ≡ (x ∷ []) ∷ []
is_last x other = ap (λ (t : Bool). in_front t x []) other

not_true : (b : Bool) → ¬ (b ≡ true) → b ≡ false
not_true true isnt = absurd (isnt refl)
not_true false isnt = refl

-- a line that LF ends
pub ended : (line rest : List ℕ) → All (λ b. b ≢ 10) line → lines_of (line ++ 10 ∷ rest) ≡ line ∷ lines_of rest
ended [] rest none = stops 10 rest refl
ended (x ∷ line) rest none =
    goes_on x (line ++ 10 ∷ rest) line (lines_of rest) (ne_eqb x 10 (All-head (λ b. b ≢ 10) x line none)) (ended line rest (All-tail (λ b. b ≢ 10) x line none))

-- a last line without one
pub unended : (line : List ℕ) → 0 < length line → All (λ b. b ≢ 10) line → lines_of line ≡ line ∷ []
unended [] some none = absurd (omega (arith, some))
unended (x ∷ []) some none = is_last x (ne_eqb x 10 (All-head (λ b. b ≢ 10) x [] none))
unended (x ∷ y ∷ line) some none =
    goes_on x (y ∷ line) (y ∷ line) [] (ne_eqb x 10 (All-head (λ b. b ≢ 10) x (y ∷ line) none)) (unended (y ∷ line) (omega arith) (All-tail (λ b. b ≢ 10) x (y ∷ line) none))

found : (text : List ℕ) (k : ℕ) → k < length text → ((j : ℕ) → j < k → ¬ (is_byte 10 (slice_index text j) ≡ true)) → is_byte 10 (slice_index text k) ≡ true
    → lines_of text ≡ take k text ∷ lines_of (drop (suc k) text)
found [] k lt before is = absurd (omega (arith, lt))
found (x ∷ xs) zero lt before is = stops x xs is
found (x ∷ xs) (suc k) lt before is =
    goes_on x xs (take k xs) (lines_of (drop (suc k) xs)) (not_true (x == 10) (before zero (omega arith)))
    (found xs k (omega (arith, lt)) (λ j l. before (suc j) (omega (arith, l))) is)

nowhere : (text : List ℕ) → 0 < length text → ((j : ℕ) → j < length text → ¬ (is_byte 10 (slice_index text j) ≡ true)) → lines_of text ≡ text ∷ []
nowhere [] some none = absurd (omega (arith, some))
nowhere (x ∷ []) some none = is_last x (not_true (x == 10) (none zero (omega arith)))
nowhere (x ∷ y ∷ line) some none =
    goes_on x (y ∷ line) (y ∷ line) [] (not_true (x == 10) (none zero (omega arith))) (nowhere (y ∷ line) (omega arith) (λ j l. none (suc j) (omega (arith, l))))

-- if an LF was found
pub cut_found : (text line rest : List ℕ) (k : ℕ) → line ≡ take k text → rest ≡ drop (k + 1) text
    → NoneBefore (Passes (is_byte 10) text) 0 (length text) k → Passes (is_byte 10) text k → IsCut text line rest
cut_found text line rest k front back before is =
    let next : suc k ≡ k + 1 = omega arith in
    let same : drop (suc k) text ≡ rest = ap (λ n. drop n text) next ∙ sym back in (
      found text k before.high (λ j l. before.before j (omega arith) l) is
          ∙ ap (λ l. l ∷ lines_of (drop (suc k) text)) (sym front) ∙ ap (λ r. line ∷ lines_of r) same,
      omega (arith, before.high, ap length back, length-drop (k + 1) text),
    )

-- the whole text from an index on
pub all_from : (text : List ℕ) (k : ℕ) → take (length text - k) (drop k text) ≡ drop k text
all_from text k = take_all (length text - k) (drop k text) (omega (arith, length-drop k text))

-- if none was
pub cut_none : (text rest : List ℕ) → 0 < length text → length rest ≡ 0 → Nowhere (Passes (is_byte 10) text) 0 (length text) → IsCut text text rest
cut_none text [] some none before = (nowhere text some (λ j l. before j (omega arith) l), some)
cut_none text (b ∷ rest) some none before = absurd (omega (arith, none))

-- ---- a CR at a line's end

-- no line, or one of another byte, has none
pub nothing_returned : (line : List ℕ) → length line ≡ 0 → line ≡ without_return line
nothing_returned [] none = refl
nothing_returned (b ∷ line) none = absurd (omega (arith, none))

pub returned : (front : List ℕ) → without_return (front ++ 13 ∷ []) ≡ front
returned [] = refl
returned (x ∷ []) = refl
returned (x ∷ y ∷ front) = ap (λ l. x ∷ l) (returned (y ∷ front))

pub not_returned : (front : List ℕ) (b : ℕ) → b ≢ 13 → without_return (front ++ b ∷ []) ≡ front ++ b ∷ []
not_returned [] b other = ap (λ (t : Bool). if t then [] else b ∷ []) (ne_eqb b 13 other)
not_returned (x ∷ []) b other = ap (λ l. x ∷ l) (not_returned [] b other)
not_returned (x ∷ y ∷ front) b other = ap (λ l. x ∷ l) (not_returned (y ∷ front) b other)

-- ---- lines that were sent

-- one more is printed
pub sent_more : (c : ℕ) (text line rest : List ℕ) → lines_of text ≡ line ∷ lines_of rest → sent_lines c text ≡ sent_line c line ++ sent_lines c rest
sent_more c text line rest is = ap (flat_map (sent_line c)) is

pub sent_joined : (c : ℕ) (all done text line rest : List ℕ) → sent_lines c all ≡ done ++ sent_lines c text → lines_of text ≡ line ∷ lines_of rest
    → sent_lines c all ≡ (done ++ sent_line c line) ++ sent_lines c rest
sent_joined c all done text line rest so is =
    so ∙ ap (λ l. done ++ l) (sent_more c text line rest is) ∙ sym (append_assoc done (sent_line c line) (sent_lines c rest))
