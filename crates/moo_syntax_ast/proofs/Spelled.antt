-- Different spellings have different numbers.
use Rattle.std.proofs.Common.{◌≡◌, ℕ, suc, ◌+◌, ◌*◌, ◌<◌, ⊎_elim, List, [], ◌∷◌, ◌++◌, refl, sym, ap, ◌∙◌, subst, arith}
use Rattle.std.proofs.lemmas.List.Elements.{All-nil, All-cons, All-head}
use Rattle.moo_value.specs.Tree.{IsTextByte, IsText}
use Rattle.moo_syntax_ast.specs.Spelling.{spelling, AreNumbersOf}

small : (b : ℕ) → IsTextByte b → b < 256
small b h = ⊎_elim (λ e. omega (arith, e)) (λ p. omega (arith, p.1)) h

first_byte : (b : ℕ) (bs : List ℕ) → IsText (b ∷ bs) → b < 256
first_byte b bs h = small b (h 0 0 (omega arith))

rest_text : (b : ℕ) (bs : List ℕ) → IsText (b ∷ bs) → IsText bs
rest_text b bs h = λ k d l. h (suc k) d (omega (arith, l))

digit : (x y m n : ℕ) → x < 256 → y < 256 → 1 + x + 257 * m ≡ 1 + y + 257 * n → x ≡ y
digit x y m n p q h = omega (arith, p, q, h)

above : (x y m n : ℕ) → x < 256 → y < 256 → 1 + x + 257 * m ≡ 1 + y + 257 * n → m ≡ n
above x y m n p q h = omega (arith, p, q, h)

pub same_spelling : (a b : List ℕ) → IsText a → IsText b → spelling a ≡ spelling b → a ≡ b
same_spelling [] [] p q h = refl
same_spelling [] (y ∷ ys) p q h = absurd (omega (arith, h))
same_spelling (x ∷ xs) [] p q h = absurd (omega (arith, h))
same_spelling (x ∷ xs) (y ∷ ys) p q h =
    let i : x < 256 = first_byte x xs p in
    let j : y < 256 = first_byte y ys q in
    ap (λ b. b ∷ xs) (digit x y (spelling xs) (spelling ys) i j h)
    ∙ ap (λ bs. y ∷ bs) (same_spelling xs ys (rest_text x xs p) (rest_text y ys q) (above x y (spelling xs) (spelling ys) i j h))

front_text : (a b : List ℕ) → IsText (a ++ b) → IsText a
front_text [] b h = All-nil IsTextByte
front_text (x ∷ xs) b h = All-cons IsTextByte x xs (All-head IsTextByte x (xs ++ b) h) (front_text xs b (rest_text x (xs ++ b) h))

back_text : (a b : List ℕ) → IsText (a ++ b) → IsText b
back_text [] b h = h
back_text (x ∷ xs) b h = back_text xs b (rest_text x (xs ++ b) h)

-- two spellings whose parts have the same numbers are one
pub same_numbers : {m n m' n' : ℕ} (a b : List ℕ) → m ≡ m' → n ≡ n' → IsText a → IsText b → AreNumbersOf m n a → AreNumbersOf m' n' b → a ≡ b
same_numbers a b e f p q x y =
    let t = subst IsText x.2 p in
    let u = subst IsText y.2 q in
    x.2
    ∙ ap (λ front. front ++ x.1) (same_spelling x.0 y.0 (front_text x.0 x.1 t) (front_text y.0 y.1 u) (sym x.3 ∙ e ∙ y.3))
    ∙ ap (λ back. y.0 ++ back) (same_spelling x.1 y.1 (back_text x.0 x.1 t) (back_text y.0 y.1 u) (sym x.4 ∙ f ∙ y.4))
    ∙ sym y.2

-- the number of bytes, if those after them have a number already
abbrev pub spelling_before : ℕ → List ℕ → ℕ
spelling_before number [] = number
spelling_before number (byte ∷ rest) = 1 + byte + 257 * spelling_before number rest

pub before_nothing : (bytes : List ℕ) → spelling_before 0 bytes ≡ spelling bytes
before_nothing [] = refl
before_nothing (b ∷ bs) = ap (λ n. 1 + b + 257 * n) (before_nothing bs)

pub before_more : (number : ℕ) (bytes : List ℕ) (last : ℕ) → spelling_before number (bytes ++ last ∷ []) ≡ spelling_before (number * 257 + (1 + last)) bytes
before_more number [] last = omega arith
before_more number (b ∷ bs) last = ap (λ n. 1 + b + 257 * n) (before_more number bs last)
