-- At most one name has a code.
use Rattle.std.proofs.Common.{◌≡◌, ℕ, ◌+◌, ◌*◌, ◌^◌, ◌<◌, List, [], ◌∷◌, ◌++◌, Option, Some, None, refl, sym, ap, ◌∙◌, arith}
use Rattle.std.specs.Prelude.{nat_le, if◌then◌else◌}
use Rattle.std.specs.Option.{unwrap_or, option_and_then}
use Rattle.std.proofs.lemmas.List.{map-append, append_assoc}
use Rattle.std.specs.Char.{to_ascii_lowercase}
use Rattle.moo_value.specs.Compare.{folded}
use Rattle.moo_syntax_ast.specs.NameNumber.{digit_of, with_digit, code_of, hash_of, name_number}

-- the byte of a digit
abbrev byte_of : ℕ → ℕ
byte_of digit = if nat_le digit 26 then 96 + digit else if nat_le digit 36 then 21 + digit else 95

record IsDigit (digit byte : ℕ) : Type 0 where
  low : digit < 38
  from : byte_of digit ≡ byte

digit_is : (byte : ℕ) → 0 < digit_of byte → IsDigit (digit_of byte) byte
digit_is byte some = grind arith

-- a name of one more byte that has a code
record HasMore (byte : ℕ) (rest : List ℕ) (n : ℕ) : Type 0 where
  above : ℕ
  coded : code_of rest ≡ Some above
  some : 0 < digit_of byte
  is : n ≡ digit_of byte + 38 * above

with_digit_is : (digit number n : ℕ) → with_digit digit number ≡ Some n → (0 < digit) × (n ≡ digit + 38 * number)
with_digit_is digit number n e = grind arith

coded_more : (byte : ℕ) (rest : List ℕ) (n : ℕ) (o : Option ℕ) → code_of rest ≡ o → code_of (byte ∷ rest) ≡ Some n → HasMore byte rest n
coded_more byte rest n None is e = grind arith
coded_more byte rest n (Some m) is e =
    let step : with_digit (digit_of byte) m ≡ Some n = sym (ap (option_and_then (with_digit (digit_of byte))) is) ∙ e in
    let parts = with_digit_is (digit_of byte) m n step in
    record { above = m; coded = is; some = parts.0; is = parts.1 }

digits : (a b m n : ℕ) → 0 < a → a < 38 → 0 < b → b < 38 → a + 38 * m ≡ b + 38 * n → a ≡ b
digits a b m n p q r s h = omega (arith, p, q, r, s, h)

further : (a b m n : ℕ) → 0 < a → a < 38 → 0 < b → b < 38 → a + 38 * m ≡ b + 38 * n → m ≡ n
further a b m n p q r s h = omega (arith, p, q, r, s, h)

some_same : (m n : ℕ) → ◌≡◌ {A = Option ℕ} (Some m) (Some n) → m ≡ n
some_same m n e = ap (λ o. unwrap_or o 0) e

-- two names with one code are one
pub same_code : (a b : List ℕ) (m n : ℕ) → m ≡ n → code_of a ≡ Some m → code_of b ≡ Some n → a ≡ b
same_code [] [] m n e x y = refl
same_code [] (b ∷ bs) m n e x y =
    let more = coded_more b bs n (code_of bs) refl y in
    absurd (omega (arith, e, some_same 0 m x, more.some, more.is))
same_code (a ∷ az) [] m n e x y =
    let more = coded_more a az m (code_of az) refl x in
    absurd (omega (arith, e, some_same 0 n y, more.some, more.is))
same_code (a ∷ az) (b ∷ bs) m n e x y =
    let p = coded_more a az m (code_of az) refl x in
    let q = coded_more b bs n (code_of bs) refl y in
    let c = digit_is a p.some in
    let d = digit_is b q.some in
    let h : digit_of a + 38 * p.above ≡ digit_of b + 38 * q.above = sym p.is ∙ e ∙ q.is in
    let same = digits (digit_of a) (digit_of b) p.above q.above p.some c.low q.some d.low h in
    ap (λ z. z ∷ az) (sym c.from ∙ ap byte_of same ∙ d.from)
    ∙ ap (λ zs. b ∷ zs) (same_code az bs p.above q.above (further (digit_of a) (digit_of b) p.above q.above p.some c.low q.some d.low h) p.coded q.coded)

-- a number below the hashes is the code
low_is_code : (a : List ℕ) (n : ℕ) (o : Option ℕ) → code_of a ≡ o → name_number a ≡ n → n < 2 ^ 63 → code_of a ≡ Some n
low_is_code a n None is e low =
    let high : 2 ^ 63 + hash_of a ≡ n = sym (ap (λ o. unwrap_or o (2 ^ 63 + hash_of a)) is) ∙ e in
    absurd (omega (arith, high, low))
low_is_code a n (Some m) is e low = is ∙ ap (λ k. Some k) (sym (ap (λ o. unwrap_or o (2 ^ 63 + hash_of a)) is) ∙ e)

-- two names with one number that is no hash are one
pub same_number : (a b : List ℕ) (n : ℕ) → n < 2 ^ 63 → name_number a ≡ n → name_number b ≡ n → a ≡ b
same_number a b n low x y =
    same_code a b n n refl (low_is_code a n (code_of a) refl x low) (low_is_code b n (code_of b) refl y low)

uncoded : (bs cs : List ℕ) → code_of cs ≡ None → code_of (bs ++ cs) ≡ None
uncoded [] cs e = e
uncoded (b ∷ bs) cs e = ap (option_and_then (with_digit (digit_of b))) (uncoded bs cs e)

-- a byte before others, with which there is no code
pub no_code : (name rest after before : List ℕ) (byte code : ℕ) → name ≡ rest ++ after → rest ≡ before ++ byte ∷ [] → code_of (folded after) ≡ Some code
    → with_digit (digit_of (to_ascii_lowercase byte)) code ≡ None → code_of (folded name) ≡ None
no_code name rest after before byte code split last coded none =
    let whole : name ≡ before ++ byte ∷ after = split ∙ ap (λ xs. xs ++ after) last ∙ append_assoc before (byte ∷ []) after in
    let step : code_of (folded (byte ∷ after)) ≡ None = ap (option_and_then (with_digit (digit_of (to_ascii_lowercase byte)))) coded ∙ none in
    ap (λ n. code_of (folded n)) whole ∙ ap code_of (map-append to_ascii_lowercase before (byte ∷ after)) ∙ uncoded (folded before) (folded (byte ∷ after)) step
