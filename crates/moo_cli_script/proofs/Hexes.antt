-- Digits of base 16 that are read two by two.
use Rattle.std.proofs.Common.{◌≡◌, ℕ, ◌+◌, ◌*◌, ◌%◌, ◌<◌, ◌≤◌, List, [], ◌∷◌, ◌++◌, length, drop, get_or, refl, sym, ap, subst, ◌∙◌, append_assoc, append-nil, arith, drop_of_length-le}
use Rattle.std.proofs.lemmas.List.{at_drop_more}
use Rattle.std.specs.Char.{digit_value}
use Rattle.moo_cli_script.specs.ScriptLines.{IsHex, no_digits, two_digits}

-- digits were read as bytes, and others are left
pub record IsReadHex (digits left read : List ℕ) : Type 0 where
  pub back : (bytes : List ℕ) → IsHex left bytes → IsHex digits (read ++ bytes)
  pub forth : (bytes : List ℕ) → IsHex digits bytes → (more : List ℕ) × IsHex left more

pub nothing_read : (digits : List ℕ) → IsReadHex digits digits []
nothing_read digits = record { back = λ bytes h. h; forth = λ bytes h. (bytes, h) }

pair_of : {a b : ℕ} {digits bytes : List ℕ} → IsHex (a ∷ b ∷ digits) bytes → (digit_value a < 16) × (digit_value b < 16)
pair_of (two_digits a b high low rest) = (high, low)

rest_of : {a b : ℕ} {digits bytes : List ℕ} → IsHex (a ∷ b ∷ digits) bytes → (more : List ℕ) × IsHex digits more
rest_of (two_digits a b high low rest) = (_, rest)

pub pair_read : (digits read new : List ℕ) (a b : ℕ) (rest : List ℕ) (byte : ℕ) → digit_value a < 16 → digit_value b < 16 → byte ≡ digit_value a * 16 + digit_value b → new ≡ read ++ (byte ∷ [])
    → IsReadHex digits (a ∷ b ∷ rest) read → IsReadHex digits rest new
pair_read digits read new a b rest byte high low is grown so =
    let made : (bytes : List ℕ) → IsHex rest bytes → IsHex (a ∷ b ∷ rest) (byte ∷ bytes) = λ bytes h. subst (λ v. IsHex (a ∷ b ∷ rest) (v ∷ bytes)) (sym is) (two_digits a b high low h) in
    record {
      back = λ bytes h. subst (λ r. IsHex digits (r ++ bytes)) (sym grown) (subst (IsHex digits) (sym (append_assoc read (byte ∷ []) bytes)) (so.back (byte ∷ bytes) (made bytes h)));
      forth = λ bytes h. rest_of (so.forth bytes h).1;
    }

pub no_pair : (digits read : List ℕ) (a b : ℕ) (rest : List ℕ) → (¬ ((digit_value a < 16) × (digit_value b < 16))) → IsReadHex digits (a ∷ b ∷ rest) read → (bytes : List ℕ) → ¬ IsHex digits bytes
no_pair digits read a b rest none so bytes h = none (pair_of (so.forth bytes h).1)

-- no digit is left
pub all_read : (digits read : List ℕ) → IsReadHex digits [] read → IsHex digits read
all_read digits read so = subst (IsHex digits) (append-nil read) (so.back [] no_digits)

even : {digits bytes : List ℕ} → IsHex digits bytes → length digits ≡ 2 * length bytes
even no_digits = refl
even (two_digits a b high low rest) = omega (arith, even rest)

pub not_odd : (digits : List ℕ) → length digits % 2 ≡ 1 → (bytes : List ℕ) → ¬ IsHex digits bytes
not_odd digits odd bytes h = omega (arith, odd, even h)

two_next : (digits : List ℕ) (i : ℕ) → 2 * i + 1 < length digits → drop (2 * i) digits ≡ get_or digits (2 * i) 0 ∷ get_or digits (2 * i + 1) 0 ∷ drop (2 * (i + 1)) digits
two_next digits i lt =
    at_drop_more (λ (r : List ℕ). r) digits (2 * i) 0 (omega (arith, lt))
    ∙ ap (λ (r : List ℕ). get_or digits (2 * i) 0 ∷ r) (at_drop_more (λ (r : List ℕ). r) digits (2 * i + 1) 0 lt)
    ∙ ap (λ k. get_or digits (2 * i) 0 ∷ get_or digits (2 * i + 1) 0 ∷ drop k digits) (omega arith)

pub pair_read_at : (digits read new : List ℕ) (i byte : ℕ) → 2 * i + 1 < length digits → digit_value (get_or digits (2 * i) 0) < 16 → digit_value (get_or digits (2 * i + 1) 0) < 16
    → byte ≡ digit_value (get_or digits (2 * i) 0) * 16 + digit_value (get_or digits (2 * i + 1) 0) → new ≡ read ++ (byte ∷ [])
    → IsReadHex digits (drop (2 * i) digits) read → IsReadHex digits (drop (2 * (i + 1)) digits) new
pair_read_at digits read new i byte lt high low is grown so =
    pair_read digits read new (get_or digits (2 * i) 0) (get_or digits (2 * i + 1) 0) (drop (2 * (i + 1)) digits) byte high low is grown
    (subst (λ (l : List ℕ). IsReadHex digits l read) (two_next digits i lt) so)

pub no_pair_at : (digits read : List ℕ) (i : ℕ) → 2 * i + 1 < length digits → (¬ ((digit_value (get_or digits (2 * i) 0) < 16) × (digit_value (get_or digits (2 * i + 1) 0) < 16)))
    → IsReadHex digits (drop (2 * i) digits) read → (bytes : List ℕ) → ¬ IsHex digits bytes
no_pair_at digits read i lt none so =
    no_pair digits read (get_or digits (2 * i) 0) (get_or digits (2 * i + 1) 0) (drop (2 * (i + 1)) digits) none (subst (λ (l : List ℕ). IsReadHex digits l read) (two_next digits i lt) so)

pub all_read_at : (digits read : List ℕ) (i : ℕ) → length digits ≤ 2 * i → IsReadHex digits (drop (2 * i) digits) read → IsHex digits read
all_read_at digits read i end so = all_read digits read (subst (λ (l : List ℕ). IsReadHex digits l read) (drop_of_length-le digits end) so)
