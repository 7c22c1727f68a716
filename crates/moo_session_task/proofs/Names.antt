-- Names that the server itself uses are strings.
use Rattle.std.proofs.Common.{◌≡◌, ℕ, Bool, true, ◌&&◌, List, [], ◌∷◌, length, inr, arith}
use Rattle.std.specs.Prelude.{nat_le, nat_lt}
use Rattle.std.proofs.lemmas.List.Elements.{All-nil, All-cons}
use Rattle.std.proofs.lemmas.Bool.{and_parts}
use Rattle.moo_value.specs.Tree.{IsTextByte, IsText}
use Rattle.moo_value.specs.Size.{IsString}

-- a printable byte
abbrev pub is_printable : ℕ → Bool
is_printable b = nat_le 32 b && nat_le b 126

abbrev pub all_printable : List ℕ → Bool
all_printable [] = true
all_printable (b ∷ bs) = is_printable b && all_printable bs

text_byte : (b : ℕ) → is_printable b ≡ true → IsTextByte b
text_byte b e = inr (grind (arith, e), grind (arith, e))

text_of : (bs : List ℕ) → all_printable bs ≡ true → IsText bs
text_of [] e = All-nil IsTextByte
text_of (b ∷ bs) e =
    let both = and_parts (is_printable b) (all_printable bs) e in
    All-cons IsTextByte b bs (text_byte b both.0) (text_of bs both.1)

-- a short text of printable bytes is a string
pub string_of : (bs : List ℕ) → all_printable bs ≡ true → nat_lt (length bs) 1000 ≡ true → IsString bs
string_of bs e f = record { text = text_of bs e; fits = grind (arith, f) }
