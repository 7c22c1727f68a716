-- No line that is read as a number, a string or a line of a value holds the end of a line.
use Rattle.std.proofs.Common.{◌≡◌, ◌≢◌, ℕ, ℤ, pos, negsuc, suc, ◌<◌, ◌^◌, [], ◌∷◌, ◌++◌, length, Option, None, Result, Ok, sym, subst, arith}
use Rattle.std.specs.Prelude.{FitsSigned}
use Rattle.std.specs.Int.{w32}
use Rattle.std.specs.Fmt.{signed_decimal, decimal}
use Rattle.std.specs.List.{AllByRecursion}
use Rattle.std.specs.Str.Parse.{AllDigits}
use Rattle.std.proofs.lemmas.Fmt.{decimal_is_IsNumeral}
use Rattle.std.proofs.lemmas.Str.Parse.{digit_from_value}
use Rattle.std.proofs.lemmas.List.Elements.{All-head, All-tail}
use Rattle.moo_value.specs.declared.error_code.ErrorCode.{ErrorCode}
use Rattle.moo_value.specs.Tree.{Tree, integer, object, error, string, IsTextByte, IsText}
use Rattle.moo_value.specs.TreeCode.{error_numbered}
use Rattle.moo_dbtext_object.specs.declared.fault.LineFault.{LineFault}
use Rattle.moo_dbtext_object.specs.declared.value_reader.Expected.{Expected}
use Rattle.moo_dbtext_object.specs.declared.value_reader.Expected.TheVariants as expected
use Rattle.moo_dbtext_object.specs.Lines.{Line, ◌>>=◌, Sizes, within, number_of, count_of, bounded_count_of, small_of, text_of}
use Rattle.moo_dbtext_object.specs.Reading.{Partial, after_value, after_count, expected_after, may_stand, type_of, error_of, take_room, value_step}
use Rattle.moo_dbtext_object.proofs.LineLaws.{number_found}
use Rattle.moo_dbtext_object.proofs.Steps.{bind_ok}
use Rattle.moo_dbtext_object.proofs.TextLaws.{text_found, count_found, bounded_count_found, small_found}

abbrev pub IsClean : Line → Type 0
IsClean line = AllByRecursion (λ b. b ≢ 10) line

pub clean-append : (a b : Line) → IsClean a → IsClean b → IsClean (a ++ b)
clean-append [] b h k = k
clean-append (x ∷ a) b h k = (h.0, clean-append a b h.1 k)

pub digits_clean : (ds : Line) → AllDigits 10 ds → IsClean ds
digits_clean [] h = tt
digits_clean (d ∷ ds) h = (let range = digit_from_value d h.0 in λ e. omega arith, digits_clean ds h.1)

pub decimal_clean : (n : ℕ) → n < 2 ^ 64 → IsClean (decimal n)
decimal_clean n lt = digits_clean (decimal n) (decimal_is_IsNumeral n lt).0.1

pub signed_clean : (z : ℤ) → FitsSigned w32 z → IsClean (signed_decimal z)
signed_clean (pos n) h = decimal_clean n (omega (arith, h.sfits))
signed_clean (negsuc n) h = (λ e. omega arith, decimal_clean (suc n) (omega (arith, h.sfits)))

text_byte_clean : (b : ℕ) → IsTextByte b → b ≢ 10
text_byte_clean b h e = grind arith

pub text_clean : (s : Line) → IsText s → IsClean s
text_clean [] h = tt
text_clean (b ∷ s) h = (text_byte_clean b (All-head IsTextByte b s h), text_clean s (All-tail IsTextByte b s h))

pub along : (a b : Line) → a ≡ b → IsClean b → IsClean a
along a b e h = subst IsClean (sym e) h

-- a line that was read by its first step
pub first_clean : {A B : Type 0} (line : Line) (found : Result A LineFault) (f : A → Result B LineFault) (y : B) → (found >>= f) ≡ Ok y → ((x : A) → found ≡ Ok x → IsClean line) → IsClean line
first_clean line found f y e clean = let b = bind_ok found f y e in clean b.0 b.1

pub number_clean : (line : Line) (z : ℤ) → number_of line ≡ Ok z → IsClean line
number_clean line z e = let f = number_found line z e in along line _ f.1 (signed_clean z f.0)

pub count_clean : (line : Line) (n : ℕ) → count_of line ≡ Ok n → IsClean line
count_clean line n e = let f = count_found line n e in along line _ f.1 (decimal_clean n (omega arith))

pub bounded_count_clean : (s : Sizes) (line : Line) (n : ℕ) → bounded_count_of s line ≡ Ok n → IsClean line
bounded_count_clean s line n e = let f = bounded_count_found s line n e in along line _ f.1 (decimal_clean n (omega arith))

pub small_clean : (most : ℕ) (line : Line) (n : ℕ) → most < 2 ^ 31 → small_of most line ≡ Ok n → IsClean line
small_clean most line n lt e = let f = small_found most line n e in along line _ f.1 (decimal_clean n (omega arith))

pub string_clean : (s : Sizes) (line t : Line) → text_of s line ≡ Ok t → IsClean line
string_clean s line t e = let f = text_found s line t e in along line _ f.1 (text_clean t f.0)

type_clean : (line : Line) (e : Expected) → type_of line ≡ Ok e → IsClean line
unfolding type_of
type_clean line e h = first_clean line (number_of line) expected_after e h (number_clean line)

error_clean : (line : Line) (e : ErrorCode) → error_of line ≡ Ok e → IsClean line
unfolding error_of
error_clean line e h = first_clean line (small_of 15 line) (λ n. Ok (error_numbered n)) e h (λ n. small_clean 15 line n (omega arith))

abbrev unfinished : Partial → Partial × Option Tree
unfinished p = (p, None)

pub value_clean : (s : Sizes) (e : Expected) (p : Partial) (line : Line) (r : Partial × Option Tree) → value_step s e p line ≡ Ok r → IsClean line
unfolding value_step
value_clean s expected.Type p line r h = first_clean line (type_of line) (λ e. within s (may_stand e p.lists) (unfinished (record p { expected = e }))) r h (type_clean line)
value_clean s expected.Int p line r h = first_clean line (number_of line) (λ z. after_value s (integer z) p.room p.lists) r h (number_clean line)
value_clean s expected.Obj p line r h = first_clean line (number_of line) (λ z. after_value s (object z) p.room p.lists) r h (number_clean line)
value_clean s expected.Error p line r h = first_clean line (error_of line) (λ e. after_value s (error e) p.room p.lists) r h (error_clean line)
value_clean s expected.Str p line r h = first_clean line (text_of s line) (λ t. take_room s (length t) p.room >>= λ room. after_value s (string t) room p.lists) r h (string_clean s line)
value_clean s expected.Count p line r h = first_clean line (count_of line) (λ n. take_room s n p.room >>= λ room. after_count s n room p.lists) r h (count_clean line)
