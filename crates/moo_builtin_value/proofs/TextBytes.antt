-- The texts that are made hold bytes of texts alone.
use Rattle.std.proofs.Common.{◌≡◌, ℕ, ℤ, pos, negsuc, suc, ◌+◌, ◌-◌, ◌<◌, ◌^◌, List, [], ◌∷◌, ◌++◌, Bool, true, false, refl, subst, sym, arith, inr, codes, drop}
use Rattle.std.specs.Prelude.{FitsSigned, nat_le, ◌&&◌, ◌||◌, ◌==◌, if◌then◌else◌}
use Rattle.std.specs.Int.{w32}
use Rattle.std.specs.Fmt.{signed_decimal, decimal}
use Rattle.std.specs.List.{flat_map}
use Rattle.std.specs.Str.Parse.{AllDigits}
use Rattle.std.proofs.lemmas.Bool.Decides.{nat_tests}
use Rattle.std.proofs.lemmas.Fmt.{decimal_is_IsNumeral}
use Rattle.std.proofs.lemmas.Str.Parse.{digit_from_value}
use Rattle.std.proofs.lemmas.List.Elements.{All-nil, All-cons, All-head, All-tail, All-append, All-take, All-drop}
use Rattle.bstr.specs.Text.{replaced_at, part}
use Rattle.moo_value.specs.declared.error_code.ErrorCode.{ErrorCode}
use Rattle.moo_value.specs.declared.error_code.ErrorCode.TheVariants.{NoError, TypeMismatch, Division, Permission, PropertyNotFound, VerbNotFound, VariableNotFound, InvalidIndirection, RecursiveMove, MaximumRecursion, Range, Arguments, NotAccepted, InvalidArgument, Quota, Float}
use Rattle.moo_value.specs.Errors.{error_name, error_message}
use Rattle.moo_value.specs.Text.{literal, literals, plain, escaped, comma_separated}
use Rattle.moo_value.specs.Tree.{Tree, Elements, integer, object, error, string, list, no_elements, element, IsTextByte, IsText, IsValue, AreValues}

pub along : (s t : List ℕ) → s ≡ t → IsText t → IsText s
along s t e h = subst IsText (sym e) h

nil : IsText []
nil = All-nil IsTextByte

cons : (b : ℕ) (s : List ℕ) → IsTextByte b → IsText s → IsText (b ∷ s)
cons b s p h = All-cons IsTextByte b s p h

pub both : (s t : List ℕ) → IsText s → IsText t → IsText (s ++ t)
both s t h k = All-append IsTextByte s t h k

abbrev is_printable : ℕ → Bool
is_printable b = nat_le 32 b && nat_le b 126

abbrev are_printable : List ℕ → Bool
are_printable [] = true
are_printable (b ∷ s) = is_printable b && are_printable s

printable : (b : ℕ) → is_printable b ≡ true → IsTextByte b
printable b e = inr (grind (arith, nat_tests), grind (arith, nat_tests))

first_true : (a b : Bool) → (a && b) ≡ true → (a ≡ true) × (b ≡ true)
first_true true b e = (refl, e)
first_true false b e = cc

printed : (s : List ℕ) → are_printable s ≡ true → IsText s
printed [] e = nil
printed (b ∷ s) e = let parts = first_true (is_printable b) (are_printable s) e in cons b s (printable b parts.0) (printed s parts.1)

digits_text : (ds : List ℕ) → AllDigits 10 ds → IsText ds
digits_text [] h = nil
digits_text (d ∷ ds) h = cons d ds (let range = digit_from_value d h.0 in inr (omega arith, omega arith)) (digits_text ds h.1)

decimal_text : (n : ℕ) → n < 2 ^ 64 → IsText (decimal n)
decimal_text n lt = digits_text (decimal n) (decimal_is_IsNumeral n lt).0.1

signed_text : (z : ℤ) → FitsSigned w32 z → IsText (signed_decimal z)
signed_text (pos n) h = decimal_text n (omega (arith, h.sfits))
signed_text (negsuc n) h = cons 45 (decimal (suc n)) (printable 45 refl) (decimal_text (suc n) (omega (arith, h.sfits)))

name_printable : (e : ErrorCode) → are_printable (error_name e) ≡ true
name_printable NoError = refl
name_printable TypeMismatch = refl
name_printable Division = refl
name_printable Permission = refl
name_printable PropertyNotFound = refl
name_printable VerbNotFound = refl
name_printable VariableNotFound = refl
name_printable InvalidIndirection = refl
name_printable RecursiveMove = refl
name_printable MaximumRecursion = refl
name_printable Range = refl
name_printable Arguments = refl
name_printable NotAccepted = refl
name_printable InvalidArgument = refl
name_printable Quota = refl
name_printable Float = refl

message_printable : (e : ErrorCode) → are_printable (error_message e) ≡ true
message_printable NoError = refl
message_printable TypeMismatch = refl
message_printable Division = refl
message_printable Permission = refl
message_printable PropertyNotFound = refl
message_printable VerbNotFound = refl
message_printable VariableNotFound = refl
message_printable InvalidIndirection = refl
message_printable RecursiveMove = refl
message_printable MaximumRecursion = refl
message_printable Range = refl
message_printable Arguments = refl
message_printable NotAccepted = refl
message_printable InvalidArgument = refl
message_printable Quota = refl
message_printable Float = refl

chosen : (test : Bool) (s t : List ℕ) → IsText s → IsText t → IsText (if test then s else t)
chosen true s t h k = h
chosen false s t h k = k

escaped_text : (b : ℕ) → IsTextByte b → IsText (escaped b)
escaped_text b h = chosen (b == 34 || b == 92) (92 ∷ b ∷ []) (b ∷ []) (cons 92 (b ∷ []) (printable 92 refl) (cons b [] h nil)) (cons b [] h nil)

quoted_bytes : (s : List ℕ) → IsText s → IsText (flat_map escaped s)
quoted_bytes [] h = nil
quoted_bytes (b ∷ s) h = both (escaped b) (flat_map escaped s) (escaped_text b (All-head IsTextByte b s h)) (quoted_bytes s (All-tail IsTextByte b s h))

abbrev others : List (List ℕ) → List ℕ
others texts = flat_map (λ text. codes ", " ++ text) texts

mutual
  pub literal_text : (t : Tree) → IsValue t → IsText (literal t)
  literal_text (integer i) h = signed_text i h
  literal_text (object o) h = both (codes "#") (signed_decimal o) (printed (codes "#") refl) (signed_text o h)
  literal_text (error e) h = printed (error_name e) (name_printable e)
  literal_text (string s) h = both (codes "\"" ++ flat_map escaped s) (codes "\"") (both (codes "\"") (flat_map escaped s) (printed (codes "\"") refl) (quoted_bytes s h)) (printed (codes "\"") refl)
  literal_text (list es) h = both (codes "{" ++ comma_separated (literals es)) (codes "}") (both (codes "{") (comma_separated (literals es)) (printed (codes "{") refl) (first_text es h)) (printed (codes "}") refl)

  first_text : (es : Elements) → AreValues es → IsText (comma_separated (literals es))
  first_text no_elements h = nil
  first_text (element t es) h = both (literal t) (others (literals es)) (literal_text t h.0) (others_text es h.1)

  others_text : (es : Elements) → AreValues es → IsText (others (literals es))
  others_text no_elements h = nil
  others_text (element t es) h = both (codes ", " ++ literal t) (others (literals es)) (both (codes ", ") (literal t) (printed (codes ", ") refl) (literal_text t h.0)) (others_text es h.1)

pub plain_text : (t : Tree) → IsValue t → IsText (plain t)
plain_text (integer i) h = signed_text i h
plain_text (object o) h = both (codes "#") (signed_decimal o) (printed (codes "#") refl) (signed_text o h)
plain_text (error e) h = printed (error_message e) (message_printable e)
plain_text (string s) h = h
plain_text (list es) h = printed (codes "{list}") refl

-- a text with parts replaced by a text
pub replaced_text : (s : List ℕ) (m : ℕ) (u : List ℕ) (last : ℕ) (ks : List ℕ) → IsText s → IsText u → IsText (replaced_at s m u last ks)
unfolding replaced_at
replaced_text s m u last [] h k = All-drop IsTextByte last s h
replaced_text s m u last (i ∷ ks) h k =
    let later = replaced_text s m u (i + m) ks h k in
    both (part last i s) (u ++ replaced_at s m u (i + m) ks) (All-take IsTextByte (i - last) (drop last s) (All-drop IsTextByte last s h)) (both u (replaced_at s m u (i + m) ks) k later)
