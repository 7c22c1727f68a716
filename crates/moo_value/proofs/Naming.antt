-- The names of errors: each has `_` after its first letter.
use Rattle.std.proofs.Common.{arith, ◌≡◌, ◌≢◌, ◌<◌, ℕ, length, Bool, true, false, List, [], ◌∷◌, None, get_or, refl, sym, ap, ◌∙◌}
use Rattle.std.specs.List.{find}
use Rattle.std.specs.Char.{to_ascii_lowercase}
use Rattle.std.specs.Str.{str_eq_ignore_ascii_case}
use Rattle.std.proofs.lemmas.Str.Ascii.{lowercase_is}
use Rattle.std.proofs.lemmas.Slice.Eq.{bytes_eq-Decides}
use Rattle.moo_value.specs.declared.error_code.ErrorCode.{ErrorCode}
use Rattle.moo_value.specs.declared.error_code.ErrorCode.TheVariants as error
use Rattle.moo_value.specs.Compare.{folded}
use Rattle.moo_value.specs.Errors.{all_errors, error_name, error_named}

second-folded : (word : List ℕ) → get_or (folded word) 1 0 ≡ to_ascii_lowercase (get_or word 1 0)
second-folded [] = refl
second-folded (a ∷ []) = refl
second-folded (a ∷ b ∷ word) = refl

second-name : (e : ErrorCode) → get_or (folded (error_name e)) 1 0 ≡ 95
second-name error.NoError = refl
second-name error.TypeMismatch = refl
second-name error.Division = refl
second-name error.Permission = refl
second-name error.PropertyNotFound = refl
second-name error.VerbNotFound = refl
second-name error.VariableNotFound = refl
second-name error.InvalidIndirection = refl
second-name error.RecursiveMove = refl
second-name error.MaximumRecursion = refl
second-name error.Range = refl
second-name error.Arguments = refl
second-name error.NotAccepted = refl
second-name error.InvalidArgument = refl
second-name error.Quota = refl
second-name error.Float = refl

no_letter : (b : ℕ) → to_ascii_lowercase b ≡ 95 → b ≡ 95
no_letter b is = grind (arith, lowercase_is)

is_marked : (word : List ℕ) (e : ErrorCode) → str_eq_ignore_ascii_case (error_name e) word ≡ true → get_or word 1 0 ≡ 95
is_marked word e same =
    no_letter (get_or word 1 0) (sym (second-folded word) ∙ sym (ap (λ s. get_or s 1 0) ((bytes_eq-Decides (folded (error_name e)) (folded word)).0 same)) ∙ second-name e)

is_other : (word : List ℕ) (e : ErrorCode) (same : Bool) → get_or word 1 0 ≢ 95 → str_eq_ignore_ascii_case (error_name e) word ≡ same → same ≡ false
is_other word e true unmarked same = absurd (unmarked (is_marked word e same))
is_other word e false unmarked same = refl

none_passes : (test : ErrorCode → Bool) → ((e : ErrorCode) → test e ≡ false) → (es : List ErrorCode) → find test es ≡ None
none_passes test fails [] = refl
none_passes test fails (e ∷ es) = rw (fails e) (none_passes test fails es)

-- no word without that mark is an error's name
pub unmarked_is_none : (word : List ℕ) → get_or word 1 0 ≢ 95 → error_named word ≡ None
unfolding error_named
unmarked_is_none word unmarked = none_passes _ (λ e. is_other word e _ unmarked refl) all_errors

pub short_is_unmarked : (word : List ℕ) → length word < 2 → get_or word 1 0 ≢ 95
short_is_unmarked [] short = λ is. omega arith
short_is_unmarked (a ∷ []) short = λ is. omega arith
short_is_unmarked (a ∷ b ∷ word) short = absurd (omega arith)
