-- The results of the functions on strings.
use Rattle.std.specs.Prelude.{ℕ, ℤ, pos, negsuc, Bool, false, List, [], ◌∷◌, Result, Ok, Err, if◌then◌else◌, length}
use Rattle.std.specs.Ordering.{nat_cmp}
use Rattle.std.specs.Cmp.Lexicographic.{slice_cmp}
use Rattle.std.specs.declared.cmp.Ordering.{Ordering}
use Rattle.std.specs.declared.cmp.Ordering.TheVariants.{Less, Equal, Greater}
use Rattle.memchr.specs.Find.{first_of, matches, rmatches}
use Rattle.bstr.specs.Text.{replaced_at}
use Rattle.moo_value.specs.declared.error_code.ErrorCode.{ErrorCode}
use Rattle.moo_value.specs.declared.error_code.ErrorCode.TheVariants.{TypeMismatch, InvalidArgument}
use Rattle.moo_value.specs.Compare.{folded}
use Rattle.moo_value.specs.Tree.{Tree, integer, string}
use Rattle.moo_builtin_operator.specs.Answer.{limited}
use Rattle.moo_builtin_operator.specs.Comparison.{place_value}
use Rattle.moo_builtin_operator.specs.Truth.{is_true}

abbrev pub sign : Ordering → ℤ
sign Less = negsuc 0
sign Equal = pos 0
sign Greater = pos 1

-- by the bytes, letters not folded
abbrev pub compare : List Tree → Result Tree ErrorCode
compare (string s ∷ string t ∷ []) = Ok (integer (sign (slice_cmp nat_cmp s t)))
compare _ = Err TypeMismatch

-- a text as a search sees it
abbrev pub as_searched : Bool → List ℕ → List ℕ
as_searched exact s = if exact then s else folded s

-- the first place in s at which t occurs, or 0
abbrev pub first_place : Bool → List ℕ → List ℕ → Tree
first_place exact s t = place_value (first_of (matches (as_searched exact s) (as_searched exact t) 0))

-- the last place in s at which t occurs, or 0
abbrev pub last_place : Bool → List ℕ → List ℕ → Tree
last_place exact s t = place_value (first_of (rmatches (as_searched exact s) (as_searched exact t) (length (as_searched exact s))))

-- a third argument that is true asks that letters are not folded
abbrev pub is_exact : List Tree → Bool
is_exact (s ∷ t ∷ exact ∷ []) = is_true exact
is_exact _ = false

abbrev pub index : List Tree → Result Tree ErrorCode
index (string s ∷ string t ∷ []) = Ok (first_place false s t)
index (string s ∷ string t ∷ exact ∷ []) = Ok (first_place (is_true exact) s t)
index _ = Err TypeMismatch

abbrev pub last_index : List Tree → Result Tree ErrorCode
last_index (string s ∷ string t ∷ []) = Ok (last_place false s t)
last_index (string s ∷ string t ∷ exact ∷ []) = Ok (last_place (is_true exact) s t)
last_index _ = Err TypeMismatch

-- each occurrence of t in s, from the left and none overlapping one before it, with u in its place
abbrev pub substituted : Bool → List ℕ → List ℕ → List ℕ → List ℕ
substituted exact s t u = replaced_at s (length t) u 0 (matches (as_searched exact s) (as_searched exact t) 0)

abbrev pub substitution : Bool → List ℕ → List ℕ → List ℕ → Result Tree ErrorCode
substitution exact s [] u = Err InvalidArgument
substitution exact s t u = limited (string (substituted exact s t u))

abbrev pub substitute : List Tree → Result Tree ErrorCode
substitute (string s ∷ string t ∷ string u ∷ []) = substitution false s t u
substitute (string s ∷ string t ∷ string u ∷ exact ∷ []) = substitution (is_true exact) s t u
substitute _ = Err TypeMismatch
