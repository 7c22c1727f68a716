-- More values than a function takes.
use Rattle.std.proofs.Common.{◌≡◌, ◌<◌, ◌+◌, ◌-◌, ◌^◌, ℕ, ℤ, min, length, List, Bool, false, not, ◌||◌, nat_le, None, Some, is_some, if◌then◌else◌, ap, ◌∙◌, arith}
use Rattle.std.proofs.Math.Nat.{min-le_left}
use Rattle.std.proofs.lemmas.Bool.{lt-leb, and_right}
use Rattle.moo_value.specs.declared.error_code.ErrorCode.TheVariants.{Arguments, TypeMismatch, InvalidArgument}
use Rattle.moo_value.specs.Tree.{Tree}
use Rattle.moo_syntax_function.specs.Table.{Row}
use Rattle.moo_syntax_function.specs.Check.{is_count, all_fit, all_valid, mismatch, refusal}

-- a number that is too great is so without its bound
above : (n m k : ℕ) → k < min n m → k < n
above n m k h = let least = min-le_left n m in omega (arith, h, least)

pub too_many : (row : Row) (vs : List Tree) → is_some row.more ≡ false → length row.needed + length row.optional < min (length vs) (2 ^ 64 - 1) → mismatch row vs ≡ Some Arguments
too_many row vs bounded less =
    let over : nat_le (length vs) (length row.needed + length row.optional) ≡ false = lt-leb (length vs) (length row.needed + length row.optional) (above (length vs) (2 ^ 64 - 1) (length row.needed + length row.optional) less) in
    let neither : (is_some row.more || nat_le (length vs) (length row.needed + length row.optional)) ≡ false = ap (λ b. b || nat_le (length vs) (length row.needed + length row.optional)) bounded ∙ over in
    let none : is_count row (length vs) ≡ false = and_right (nat_le (length row.needed) (length vs)) (is_some row.more || nat_le (length vs) (length row.needed + length row.optional)) neither in
    ap (λ b. if not b then Some Arguments else if not (all_fit row vs) then Some TypeMismatch else None) none

-- the number comes before whether objects are valid
pub refused_for_number : (valid : ℤ → Bool) (row : Row) (vs : List Tree) → mismatch row vs ≡ Some Arguments → refusal valid row vs ≡ Some Arguments
refused_for_number valid row vs h = ap (λ m. if is_some m then m else if not (all_valid valid row vs) then Some InvalidArgument else None) h
