-- Arguments that are accepted.
use Rattle.std.proofs.Common.{◌≡◌, ℕ, ℤ, ◌+◌, length, List, Bool, true, false, not, ◌&&◌, ◌||◌, nat_le, Option, None, Some, is_some, if◌then◌else◌, refl, ap, ◌∙◌, arith}
use Rattle.std.proofs.lemmas.Bool.{le-leb}
use Rattle.moo_value.specs.declared.error_code.ErrorCode.{ErrorCode}
use Rattle.moo_value.specs.declared.error_code.ErrorCode.TheVariants.{Arguments, TypeMismatch, InvalidArgument}
use Rattle.moo_value.specs.Tree.{Tree}
use Rattle.moo_syntax_function.specs.Table.{Row}
use Rattle.moo_syntax_function.specs.Check.{is_count, all_fit, all_valid, refusal}

-- whether arguments are refused: that their number is right, that they fit, and that the objects among them are valid
abbrev judged : (count fit valid : Bool) → Option ErrorCode
judged count fit valid =
    let first = if not count then Some Arguments else if not fit then Some TypeMismatch else None in
    if is_some first then first else if not valid then Some InvalidArgument else None

pub accepted : (valid : ℤ → Bool) (row : Row) (args : List Tree) → is_count row (length args) ≡ true → all_fit row args ≡ true → all_valid valid row args ≡ true → refusal valid row args ≡ None
accepted valid row args count fit are =
    ap (λ b. judged b (all_fit row args) (all_valid valid row args)) count
    ∙ ap (λ b. judged true b (all_valid valid row args)) fit
    ∙ ap (λ b. judged true true b) are

or_true : (b : Bool) → (b || true) ≡ true
or_true true = refl
or_true false = refl

-- just those that are needed
pub needed_count : (row : Row) (n : ℕ) → n ≡ length row.needed → is_count row n ≡ true
needed_count row n same =
    let enough : nat_le (length row.needed) n ≡ true = le-leb (length row.needed) n (omega (arith, same)) in
    let few : nat_le n (length row.needed + length row.optional) ≡ true = le-leb n (length row.needed + length row.optional) (omega (arith, same)) in
    ap (λ b. b && (is_some row.more || nat_le n (length row.needed + length row.optional))) enough
    ∙ ap (λ b. is_some row.more || b) few ∙ or_true (is_some row.more)
