-- Arithmetic on integers, modulo 2^32.
use Rattle.std.specs.Prelude.{ℕ, zero, suc, ℤ, pos, negsuc, ◌%◌, ◌==◌, if◌then◌else◌, int_div, int_rem, Result, Ok, Err}
use Rattle.std.specs.Int.{int_wrap, int_pow, w32}
use Rattle.moo_value.specs.declared.error_code.ErrorCode.{ErrorCode}
use Rattle.moo_value.specs.declared.error_code.ErrorCode.TheVariants.{TypeMismatch, Division}
use Rattle.moo_value.specs.Tree.{Tree, integer}

-- what is left of an integer in 32 bits, signed
abbrev pub wrapped : ℤ → Tree
wrapped z = integer (int_wrap w32 z)

-- what an operation on two integers gives for two values
abbrev pub on_integers : (ℤ → ℤ → Result Tree ErrorCode) → Tree → Tree → Result Tree ErrorCode
on_integers f (integer i) (integer j) = f i j
on_integers f _ _ = Err TypeMismatch

-- the quotient, truncated towards zero
abbrev pub quotient : ℤ → ℤ → Result Tree ErrorCode
quotient a (pos zero) = Err Division
quotient a b = Ok (wrapped (int_div a b))

-- what that quotient leaves
abbrev pub remainder : ℤ → ℤ → Result Tree ErrorCode
remainder a (pos zero) = Err Division
remainder a b = Ok (integer (int_rem a b))

-- the power with the exponent -n, for an n above 0
abbrev pub inverse_power : ℤ → ℕ → Result Tree ErrorCode
inverse_power (pos zero) n = Err Division
inverse_power (pos (suc zero)) n = Ok (integer (pos 1))
inverse_power (negsuc zero) n = Ok (integer (if n % 2 == 0 then pos 1 else negsuc 0))
inverse_power a n = Ok (integer (pos 0))

abbrev pub power : ℤ → ℤ → Result Tree ErrorCode
power a (pos n) = Ok (wrapped (int_pow a n))
power a (negsuc n) = inverse_power a (suc n)
