-- A number that is written is read back.
use Rattle.std.proofs.Common.{ℕ, suc, ℤ, pos, negsuc, List, [], ◌∷◌, ◌++◌, ◌≡◌, ◌+◌, ◌*◌, ◌/◌, ◌%◌, ◌-◌, ◌^◌, ◌<◌, ◌≤◌, refl, ap, ◌∙◌, Bool, true, false, Some, ◌⊎◌, inl, inr, nat_eq, length, take, drop, ◌||◌, arith}
use Rattle.std.specs.Prelude.{FitsSigned}
use Rattle.std.specs.List.{list_all, prefix_len}
use Rattle.std.specs.Int.{w32, int_wrapping_neg}
use Rattle.std.specs.Fmt.{decimal, signed_decimal}
use Rattle.std.proofs.lemmas.List.{take_at, drop_at, length_push}
use Rattle.std.proofs.lemmas.List.Folds.{list_all-append}
use Rattle.std.proofs.lemmas.List.Sums.{fold_push}
use Rattle.std.proofs.lemmas.Fmt.{decimal_by_steps}
use Rattle.std.proofs.lemmas.Int.{to_z_pos, wrapping_neg_is, int_wrap_fits}
use Rattle.std.proofs.lemmas.Bool.{cases_lt}
use Rattle.std.proofs.lemmas.Bool.Decides.{nat_tests}
use Rattle.moo_syntax_token.specs.declared.token.Token.TheVariants as token
use Rattle.moo_value.specs.Digits.{is_digit, number, wrapped}
use Rattle.moo_syntax_token.specs.Tokens.{begins_name, begins_fraction, integer_at, number_at, object_at, token_at}
use Rattle.moo_syntax_token.specs.Lexing.{begins_comment}
use Rattle.moo_syntax_token.specs.Spelling.{begins_with}
use Rattle.moo_syntax_token.proofs.SpelledWords.{both, front_length}

-- digits that write n
pub record IsDecimal (n : ℕ) (ds : List ℕ) : Type 0 where
  pub digits : list_all is_digit ds ≡ true
  pub some : 0 < length ds
  pub value : number ds ≡ n

digit_passes : (d : ℕ) → d < 10 → is_digit (48 + d) ≡ true
digit_passes d h = grind (arith, nat_tests)

one_digit : (n : ℕ) → n < 10 → IsDecimal n ((48 + n) ∷ [])
one_digit n h = record {
  digits = rw (digit_passes n h) refl;
  some = omega arith;
  value = omega arith;
}

more_digits : (n : ℕ) (ds : List ℕ) → 10 ≤ n → IsDecimal (n / 10) ds → IsDecimal n (ds ++ ((48 + n % 10) ∷ []))
more_digits n ds h d =
    let small : n % 10 < 10 = omega arith in
    record {
      digits = rw (list_all-append is_digit ds ((48 + n % 10) ∷ []), d.digits, digit_passes (n % 10) small) refl;
      some = omega (arith, length_push ds (48 + n % 10));
      value = rw (fold_push (λ n d. n * 10 + (d - 48)) 0 ds (48 + n % 10), d.value) (omega arith);
    }

pub decimal_is : (n : ℕ) → n < 2 ^ 64 → IsDecimal n (decimal n)
decimal_is n h = decimal_by_steps IsDecimal one_digit more_digits n h

wrapped_small : (n : ℕ) (ds : List ℕ) → number ds ≡ n → n < 2 ^ 31 → wrapped ds ≡ pos n
wrapped_small n ds v h =
    let e : n % 4294967296 ≡ n = omega arith in
    rw (v, e) (to_z_pos w32 n h)

-- a digit begins neither a name, nor a sign
digit_begins_none : (b : ℕ) → is_digit b ≡ true → begins_name b ≡ false
digit_begins_none b h = grind (arith, nat_tests)

digit_no_minus : (b : ℕ) → is_digit b ≡ true → nat_eq b 45 ≡ false
digit_no_minus b h = grind (arith, nat_tests)

digit_no_slash : (b : ℕ) → is_digit b ≡ true → nat_eq b 47 ≡ false
digit_no_slash b h = grind (arith, nat_tests)

some_length : (n : ℕ) → 0 < n → nat_eq n 0 ≡ false
some_length n h = grind (arith, nat_tests)

at_digit : (b : ℕ) (bs : List ℕ) → is_digit b ≡ true → token_at (b ∷ bs) ≡ integer_at (b ∷ bs)
unfolding token_at
at_digit b bs h = rw (digit_begins_none b h, h) refl

at_digits : (ds rest : List ℕ) → list_all is_digit ds ≡ true → 0 < length ds → token_at (ds ++ rest) ≡ integer_at (ds ++ rest)
at_digits [] rest d s = absurd (omega arith)
at_digits (b ∷ bs) rest d s = at_digit b (bs ++ rest) (both (is_digit b) (list_all is_digit bs) d).0

integer_here : (ds rest : List ℕ) → list_all is_digit ds ≡ true → begins_with is_digit rest ≡ false → begins_fraction rest ≡ false → integer_at (ds ++ rest) ≡ Some (token.Integer (wrapped ds), length ds)
unfolding integer_at
integer_here ds rest d n f =
    let front : prefix_len is_digit (ds ++ rest) ≡ length ds = front_length is_digit ds rest d n in
    let part : take (length ds) (ds ++ rest) ≡ ds = take_at ds rest (length ds) refl in
    let after : drop (length ds) (ds ++ rest) ≡ rest = drop_at ds rest (length ds) refl in
    rw (front, after, f, part) refl

number_here : (ds rest : List ℕ) → list_all is_digit ds ≡ true → 0 < length ds → begins_with is_digit rest ≡ false → number_at (ds ++ rest) ≡ Some (wrapped ds, length ds)
unfolding number_at
number_here ds rest d s n =
    let front : prefix_len is_digit (ds ++ rest) ≡ length ds = front_length is_digit ds rest d n in
    let part : take (length ds) (ds ++ rest) ≡ ds = take_at ds rest (length ds) refl in
    rw (front, some_length (length ds) s, part) refl

neither : (a b : Bool) → (a || b) ≡ false → (a ≡ false) × (b ≡ false)
neither true b h = cc
neither false b h = (refl, h)

pub integer_read : (n : ℕ) (rest : List ℕ) → n < 2 ^ 31 → (begins_with is_digit rest || begins_fraction rest) ≡ false → token_at (decimal n ++ rest) ≡ Some (token.Integer (pos n), length (decimal n))
integer_read n rest h j =
    let d = decimal_is n (omega arith) in
    let apart = neither (begins_with is_digit rest) (begins_fraction rest) j in
    at_digits (decimal n) rest d.digits d.some
    ∙ integer_here (decimal n) rest d.digits apart.0 apart.1
    ∙ ap (λ (i : ℤ). Some (token.Integer i, length (decimal n))) (wrapped_small n (decimal n) d.value h)

at_hash : (bs : List ℕ) (o : ℤ) (k : ℕ) → object_at bs ≡ Some (o, k) → token_at (35 ∷ bs) ≡ Some (token.Object o, 1 + k)
unfolding token_at
at_hash bs o k e = rw e refl

object_no_minus : (b : ℕ) (bs : List ℕ) → is_digit b ≡ true → object_at (b ∷ bs) ≡ number_at (b ∷ bs)
unfolding object_at
object_no_minus b bs h = rw (digit_no_minus b h) refl

object_digits : (ds rest : List ℕ) → list_all is_digit ds ≡ true → 0 < length ds → object_at (ds ++ rest) ≡ number_at (ds ++ rest)
object_digits [] rest d s = absurd (omega arith)
object_digits (b ∷ bs) rest d s = object_no_minus b (bs ++ rest) (both (is_digit b) (list_all is_digit bs) d).0

object_minus : (bs : List ℕ) (i : ℤ) (k : ℕ) → number_at bs ≡ Some (i, k) → object_at (45 ∷ bs) ≡ Some (int_wrapping_neg w32 i, 1 + k)
unfolding object_at
object_minus bs i k e = rw e refl

negated_by : (m : ℕ) (ds : List ℕ) → number ds ≡ suc m → m < 2 ^ 31 → (suc m < 2 ^ 31) ⊎ (2 ^ 31 ≤ suc m) → int_wrapping_neg w32 (wrapped ds) ≡ negsuc m
negated_by m ds v h (inl l) =
    let fits : FitsSigned w32 (pos (suc m)) = record { sfits = l } in
    let less : FitsSigned w32 (negsuc m) = record { sfits = h } in
    ap (int_wrapping_neg w32) (wrapped_small (suc m) ds v l) ∙ wrapping_neg_is w32 (pos (suc m)) fits ∙ int_wrap_fits w32 (negsuc m) less
negated_by m ds v h (inr g) =
    let e : m ≡ 2147483647 = omega arith in
    rw (v, e) refl

negated : (m : ℕ) (ds : List ℕ) → number ds ≡ suc m → m < 2 ^ 31 → int_wrapping_neg w32 (wrapped ds) ≡ negsuc m
negated m ds v h = negated_by m ds v h (cases_lt (suc m) (2 ^ 31))

pub object_read : (o : ℤ) (rest : List ℕ) → FitsSigned w32 o → begins_with is_digit rest ≡ false → token_at ((35 ∷ signed_decimal o) ++ rest) ≡ Some (token.Object o, length (35 ∷ signed_decimal o))
object_read (pos n) rest f j =
    let h : n < 2 ^ 31 = f.sfits in
    let d = decimal_is n (omega arith) in
    let at : object_at (decimal n ++ rest) ≡ Some (pos n, length (decimal n)) =
    object_digits (decimal n) rest d.digits d.some ∙ number_here (decimal n) rest d.digits d.some j ∙ ap (λ (i : ℤ). Some (i, length (decimal n))) (wrapped_small n (decimal n) d.value h) in
    at_hash (decimal n ++ rest) (pos n) (length (decimal n)) at ∙ ap (λ (k : ℕ). Some (token.Object (pos n), k)) (omega arith)
object_read (negsuc m) rest f j =
    let h : m < 2 ^ 31 = f.sfits in
    let d = decimal_is (suc m) (omega arith) in
    let at : object_at (45 ∷ (decimal (suc m) ++ rest)) ≡ Some (negsuc m, 1 + length (decimal (suc m))) =
    object_minus (decimal (suc m) ++ rest) (wrapped (decimal (suc m))) (length (decimal (suc m))) (number_here (decimal (suc m)) rest d.digits d.some j)
    ∙ ap (λ (i : ℤ). Some (i, 1 + length (decimal (suc m)))) (negated m (decimal (suc m)) d.value h) in
    at_hash (45 ∷ (decimal (suc m) ++ rest)) (negsuc m) (1 + length (decimal (suc m))) at ∙ ap (λ (k : ℕ). Some (token.Object (negsuc m), k)) (omega arith)

digit_no_comment : (b : ℕ) (bs : List ℕ) → is_digit b ≡ true → begins_comment (b ∷ bs) ≡ false
unfolding begins_comment
digit_no_comment b [] h = refl
digit_no_comment b (c ∷ bs) h = rw (digit_no_slash b h) refl

digits_no_comment : (ds rest : List ℕ) → list_all is_digit ds ≡ true → 0 < length ds → begins_comment (ds ++ rest) ≡ false
digits_no_comment [] rest d s = absurd (omega arith)
digits_no_comment (b ∷ bs) rest d s = digit_no_comment b (bs ++ rest) (both (is_digit b) (list_all is_digit bs) d).0

pub integer_no_comment : (n : ℕ) (rest : List ℕ) → n < 2 ^ 31 → begins_comment (decimal n ++ rest) ≡ false
integer_no_comment n rest h = let d = decimal_is n (omega arith) in digits_no_comment (decimal n) rest d.digits d.some

pub hash_no_comment : (bs : List ℕ) → begins_comment (35 ∷ bs) ≡ false
unfolding begins_comment
hash_no_comment [] = refl
hash_no_comment (b ∷ bs) = refl
