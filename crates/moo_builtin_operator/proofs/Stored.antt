-- What the operations give for values that may be stored may be stored.
use Rattle.std.proofs.Common.{◌≡◌, ℕ, zero, suc, ◌+◌, ◌-◌, ◌%◌, ◌<◌, ◌≤◌, ℤ, pos, negsuc, ◌+ℤ◌, ◌-ℤ◌, ◌*ℤ◌, neg_ℤ, Bool, true, false, not, cond, eqb, ltb, leb, length-append, FitsSigned, List, [], ◌∷◌, ◌++◌, length, take, drop, set, Option, Some, None, Result, Ok, Err, refl, sym, subst, arith, Decides, IfOk}
use Rattle.std.specs.Prelude.{int_div, int_rem, position, slice_get, slice_range, int_lt, int_le, unsigned_abs, ◌&&◌}
use Rattle.std.specs.declared.cmp.Ordering.{Ordering}
use Rattle.std.specs.Ordering.{is_lt, is_le, is_gt, is_ge}
use Rattle.std.specs.Int.{int_wrap, int_pow, w32}
use lib.Signed.{mag_rem}
use Rattle.std.proofs.lemmas.Int.{SFits-int_wrap}
use Rattle.std.proofs.lemmas.List.{length-take, length-drop}
use Rattle.std.proofs.lemmas.List.Elements.{All-nil, All-append, All-take, All-drop, All-cons}
use Rattle.std.proofs.lemmas.List.Quantifiers.{position-Some}
use Rattle.std.proofs.lemmas.Bool.Decides.{nat_tests}
use Rattle.moo_value.specs.declared.error_code.ErrorCode.{ErrorCode}
use Rattle.moo_value.specs.declared.error_code.ErrorCode.TheVariants.{Quota, InvalidArgument}
use Rattle.moo_value.specs.Tree.{Tree, Elements, integer, string, list, list_of, trees_of, IsValue, IsText, IsTextByte}
use Rattle.moo_value.specs.TreeCode.{elements_of-trees_of}
use Rattle.moo_value.specs.Size.{weight, depth, list_weight, list_depth, weight_limit, depth_limit, IsWithinLimits, IsStored}
use Rattle.moo_value.specs.Compare.{order}
use Rattle.moo_syntax_ast.specs.declared.operator.UnaryOperator.{UnaryOperator}
use Rattle.moo_syntax_ast.specs.declared.operator.UnaryOperator.TheVariants.{Not, Negate}
use Rattle.moo_syntax_ast.specs.declared.operator.BinaryOperator.{BinaryOperator}
use Rattle.moo_syntax_ast.specs.declared.operator.BinaryOperator.TheVariants.{Add, Subtract, Multiply, Divide, Remainder, Power, Equal, NotEqual, Less, LessOrEqual, Greater, GreaterOrEqual, In}
use Rattle.moo_builtin_operator.specs.Answer.{limited}
use Rattle.moo_builtin_operator.specs.Truth.{is_true, equal, truth_value}
use Rattle.moo_builtin_operator.specs.Arithmetic.{on_integers, quotient, remainder, power, inverse_power}
use Rattle.moo_builtin_operator.specs.Comparison.{compared, place_value, place_in}
use Rattle.moo_builtin_operator.specs.Operators.{unary_of, binary_of, added}
use Rattle.moo_builtin_operator.specs.Places.{or_range, index_of, range_of, made_list}
use Rattle.moo_builtin_operator.specs.Assignment.{before_place, with_byte, ends, with_index_of, with_range_of}
use Rattle.moo_value.specs.Splice.{spliced}
use Rattle.moo_builtin_operator.proofs.Lists.{length-lt-weight}
use Rattle.moo_builtin_operator.proofs.Lawful.{limits_decide}

kept : (t : Tree) (b : Bool) → Decides b (IsWithinLimits t) → IsValue t → IfOk (cond b (Ok t) (Err Quota)) IsStored
kept t true d v = (v, d.0 refl)
kept t false d v = tt

pub limited_stored : (t : Tree) → IsValue t → IfOk (limited t) IsStored
limited_stored t v = kept t (leb (weight t) weight_limit && leb (depth t) depth_limit) (limits_decide t) v

number_stored : (i : ℤ) → FitsSigned w32 i → IsStored (integer i)
number_stored i f = (f, record { weight = omega arith; depth = omega arith })

text_stored : (s : List ℕ) → IsText s → length s < weight_limit → IsStored (string s)
text_stored s v h = (v, record { weight = omega arith; depth = omega arith })

truth_stored : (b : Bool) → IsStored (truth_value b)
truth_stored true = number_stored (pos 1) (record { sfits = omega arith })
truth_stored false = number_stored (pos 0) (record { sfits = omega arith })

-- arithmetic
on_integers_stored : (f : ℤ → ℤ → Result Tree ErrorCode) → ((i j : ℤ) → FitsSigned w32 i → IfOk (f i j) IsStored) → (a b : Tree) → IsStored a → IfOk (on_integers f a b) IsStored
on_integers_stored f k (integer i) (integer j) h = k i j h.0
on_integers_stored f k _ _ h = tt

wrapped_stored : (z : ℤ) → IsStored (integer (int_wrap w32 z))
wrapped_stored z = number_stored (int_wrap w32 z) (SFits-int_wrap w32 z)

quotient_stored : (a b : ℤ) → IfOk (quotient a b) IsStored
quotient_stored a (pos zero) = tt
quotient_stored a (pos (suc n)) = wrapped_stored (int_div a (pos (suc n)))
quotient_stored a (negsuc n) = wrapped_stored (int_div a (negsuc n))

left_stored : (a b : ℤ) → FitsSigned w32 a → IsStored (integer (int_rem a b))
left_stored a b f = number_stored (int_rem a b) (record { sfits = omega (arith, mag_rem a b, f.sfits) })

remainder_stored : (a b : ℤ) → FitsSigned w32 a → IfOk (remainder a b) IsStored
remainder_stored a (pos zero) f = tt
remainder_stored a (pos (suc n)) f = left_stored a (pos (suc n)) f
remainder_stored a (negsuc n) f = left_stored a (negsuc n) f

sign_stored : (b : Bool) → IsStored (integer (cond b (pos 1) (negsuc 0)))
sign_stored true = number_stored (pos 1) (record { sfits = omega arith })
sign_stored false = number_stored (negsuc 0) (record { sfits = omega arith })

inverse_stored : (a : ℤ) (n : ℕ) → IfOk (inverse_power a n) IsStored
inverse_stored (pos zero) n = tt
inverse_stored (pos (suc zero)) n = number_stored (pos 1) (record { sfits = omega arith })
inverse_stored (pos (suc (suc a))) n = number_stored (pos 0) (record { sfits = omega arith })
inverse_stored (negsuc zero) n = sign_stored (eqb (n % 2) 0)
inverse_stored (negsuc (suc a)) n = number_stored (pos 0) (record { sfits = omega arith })

power_stored : (a b : ℤ) → IfOk (power a b) IsStored
power_stored a (pos n) = wrapped_stored (int_pow a n)
power_stored a (negsuc n) = inverse_stored a (suc n)

added_stored : (a b : Tree) → IsStored a → IsStored b → IfOk (added a b) IsStored
added_stored (string s) (string t) h k = limited_stored (string (s ++ t)) (All-append IsTextByte s t h.0 k.0)
added_stored (integer i) (integer j) h k = wrapped_stored (i +ℤ j)
added_stored _ _ h k = tt

-- comparisons
compared_stored : (test : Ordering → Bool) (o : Option Ordering) → IfOk (compared test o) IsStored
compared_stored test None = tt
compared_stored test (Some o) = truth_stored (test o)

relisted : (es : Elements) → IsStored (list es) → IsStored (list_of (trees_of es))
relisted es h = subst (λ fs. IsStored (list fs)) (sym (elements_of-trees_of es)) h

place_stored : (p : Tree → Bool) (ts : List Tree) (o : Option ℕ) → position p ts ≡ o → list_weight ts ≤ weight_limit → IsStored (place_value o)
place_stored p ts None e h = number_stored (pos 0) (record { sfits = omega arith })
place_stored p ts (Some k) e h = number_stored (pos (suc k)) (record { sfits = omega (arith, (position-Some p ts k (integer (pos 0)) e).0, length-lt-weight ts) })

place_in_stored : (t u : Tree) → IsStored u → IfOk (place_in t u) IsStored
place_in_stored t (list es) h = place_stored (equal t) (trees_of es) (position (equal t) (trees_of es)) refl (relisted es h).1.weight
place_in_stored t _ h = tt

-- the operators
pub unary_stored : (operator : UnaryOperator) (a : Tree) → IfOk (unary_of operator a) IsStored
unary_stored Not a = truth_stored (not (is_true a))
unary_stored Negate (integer i) = wrapped_stored (neg_ℤ i)
unary_stored Negate _ = tt

pub binary_stored : (operator : BinaryOperator) (a b : Tree) → IsStored a → IsStored b → IfOk (binary_of operator a b) IsStored
binary_stored Add a b h k = added_stored a b h k
binary_stored Subtract a b h k = on_integers_stored _ (λ i j _. wrapped_stored (i -ℤ j)) a b h
binary_stored Multiply a b h k = on_integers_stored _ (λ i j _. wrapped_stored (i *ℤ j)) a b h
binary_stored Divide a b h k = on_integers_stored quotient (λ i j _. quotient_stored i j) a b h
binary_stored Remainder a b h k = on_integers_stored remainder remainder_stored a b h
binary_stored Power a b h k = on_integers_stored power (λ i j _. power_stored i j) a b h
binary_stored Equal a b h k = truth_stored (equal a b)
binary_stored NotEqual a b h k = truth_stored (not (equal a b))
binary_stored Less a b h k = compared_stored is_lt (order a b)
binary_stored LessOrEqual a b h k = compared_stored is_le (order a b)
binary_stored Greater a b h k = compared_stored is_gt (order a b)
binary_stored GreaterOrEqual a b h k = compared_stored is_ge (order a b)
binary_stored In a b h k = place_in_stored a b k

-- an index
tail_stored : (t : Tree) (ts : List Tree) → IsStored (list_of (t ∷ ts)) → IsStored (list_of ts)
tail_stored t ts h = (h.0.1, record { weight = omega (arith, h.1.weight); depth = omega (arith, h.1.depth) })

head_stored : (t : Tree) (ts : List Tree) → IsStored (list_of (t ∷ ts)) → IsStored t
head_stored t ts h = (h.0.0, record { weight = omega (arith, h.1.weight); depth = omega (arith, h.1.depth) })

element_stored : (ts : List Tree) (k : ℕ) → IsStored (list_of ts) → IfOk (or_range (slice_get ts k) (λ t. Ok t)) IsStored
element_stored [] k h = tt
element_stored (t ∷ ts) zero h = head_stored t ts h
element_stored (t ∷ ts) (suc k) h = element_stored ts k (tail_stored t ts h)

byte_stored : (s : List ℕ) (k : ℕ) → IsText s → IfOk (or_range (slice_get s k) (λ b. Ok (string (b ∷ [])))) IsStored
byte_stored [] k h = tt
byte_stored (b ∷ s) zero h = text_stored (b ∷ []) (All-cons IsTextByte b [] (h 0 b (omega arith)) (All-nil IsTextByte)) (omega arith)
byte_stored (b ∷ s) (suc k) h = byte_stored s k (λ j d less. h (suc j) d (omega arith))

pub index_stored : (base i : Tree) → IsStored base → IfOk (index_of base i) IsStored
index_stored (string s) (integer (pos zero)) h = tt
index_stored (string s) (integer (pos (suc k))) h = byte_stored s k h.0
index_stored (string s) (integer (negsuc m)) h = tt
index_stored (list es) (integer (pos zero)) h = tt
index_stored (list es) (integer (pos (suc k))) h = element_stored (trees_of es) k (relisted es h)
index_stored (list es) (integer (negsuc m)) h = tt
index_stored _ _ h = tt

-- a range
drop_stored : (n : ℕ) (ts : List Tree) → IsStored (list_of ts) → IsStored (list_of (drop n ts))
drop_stored zero ts h = h
drop_stored (suc n) [] h = h
drop_stored (suc n) (t ∷ ts) h = drop_stored n ts (tail_stored t ts h)

take_weight : (n : ℕ) (ts : List Tree) → list_weight (take n ts) ≤ list_weight ts
take_weight zero [] = omega arith
take_weight zero (t ∷ ts) = omega arith
take_weight (suc n) [] = omega arith
take_weight (suc n) (t ∷ ts) = omega (arith, take_weight n ts)

take_depth : (n : ℕ) (ts : List Tree) → list_depth (take n ts) ≤ list_depth ts
take_depth zero [] = omega arith
take_depth zero (t ∷ ts) = omega arith
take_depth (suc n) [] = omega arith
take_depth (suc n) (t ∷ ts) = omega (arith, take_depth n ts)

take_value : (n : ℕ) (ts : List Tree) → IsValue (list_of ts) → IsValue (list_of (take n ts))
take_value zero ts h = tt
take_value (suc n) [] h = tt
take_value (suc n) (t ∷ ts) h = (h.0, take_value n ts h.1)

take_stored : (n : ℕ) (ts : List Tree) → IsStored (list_of ts) → IsStored (list_of (take n ts))
take_stored n ts h = (take_value n ts h.0, record { weight = omega (arith, take_weight n ts, h.1.weight); depth = omega (arith, take_depth n ts, h.1.depth) })

part_stored : {X : Type 0} (f : List X → Tree) (us : List X) (p q : Bool) → IsStored (f []) → IsStored (f us) → IfOk (or_range (cond p (Some []) (cond q (Some us) None)) (λ xs. Ok (f xs))) IsStored
part_stored f us true q h k = h
part_stored f us false true h k = k
part_stored f us false false h k = tt

pub range_stored : (base low high : Tree) → IsStored base → IfOk (range_of base low high) IsStored
range_stored (string s) (integer low) (integer high) h =
    let from : ℕ = unsigned_abs low - 1 in
    let long : length (take (unsigned_abs high - (unsigned_abs low - 1)) (drop (unsigned_abs low - 1) s)) < weight_limit = simp (length-take, length-drop) (omega (arith, h.1.weight)) in
    part_stored string (slice_range s (unsigned_abs low - 1) (unsigned_abs high)) (int_lt high low) (int_le (pos 1) low && int_le high (pos (length s)))
    (text_stored [] (All-nil IsTextByte) (omega arith))
    (text_stored (slice_range s (unsigned_abs low - 1) (unsigned_abs high)) (All-take IsTextByte (unsigned_abs high - (unsigned_abs low - 1)) (drop (unsigned_abs low - 1) s) (All-drop IsTextByte (unsigned_abs low - 1) s h.0)) long)
range_stored (list es) (integer low) (integer high) h =
    part_stored list_of (slice_range (trees_of es) (unsigned_abs low - 1) (unsigned_abs high)) (int_lt high low) (int_le (pos 1) low && int_le high (pos (length (trees_of es))))
    (tt, record { weight = omega arith; depth = omega arith })
    (take_stored (unsigned_abs high - (unsigned_abs low - 1)) (drop (unsigned_abs low - 1) (trees_of es)) (drop_stored (unsigned_abs low - 1) (trees_of es) (relisted es h)))
range_stored _ _ _ h = tt

-- a part replaced
append_value : (ts us : List Tree) → IsValue (list_of ts) → IsValue (list_of us) → IsValue (list_of (ts ++ us))
append_value [] us h k = k
append_value (t ∷ ts) us h k = (h.0, append_value ts us h.1 k)

set_value : (ts : List Tree) (k : ℕ) (v : Tree) → IsValue (list_of ts) → IsValue v → IsValue (list_of (set ts k v))
set_value [] zero v h u = tt
set_value [] (suc k) v h u = tt
set_value (t ∷ ts) zero v h u = (u, h.1)
set_value (t ∷ ts) (suc k) v h u = (h.0, set_value ts k v h.1 u)

set_stored : (o : Option ℕ) (ts : List Tree) (v : Tree) → IsValue (list_of ts) → IsValue v → IfOk (or_range o (λ k. limited (list_of (set ts k v)))) IsStored
set_stored None ts v h u = tt
set_stored (Some k) ts v h u = limited_stored (list_of (set ts k v)) (set_value ts k v h u)

spliced_text : (s t : List ℕ) (a b : ℕ) → IsText s → IsText t → IsText (spliced s a b t)
spliced_text s t a b h k = All-append IsTextByte (take a s ++ t) (drop b s) (All-append IsTextByte (take a s) t (All-take IsTextByte a s h) k) (All-drop IsTextByte b s h)

with_byte_stored : (s t : List ℕ) (k : ℕ) (b : Bool) → b ≡ eqb (length t) 1 → IsText s → IsText t → length s < weight_limit → k < length s
    → IfOk (cond b (Ok (string (spliced s k (k + 1) t))) (Err InvalidArgument)) IsStored
with_byte_stored s t k true e h u fits less =
    let one : length t ≡ 1 = grind (arith, nat_tests) in
    let long : length (take k s ++ t ++ drop (k + 1) s) < weight_limit = simp (length-append, length-take, length-drop) (omega arith) in
    text_stored (spliced s k (k + 1) t) (spliced_text s t k (k + 1) h u) long
with_byte_stored s t k false e h u fits less = tt

byte_at_place_stored : (s t : List ℕ) (k : ℕ) (b : Bool) → b ≡ ltb k (length s) → IsText s → IsText t → length s < weight_limit
    → IfOk (or_range (cond b (Some k) None) (λ k. with_byte s k t)) IsStored
byte_at_place_stored s t k true e h u fits =
    let less : k < length s = grind (arith, nat_tests) in
    with_byte_stored s t k (eqb (length t) 1) refl h u fits less
byte_at_place_stored s t k false e h u fits = tt

pub with_index_stored : (base i v : Tree) → IsStored base → IsStored v → IfOk (with_index_of base i v) IsStored
with_index_stored (string s) (integer (pos zero)) (string t) h u = tt
with_index_stored (string s) (integer (pos (suc k))) (string t) h u = byte_at_place_stored s t k (ltb k (length s)) refl h.0 u.0 (omega (arith, h.1.weight))
with_index_stored (string s) (integer (negsuc m)) (string t) h u = tt
with_index_stored (list es) (integer i) v h u = set_stored (before_place i (length (trees_of es))) (trees_of es) v (relisted es h).0 u.0
with_index_stored _ _ _ h u = tt

spliced_text_stored : (o : Option (ℕ × ℕ)) (s t : List ℕ) → IsText s → IsText t → IfOk (or_range o (λ e. limited (string (spliced s e.0 e.1 t)))) IsStored
spliced_text_stored None s t h k = tt
spliced_text_stored (Some e) s t h k = limited_stored (string (spliced s e.0 e.1 t)) (spliced_text s t e.0 e.1 h k)

spliced_list_stored : (o : Option (ℕ × ℕ)) (ts us : List Tree) → IsStored (list_of ts) → IsStored (list_of us) → IfOk (or_range o (λ e. limited (list_of (spliced ts e.0 e.1 us)))) IsStored
spliced_list_stored None ts us h k = tt
spliced_list_stored (Some e) ts us h k =
    limited_stored (list_of (spliced ts e.0 e.1 us))
    (append_value (take e.0 ts ++ us) (drop e.1 ts) (append_value (take e.0 ts) us (take_value e.0 ts h.0) k.0) (drop_stored e.1 ts h).0)

pub with_range_stored : (base low high v : Tree) → IsStored base → IsStored v → IfOk (with_range_of base low high v) IsStored
with_range_stored (string s) (integer low) (integer high) (string t) h k = spliced_text_stored (ends low high (length s)) s t h.0 k.0
with_range_stored (list es) (integer low) (integer high) (list fs) h k = spliced_list_stored (ends low high (length (trees_of es))) (trees_of es) (trees_of fs) (relisted es h) (relisted fs k)
with_range_stored _ _ _ _ h k = tt

pub list_stored : (ts : List Tree) → IsValue (list_of ts) → IfOk (made_list ts) IsStored
list_stored ts v = limited_stored (list_of ts) v
