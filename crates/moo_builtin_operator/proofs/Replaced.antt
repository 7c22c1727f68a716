-- Strings and lists with a part replaced.
use Rattle.std.proofs.Common.{◌≡◌, ℕ, ◌+◌, ◌<◌, ◌≤◌, max, ℤ, List, length, take, drop, ◌++◌, set, Some, None, Ok, Err, sym, ap, ◌∙◌, arith, length-append}
use Rattle.std.proofs.lemmas.List.{length-take, length-drop}
use Rattle.std.proofs.lemmas.Bool.Decides.{nat_tests}
use Rattle.moo_value.specs.declared.error_code.ErrorCode.TheVariants.{Range}
use Rattle.moo_value.specs.Tree.{Tree, integer, string, list_of, elements_of, trees_of}
use Rattle.moo_value.specs.TreeCode.{trees_of-elements_of}
use Rattle.moo_value.specs.Size.{weight, depth, list_weight, list_depth, weight_limit, depth_limit}
use Rattle.moo_value.specs.Splice.{spliced}
use Rattle.moo_value.proofs.Joined.{spliced_within}
use Rattle.moo_builtin_operator.specs.Answer.{limited}
use Rattle.moo_builtin_operator.specs.Places.{or_range}
use Rattle.moo_builtin_operator.specs.Assignment.{before_place, ends, with_index_of, with_range_of}
use Rattle.moo_builtin_operator.proofs.Lawful.{limited_within}

limited_text : (s : List ℕ) → length s < weight_limit → limited (string s) ≡ Ok (string s)
limited_text s h = grind (arith, nat_tests)

-- a byte in place of another is no heavier
pub replaced_byte : (s t : List ℕ) (k : ℕ) → k < length s → length t ≡ 1 → length s < weight_limit → limited (string (spliced s k (k + 1) t)) ≡ Ok (string (spliced s k (k + 1) t))
replaced_byte s t k h one fits =
    let long : length (take k s ++ t ++ drop (k + 1) s) < weight_limit = simp (length-append, length-take, length-drop) (omega arith) in
    limited_text (spliced s k (k + 1) t) long

pub set_in_list : (ts : List Tree) (i : ℤ) (k n : ℕ) (v : Tree) → n ≡ length ts → Some k ≡ before_place i n → with_index_of (list_of ts) (integer i) v ≡ limited (list_of (set ts k v))
set_in_list ts i k n v e p =
    ap (λ us. or_range (before_place i (length us)) (λ j. limited (list_of (set us j v)))) (trees_of-elements_of ts)
    ∙ ap (λ o. or_range o (λ j. limited (list_of (set ts j v)))) (sym (p ∙ ap (before_place i) e))

pub set_past_list : (ts : List Tree) (i : ℤ) (n : ℕ) (v : Tree) → n ≡ length ts → None ≡ before_place i n → with_index_of (list_of ts) (integer i) v ≡ Err Range
set_past_list ts i n v e p =
    ap (λ us. or_range (before_place i (length us)) (λ j. limited (list_of (set us j v)))) (trees_of-elements_of ts)
    ∙ ap (λ o. or_range o (λ j. limited (list_of (set ts j v)))) (sym (p ∙ ap (before_place i) e))

-- with the ends of a range in a list found, and not
both_lists : (ts us : List Tree) (low high : ℤ) → with_range_of (list_of ts) (integer low) (integer high) (list_of us) ≡ or_range (ends low high (length ts)) (λ e. limited (list_of (spliced ts e.0 e.1 us)))
both_lists ts us low high =
    ap (λ xs. or_range (ends low high (length xs)) (λ e. limited (list_of (spliced xs e.0 e.1 (trees_of (elements_of us)))))) (trees_of-elements_of ts)
    ∙ ap (λ ys. or_range (ends low high (length ts)) (λ e. limited (list_of (spliced ts e.0 e.1 ys)))) (trees_of-elements_of us)

pub range_set : (ts us : List Tree) (low high : ℤ) (n a b : ℕ) → n ≡ length ts → Some (a, b) ≡ ends low high n → with_range_of (list_of ts) (integer low) (integer high) (list_of us) ≡ limited (list_of (spliced ts a b us))
range_set ts us low high n a b e p = both_lists ts us low high ∙ ap (λ o. or_range o (λ e. limited (list_of (spliced ts e.0 e.1 us)))) (sym (p ∙ ap (ends low high) e))

pub range_not_set : (ts us : List Tree) (low high : ℤ) (n : ℕ) → n ≡ length ts → None ≡ ends low high n → with_range_of (list_of ts) (integer low) (integer high) (list_of us) ≡ Err Range
range_not_set ts us low high n e p = both_lists ts us low high ∙ ap (λ o. or_range o (λ e. limited (list_of (spliced ts e.0 e.1 us)))) (sym (p ∙ ap (ends low high) e))

-- a list takes the elements of another in place of a part if both lists together are within the limits
pub range_taken : (ts us : List Tree) (low high : ℤ) (n a b : ℕ) → n ≡ length ts → Some (a, b) ≡ ends low high n → a ≤ b
    → list_weight ts + list_weight us ≤ weight_limit → max (list_depth ts) (list_depth us) ≤ depth_limit
    → (w : Tree) × (with_range_of (list_of ts) (integer low) (integer high) (list_of us) ≡ Ok w) × (weight w ≤ list_weight ts + list_weight us) × (depth w ≤ max (list_depth ts) (list_depth us))
range_taken ts us low high n a b e p order heavy deep =
    let within = spliced_within ts us a b order in
    (list_of (spliced ts a b us), range_set ts us low high n a b e p ∙ limited_within (list_of (spliced ts a b us)) (record { weight = omega (arith, within.0, heavy); depth = omega (arith, within.1, deep) }), within.0, within.1)
