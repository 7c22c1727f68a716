-- Places in lists.
use Rattle.std.proofs.Common.{◌≡◌, ℕ, zero, suc, ◌+◌, ◌-◌, ◌<◌, ◌≤◌, ℤ, pos, negsuc, Option, IfSome, List, [], ◌∷◌, length, add-one, take, drop, get_or, map, Bool, true, false, cond, Some, None, refl, sym, ap, ◌∙◌, arith, ltb, Ok, Err}
use Rattle.std.specs.Prelude.{slice_get, slice_range, position, int_lt, int_le, unsigned_abs, ◌&&◌, option_map, not}
use Rattle.std.specs.List.{prefix_len}
use Rattle.std.proofs.lemmas.Option.{cond_some, slice_get_past, slice_get-map, slice_get_read, slice_get-get_or}
use Rattle.std.proofs.lemmas.List.{length-map}
use Rattle.std.proofs.lemmas.Bool.Decides.{nat_tests}
use Rattle.moo_value.specs.declared.error_code.ErrorCode.TheVariants.{Range}
use Rattle.moo_value.specs.declared.value.Value.{Value}
use Rattle.moo_value.specs.Tree.{Tree, integer, object, error, string, list, list_of}
use Rattle.moo_value.specs.TreeCode.{trees_of-elements_of}
use Rattle.moo_value.specs.Size.{list_weight, weight, weight_limit, IsWithinLimits}
use Rattle.moo_value.specs.View.{tree, trees}
use Rattle.moo_builtin_operator.specs.Truth.{equal}
use Rattle.moo_builtin_operator.specs.Comparison.{place_in, place_value}
use Rattle.moo_builtin_operator.specs.Places.{or_range, at_place, part, index_of, range_of}
use Rattle.moo_builtin_operator.specs.Assignment.{before_place}
use Rattle.moo_builtin_operator.specs.Bounds.{bounds}

-- a list has fewer elements than it weighs
weight-positive : (t : Tree) → 1 ≤ weight t
weight-positive (integer i) = omega arith
weight-positive (object o) = omega arith
weight-positive (error e) = omega arith
weight-positive (string s) = omega arith
weight-positive (list es) = omega arith

pub length-lt-weight : (ts : List Tree) → length ts < list_weight ts
length-lt-weight [] = omega arith
length-lt-weight (t ∷ ts) = omega (arith, length-lt-weight ts, weight-positive t)

pub length-trees : (vs : List Value) (ts : List Tree) → trees vs ≡ ts → length vs ≡ length ts
length-trees vs ts e = sym (length-map vs tree) ∙ ap length e

pub length_limit : (vs : List Value) (ts : List Tree) → trees vs ≡ ts → IsWithinLimits (list_of ts) → length vs < weight_limit
length_limit vs ts e limits = omega (arith, length-trees vs ts e, length-lt-weight ts, limits.weight)

-- places
pub at_place-some : {X : Type 0} (xs : List X) (i : ℤ) (k : ℕ) → Some k ≡ before_place i (length xs) → at_place xs i ≡ slice_get xs k
at_place-some xs (pos zero) k h = cc
at_place-some xs (pos (suc j)) k h = ap (slice_get xs) (cond_some _ _ _ (sym h)).1
at_place-some xs (negsuc m) k h = cc

within-or_none : {X : Type 0} (xs : List X) (j : ℕ) (b : Bool) → b ≡ ltb j (length xs) → None ≡ cond b (Some j) None → slice_get xs j ≡ None
within-or_none xs j true e h = cc
within-or_none xs j false e h = slice_get_past xs j (grind (arith, nat_tests))

pub at_place-none : {X : Type 0} (xs : List X) (i : ℤ) → None ≡ before_place i (length xs) → at_place xs i ≡ None
at_place-none xs (pos zero) h = refl
at_place-none xs (pos (suc j)) h = within-or_none xs j (ltb j (length xs)) refl h
at_place-none xs (negsuc m) h = refl

part_cases : {X : Type 0} (xs : List X) (a b : ℕ) (p q : Bool) → cond p (Some []) (cond q (Some (slice_range xs a b)) None) ≡ option_map (λ (b : ℕ × ℕ). slice_range xs b.0 b.1) (cond p (Some (0, 0)) (cond q (Some (a, b)) None))
part_cases xs a b true q = refl
part_cases xs a b false true = refl
part_cases xs a b false false = refl

pub part-bounds : {X : Type 0} (xs : List X) (low high : ℤ) → part xs low high ≡ option_map (λ (b : ℕ × ℕ). slice_range xs b.0 b.1) (bounds low high (length xs))
part-bounds xs low high = part_cases xs (unsigned_abs low - 1) (unsigned_abs high) (int_lt high low) (int_le (pos 1) low && int_le high (pos (length xs)))

-- the first place of an element
prefix_len-map : {X Y : Type 0} (f : X → Y) (p : Y → Bool) (xs : List X) → prefix_len p (map f xs) ≡ prefix_len (λ x. p (f x)) xs
prefix_len-map f p [] = refl
prefix_len-map f p (x ∷ xs) = ap (λ n. cond (p (f x)) (1 + n) 0) (prefix_len-map f p xs)

pub position-map : {X Y : Type 0} (f : X → Y) (p : Y → Bool) (xs : List X) → position p (map f xs) ≡ position (λ x. p (f x)) xs
position-map f p xs = rw (prefix_len-map f (λ y. not (p y)) xs, length-map xs f) refl

pub place_found : (t : Tree) (vs : List Value) (ts : List Tree) (k : ℕ) → trees vs ≡ ts → Some k ≡ position (λ v. equal t (tree v)) vs → place_in t (list_of ts) ≡ Ok (integer (pos (k + 1)))
place_found t vs ts k e h = ap (λ us. Ok (place_value (position (equal t) us))) (trees_of-elements_of ts ∙ sym e) ∙ ap (λ p. Ok (place_value p)) (position-map tree (equal t) vs ∙ sym h) ∙ rw add-one refl

pub place_missed : (t : Tree) (vs : List Value) (ts : List Tree) → trees vs ≡ ts → None ≡ position (λ v. equal t (tree v)) vs → place_in t (list_of ts) ≡ Ok (integer (pos 0))
place_missed t vs ts e h = ap (λ us. Ok (place_value (position (equal t) us))) (trees_of-elements_of ts ∙ sym e) ∙ ap (λ p. Ok (place_value p)) (position-map tree (equal t) vs ∙ sym h)

-- an index
one_byte : (s : List ℕ) (k b : ℕ) → slice_get s k ≡ Some b → slice_range s k (k + 1) ≡ b ∷ []
one_byte [] k b h = cc
one_byte (c ∷ s) zero b h = let same : c ≡ b = cc in ap (λ x. x ∷ []) same
one_byte (c ∷ s) (suc k) b h = let one : suc k + 1 - suc k ≡ k + 1 - k = omega arith in ap (λ n. take n (drop k s)) one ∙ one_byte s k b h

pub index_in_text : (s : List ℕ) (i : ℤ) (k n : ℕ) → n ≡ length s → k < n → Some k ≡ before_place i n → index_of (string s) (integer i) ≡ Ok (string (slice_range s k (k + 1)))
index_in_text s i k n e h p =
    let there : slice_get s k ≡ Some (get_or s k 0) = slice_get-get_or s k 0 (omega arith) in
    ap (λ t. or_range t (λ b. Ok (string (b ∷ [])))) (at_place-some s i k (p ∙ ap (before_place i) e) ∙ there)
    ∙ ap (λ x. Ok (string x)) (sym (one_byte s k (get_or s k 0) there))

pub index_past_text : (s : List ℕ) (i : ℤ) (n : ℕ) → n ≡ length s → None ≡ before_place i n → index_of (string s) (integer i) ≡ Err Range
index_past_text s i n e p = ap (λ t. or_range t (λ b. Ok (string (b ∷ [])))) (at_place-none s i (p ∙ ap (before_place i) e))

pub index_past_list : (ts : List Tree) (i : ℤ) (n : ℕ) → n ≡ length ts → None ≡ before_place i n → index_of (list_of ts) (integer i) ≡ Err Range
index_past_list ts i n e p =
    ap (λ us. or_range (at_place us i) (λ t. Ok t)) (trees_of-elements_of ts)
    ∙ ap (λ t. or_range t (λ t. Ok t)) (at_place-none ts i (p ∙ ap (before_place i) e))

pub index_in_list : (vs : List Value) (ts : List Tree) (i : ℤ) (k n : ℕ) (v : Value) → trees vs ≡ ts → n ≡ length ts → k < n → Some k ≡ before_place i n → v ≡ get_or vs k v → index_of (list_of ts) (integer i) ≡ Ok (tree v)
index_in_list vs ts i k n v e long h p v_is =
    let there : slice_get vs k ≡ Some v = slice_get_read vs n k v (omega (arith, long, length-trees vs ts e)) h v_is in
    let found : slice_get ts k ≡ Some (tree v) = ap (λ us. slice_get us k) (sym e) ∙ slice_get-map tree vs k ∙ ap (option_map tree) there in
    ap (λ us. or_range (at_place us i) (λ t. Ok t)) (trees_of-elements_of ts)
    ∙ ap (λ t. or_range t (λ t. Ok t)) (at_place-some ts i k (p ∙ ap (before_place i) long) ∙ found)

-- a range
pub range_past_list : (ts : List Tree) (low high : ℤ) (n : ℕ) → n ≡ length ts → None ≡ bounds low high n → range_of (list_of ts) (integer low) (integer high) ≡ Err Range
range_past_list ts low high n e p =
    ap (λ us. or_range (part us low high) (λ us. Ok (list_of us))) (trees_of-elements_of ts)
    ∙ ap (λ x. or_range x (λ us. Ok (list_of us))) (part-bounds ts low high)
    ∙ ap (λ x. or_range (option_map (λ (b : ℕ × ℕ). slice_range ts b.0 b.1) x) (λ us. Ok (list_of us))) (sym (p ∙ ap (bounds low high) e))

pub range_in_list : (ts : List Tree) (low high : ℤ) (n a b : ℕ) → n ≡ length ts → Some (a, b) ≡ bounds low high n → range_of (list_of ts) (integer low) (integer high) ≡ Ok (list_of (slice_range ts a b))
range_in_list ts low high n a b e p =
    ap (λ us. or_range (part us low high) (λ us. Ok (list_of us))) (trees_of-elements_of ts)
    ∙ ap (λ x. or_range x (λ us. Ok (list_of us))) (part-bounds ts low high)
    ∙ ap (λ x. or_range (option_map (λ (b : ℕ × ℕ). slice_range ts b.0 b.1) x) (λ us. Ok (list_of us))) (sym (p ∙ ap (bounds low high) e))

pub list_part_bounds : (ts : List Tree) (low high : ℤ) (n : ℕ) (found : Option (ℕ × ℕ)) → n ≡ length ts → found ≡ bounds low high n → IfSome found (λ b. range_of (list_of ts) (integer low) (integer high) ≡ Ok (list_of (slice_range ts b.0 b.1)))
list_part_bounds ts low high n None e p = tt
list_part_bounds ts low high n (Some (a, b)) e p = range_in_list ts low high n a b e p
