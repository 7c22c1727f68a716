-- How a variable is looked for.
use Rattle.std.proofs.Common.{◌≡◌, ℕ, zero, suc, ◌<◌, ◌≤◌, Bool, true, false, cond, List, [], ◌∷◌, Option, Some, None, Decides, length, get_or, position, map, refl, sym, ap, ◌∙◌, arith}
use Rattle.std.specs.Option.{option_map}
use Rattle.std.specs.List.{find, position_or_len}
use Rattle.std.specs.Str.{bytes_eq}
use Rattle.std.proofs.lemmas.Bool.{ltb-false}
use Rattle.std.proofs.lemmas.Bool.Decides.{same_from_decides}
use Rattle.std.proofs.lemmas.List.Quantifiers.{position-Some}
use Rattle.std.proofs.lemmas.List.Sums.{fails_before_first}
use Rattle.std.proofs.lemmas.Slice.Eq.{bytes_eq-Decides}
use Rattle.moo_value.specs.declared.value.Value.{Value}
use Rattle.moo_value.specs.Tree.{Tree}
use Rattle.moo_value.specs.Compare.{folded}
use Rattle.moo_value.specs.View.{tree}
use Rattle.moo_eval_slot.specs.Bindings.{Binding, with_variable, value_of_name}
use Rattle.moo_eval_slot.specs.Held.{slot_value}

-- the program's name is this one
abbrev pub is_own : List ℕ → List ℕ → Bool
is_own name own = bytes_eq (folded own) (folded name)

pub split : (b : Bool) (x : Binding) (o : Option Binding) → option_map (λ y. y.value) (cond b (Some x) o) ≡ cond b (Some x.value) (option_map (λ y. y.value) o)
split true x o = refl
split false x o = refl

-- a binding before others
pub first_name : (b : Binding) (bs : List Binding) → with_variable (value_of_name bs) b ≡ value_of_name (b ∷ bs)
first_name b bs = λ j n. sym (split (bytes_eq (folded b.name) n) b (find (λ x. bytes_eq (folded x.name) n) bs)) j

-- what the comparison of two names answers
pub named : (b : Bool) (r n a d : List ℕ) → a ≡ r → d ≡ n → Decides b (folded a ≡ folded d) → b ≡ bytes_eq (folded r) (folded n)
named b r n a d p q h = same_from_decides b (bytes_eq (folded r) (folded n)) (rw (p, q) at h) (bytes_eq-Decides (folded r) (folded n))

-- what has no place is nowhere
no_place : {X : Type 0} (b : Bool) (x : X) → cond b (Some x) None ≡ None → b ≡ false
no_place true x h = absurd cc
no_place false x h = refl

either : (b : Bool) → ◌≡◌ {A = Option Tree} (cond b None None) None
either true = refl
either false = refl

-- A name whose slot is not among the first n is none of these.
unslotted_at : (P : List ℕ → Bool) (slots : List (List ℕ)) (n : ℕ) (o : Option ℕ) → position P slots ≡ o → ((i : ℕ) → position P slots ≡ Some i → n ≤ i) → (k : ℕ) → k < length slots → k < n → P (get_or slots k []) ≡ false
unslotted_at P slots n (Some i) e h k l m = let q = h i e in (position-Some P slots i [] e).2 k (omega (arith, q, m))
unslotted_at P slots n None e h k l m = fails_before_first P slots k [] (omega (arith, l, ltb-false _ _ (no_place _ (position_or_len P slots) e)))

pub unslotted : (P : List ℕ → Bool) (slots : List (List ℕ)) (n : ℕ) → ((i : ℕ) → position P slots ≡ Some i → n ≤ i) → (k : ℕ) → k < length slots → k < n → P (get_or slots k []) ≡ false
unslotted P slots n h = unslotted_at P slots n (position P slots) refl h

value_at : (name : List ℕ) (slots : List (List ℕ)) (values : List (Option Value)) (elsewhere : List ℕ → Option Tree) (d : Option Value) (i : ℕ) → i < length slots → i < length values → is_own name (get_or slots i []) ≡ true → ((k : ℕ) → k < i → is_own name (get_or slots k []) ≡ false) → slot_value slots values elsewhere (folded name) ≡ option_map (λ v. tree v) (get_or values i d)
value_at name [] values elsewhere d i g h p a = absurd (omega arith)
value_at name (own ∷ slots) [] elsewhere d i g h p a = absurd (omega arith)
value_at name (own ∷ slots) (x ∷ values) elsewhere d zero g h p a = ap (λ b. cond b (option_map (λ v. tree v) x) (slot_value slots values elsewhere (folded name))) p
value_at name (own ∷ slots) (x ∷ values) elsewhere d (suc i) g h p a =
    ap (λ b. cond b (option_map (λ v. tree v) x) (slot_value slots values elsewhere (folded name))) (a 0 (omega arith))
    ∙ value_at name slots values elsewhere d i (omega (arith, g)) (omega (arith, h)) p (λ k l. a (suc k) (omega (arith, l)))

-- what a name has by its slot
pub slot_at : (name : List ℕ) (slots : List (List ℕ)) (values : List (Option Value)) (elsewhere : List ℕ → Option Tree) (d : Option Value) (i : ℕ) → position (is_own name) slots ≡ Some i → i < length values → slot_value slots values elsewhere (folded name) ≡ option_map (λ v. tree v) (get_or values i d)
slot_at name slots values elsewhere d i e h = let p = position-Some (is_own name) slots i [] e in value_at name slots values elsewhere d i p.0 h p.1 p.2

nothing_at : (name : List ℕ) (slots : List (List ℕ)) (values : List (Option Value)) (elsewhere : List ℕ → Option Tree) → ((k : ℕ) → k < length slots → k < length values → is_own name (get_or slots k []) ≡ false) → slot_value slots values elsewhere (folded name) ≡ elsewhere (folded name)
nothing_at name [] values elsewhere a = refl
nothing_at name (own ∷ slots) [] elsewhere a = refl
nothing_at name (own ∷ slots) (x ∷ values) elsewhere a =
    ap (λ b. cond b (option_map (λ v. tree v) x) (slot_value slots values elsewhere (folded name))) (a 0 (omega arith) (omega arith))
    ∙ nothing_at name slots values elsewhere (λ k l m. a (suc k) (omega (arith, l)) (omega (arith, m)))

-- what a name without a slot has
pub no_slot : (name : List ℕ) (slots : List (List ℕ)) (values : List (Option Value)) (elsewhere : List ℕ → Option Tree) → ((i : ℕ) → position (is_own name) slots ≡ Some i → length values ≤ i) → slot_value slots values elsewhere (folded name) ≡ elsewhere (folded name)
no_slot name slots values elsewhere h = nothing_at name slots values elsewhere (unslotted (is_own name) slots (length values) h)

-- a name that isn't among these has no slot before any number
pub is_nowhere : (name : List ℕ) (slots : List (List ℕ)) (values : List (Option Value)) → position (is_own name) slots ≡ None → (i : ℕ) → position (is_own name) slots ≡ Some i → length values ≤ i
is_nowhere name slots values none i e = let both : ◌≡◌ {A = Option ℕ} None (Some i) = sym none ∙ e in absurd cc

pub without_slot : (name : List ℕ) (slots : List (List ℕ)) (values : List (Option Value)) (elsewhere : List ℕ → Option Tree) → position (is_own name) slots ≡ None → slot_value slots values elsewhere (folded name) ≡ elsewhere (folded name)
without_slot name slots values elsewhere none = no_slot name slots values elsewhere (is_nowhere name slots values none)

-- if no slot has a value
nothing_set : (slots names : List (List ℕ)) (n : List ℕ) → slot_value slots (map (λ name. None) names) (value_of_name []) n ≡ None
nothing_set [] names n = refl
nothing_set (own ∷ slots) [] n = refl
nothing_set (own ∷ slots) (m ∷ names) n = ap (cond (bytes_eq (folded own) n) None) (nothing_set slots names n) ∙ either (bytes_eq (folded own) n)

pub unset_all : (slots : List (List ℕ)) → slot_value slots (map (λ name. None) slots) (value_of_name []) ≡ value_of_name []
unset_all slots = λ j n. nothing_set slots slots n j
