-- What a variable is once it is set.
use Rattle.std.proofs.Common.{◌≡◌, ℕ, zero, suc, ◌<◌, Bool, true, false, cond, List, [], ◌∷◌, ◌++◌, ◌≤◌, Option, Some, map, length, reverse, get_or, position, refl, sym, ap, ◌∙◌, arith}
use Rattle.std.proofs.Math.ListN.{set}
use Rattle.std.specs.Option.{option_map}
use Rattle.std.specs.Str.{bytes_eq}
use Rattle.std.proofs.lemmas.Slice.Eq.{bytes_eq-Decides}
use Rattle.std.proofs.lemmas.Bool.Decides.{not_from_Decides}
use Rattle.std.proofs.lemmas.List.{reverse-append}
use Rattle.std.proofs.lemmas.List.Quantifiers.{position-Some}
use Rattle.moo_eval_frame.specs.declared.variables.Variable.{Variable}
use Rattle.moo_value.specs.declared.value.Value.{Value}
use Rattle.moo_value.specs.Tree.{Tree}
use Rattle.moo_value.specs.Compare.{folded}
use Rattle.moo_value.specs.View.{tree}
use Rattle.moo_eval_frame.specs.Variables.{with_all}
use Rattle.moo_eval_slot.specs.Bindings.{Binding, bind, with_variable, value_of_name}
use Rattle.moo_eval_frame.specs.Seen.{binding_of, value_among}
use Rattle.moo_eval_slot.specs.Held.{slot_value}
use Rattle.moo_eval_slot.proofs.Names.{is_own, first_name, unslotted}

-- names that compare as the same are the same
same_text : (a b : List ℕ) → bytes_eq a b ≡ true → a ≡ b
same_text a b h = (bytes_eq-Decides a b).0 h

pub one_test : (a : Bool) (x y z : Option Tree) → cond a x (cond a y z) ≡ cond a x z
one_test true x y z = refl
one_test false x y z = refl

pub two_tests : (a b : Bool) (x y z : Option Tree) → (a ≡ true → b ≡ true → ⊥) → cond a x (cond b y z) ≡ cond b y (cond a x z)
two_tests true true x y z h = absurd (h refl refl)
two_tests true false x y z h = refl
two_tests false true x y z h = refl
two_tests false false x y z h = refl

-- two names that aren't the same don't both have a third
pub apart : (name other n : List ℕ) → bytes_eq (folded other) (folded name) ≡ false → bytes_eq (folded name) n ≡ true → bytes_eq (folded other) n ≡ true → ⊥
apart name other n d e f = not_from_Decides _ (bytes_eq-Decides (folded other) (folded name)) d (same_text (folded other) n f ∙ sym (same_text (folded name) n e))

put_at : (name n : List ℕ) (v : Value) (slots : List (List ℕ)) (values : List (Option Value)) (elsewhere : List ℕ → Option Tree) (i : ℕ) → i < length slots → i < length values → is_own name (get_or slots i []) ≡ true → ((k : ℕ) → k < i → is_own name (get_or slots k []) ≡ false) → slot_value slots (set values i (Some v)) elsewhere n ≡ cond (bytes_eq (folded name) n) (Some (tree v)) (slot_value slots values elsewhere n)
put_at name n v [] values elsewhere i g h p a = absurd (omega arith)
put_at name n v (own ∷ slots) [] elsewhere i g h p a = absurd (omega arith)
put_at name n v (own ∷ slots) (x ∷ values) elsewhere zero g h p a =
    let old = option_map (λ y. tree y) x in
    ap (λ m. cond (bytes_eq m n) (Some (tree v)) (slot_value slots values elsewhere n)) (same_text (folded own) (folded name) p)
    ∙ sym (one_test (bytes_eq (folded name) n) (Some (tree v)) old (slot_value slots values elsewhere n))
    ∙ ap (λ m. cond (bytes_eq (folded name) n) (Some (tree v)) (cond (bytes_eq m n) old (slot_value slots values elsewhere n))) (sym (same_text (folded own) (folded name) p))
put_at name n v (own ∷ slots) (x ∷ values) elsewhere (suc i) g h p a =
    let old = option_map (λ y. tree y) x in
    ap (cond (bytes_eq (folded own) n) old) (put_at name n v slots values elsewhere i (omega (arith, g)) (omega (arith, h)) p (λ k l. a (suc k) (omega (arith, l))))
    ∙ sym (two_tests (bytes_eq (folded name) n) (bytes_eq (folded own) n) (Some (tree v)) old (slot_value slots values elsewhere n) (apart name own n (a 0 (omega arith))))

-- A name with a slot is set there.
pub set_slot : (name : List ℕ) (v : Value) (slots : List (List ℕ)) (values : List (Option Value)) (elsewhere : List ℕ → Option Tree) (i : ℕ) → position (is_own name) slots ≡ Some i → i < length values → slot_value slots (set values i (Some v)) elsewhere ≡ with_variable (slot_value slots values elsewhere) (bind name (tree v))
set_slot name v slots values elsewhere i e h =
    let p = position-Some (is_own name) slots i [] e in
    λ j n. put_at name n v slots values elsewhere i p.0 h p.1 p.2 j

pub put_elsewhere : (name n : List ℕ) (v : Tree) (slots : List (List ℕ)) (values : List (Option Value)) (elsewhere : List ℕ → Option Tree) → ((k : ℕ) → k < length slots → k < length values → is_own name (get_or slots k []) ≡ false) → slot_value slots values (with_variable elsewhere (bind name v)) n ≡ cond (bytes_eq (folded name) n) (Some v) (slot_value slots values elsewhere n)
put_elsewhere name n v [] values elsewhere a = refl
put_elsewhere name n v (own ∷ slots) [] elsewhere a = refl
put_elsewhere name n v (own ∷ slots) (x ∷ values) elsewhere a =
    let old = option_map (λ y. tree y) x in
    ap (cond (bytes_eq (folded own) n) old) (put_elsewhere name n v slots values elsewhere (λ k l m. a (suc k) (omega (arith, l)) (omega (arith, m))))
    ∙ sym (two_tests (bytes_eq (folded name) n) (bytes_eq (folded own) n) (Some v) old (slot_value slots values elsewhere n) (apart name own n (a 0 (omega arith) (omega arith))))

-- A name without a slot is set among the others, as the newest.
pub set_elsewhere : (name : List ℕ) (row : Variable) (slots : List (List ℕ)) (values : List (Option Value)) (others : List Variable) → row.name ≡ name → ((i : ℕ) → position (is_own name) slots ≡ Some i → length values ≤ i) → slot_value slots values (value_among (others ++ row ∷ [])) ≡ with_variable (slot_value slots values (value_among others)) (bind name (tree row.value))
set_elsewhere name row slots values others same h =
    ap (λ rows. slot_value slots values (value_of_name (map binding_of rows))) (reverse-append others (row ∷ []))
    ∙ ap (slot_value slots values) (sym (first_name (binding_of row) (map binding_of (reverse others))))
    ∙ ap (λ x. slot_value slots values (with_variable (value_among others) (bind x (tree row.value)))) same
    ∙ (λ j n. put_elsewhere name n (tree row.value) slots values (value_among others) (unslotted (is_own name) slots (length values) h) j)

pub with_all_append : (vars : List ℕ → Option Tree) (bs cs : List Binding) → with_all vars (bs ++ cs) ≡ with_all (with_all vars bs) cs
with_all_append vars [] cs = refl
with_all_append vars (b ∷ bs) cs = with_all_append (with_variable vars b) bs cs
