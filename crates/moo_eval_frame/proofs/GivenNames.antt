-- The place of the value of a name that every frame has.
use Rattle.std.proofs.Common.{◌≡◌, ℕ, ◌<◌, ◌≤◌, Bool, true, false, not, cond, nat_lt, ◌+◌, suc, List, [], ◌∷◌, Option, Some, None, map, length, get_or, position, refl, sym, ap, ◌∙◌, arith}
use Rattle.std.proofs.Math.ListN.{set}
use Rattle.std.specs.Option.{option_map}
use Rattle.std.specs.List.{find}
use Rattle.std.specs.Str.{bytes_eq}
use Rattle.moo_value.specs.declared.value.Value.{Value}
use Rattle.moo_value.specs.Tree.{Tree}
use Rattle.moo_value.specs.Compare.{folded}
use Rattle.moo_value.specs.View.{tree}
use Rattle.moo_syntax_ast.specs.declared.given.Given.{Given}
use Rattle.moo_syntax_ast.specs.declared.given.Given.TheVariants as given
use Rattle.moo_syntax_ast.specs.Given.{given_name, all_given, given_names, given_slot, is_given, given_of}
use Rattle.moo_syntax_ast.proofs.GivenNames.{passes, same_name}
use Rattle.moo_eval_frame.specs.declared.given_values.GivenValues.{GivenValues}
use Rattle.moo_eval_slot.specs.Bindings.{bind, with_variable}
use Rattle.moo_eval_frame.specs.GivenValues.{given_values}
use Rattle.moo_eval_slot.specs.Held.{slot_value}
use Rattle.moo_eval_slot.proofs.Names.{is_own, slot_at, no_slot, unslotted}
use Rattle.moo_eval_frame.proofs.Stored.{set_slot, put_elsewhere}

-- the place of a name whose letters are folded
abbrev place : List ℕ → List (List ℕ) → Option ℕ
place n names = position (λ own. bytes_eq (folded own) n) names

place_own : (g : Given) → place (folded (given_name g)) given_names ≡ Some (given_slot g)
unfolding given_names
place_own given.Num = refl
place_own given.Int = refl
place_own given.Obj = refl
place_own given.Str = refl
place_own given.Err = refl
place_own given.List = refl
place_own given.Float = refl
place_own given.Player = refl
place_own given.This = refl
place_own given.Caller = refl
place_own given.Dobj = refl
place_own given.Iobj = refl
place_own given.Verb = refl
place_own given.Argstr = refl
place_own given.Dobjstr = refl
place_own given.Prepstr = refl
place_own given.Iobjstr = refl
place_own given.Args = refl

within : (g : Given) → given_slot g < 18
within given.Num = omega arith
within given.Int = omega arith
within given.Obj = omega arith
within given.Str = omega arith
within given.Err = omega arith
within given.List = omega arith
within given.Float = omega arith
within given.Player = omega arith
within given.This = omega arith
within given.Caller = omega arith
within given.Dobj = omega arith
within given.Iobj = omega arith
within given.Verb = omega arith
within given.Argstr = omega arith
within given.Dobjstr = omega arith
within given.Prepstr = omega arith
within given.Iobjstr = omega arith
within given.Args = omega arith

-- the place of a name that is one of them
given_place : (name : List ℕ) (g : Given) → given_of name ≡ Some g → position (is_own name) given_names ≡ Some (given_slot g)
given_place name g e =
    let same = same_name name g (passes (is_given name) g all_given e) in
    ap (λ n. place n given_names) (sym same) ∙ place_own g

-- a place in a list is one or the next ones'
next : (b : Bool) (m n : ℕ) → cond (nat_lt (cond (not b) (1 + m) 0) (suc n)) (Some (cond (not b) (1 + m) 0)) None ≡ cond b (Some 0) (option_map (λ i. 1 + i) (cond (nat_lt m n) (Some m) None))
next true m n = let w : nat_lt 0 (suc n) ≡ true = grind arith in ap (λ b. cond b (Some 0) None) w
next false m n = later (nat_lt m n) refl
  where
    later : (b : Bool) → nat_lt m n ≡ b → cond (nat_lt (1 + m) (suc n)) (Some (1 + m)) None ≡ option_map (λ i. 1 + i) (cond (nat_lt m n) (Some m) None)
    later true e = let w : nat_lt (1 + m) (suc n) ≡ true = grind (arith, e) in ap (λ t. cond t (Some (1 + m)) None) w ∙ sym (ap (λ t. option_map (λ i. 1 + i) (cond t (Some m) None)) e)
    later false e = let w : nat_lt (1 + m) (suc n) ≡ false = grind (arith, e) in ap (λ t. cond t (Some (1 + m)) None) w ∙ sym (ap (λ t. option_map (λ i. 1 + i) (cond t (Some m) None)) e)

first_or : (p : List ℕ → Bool) (x : List ℕ) (xs : List (List ℕ)) → position p (x ∷ xs) ≡ cond (p x) (Some 0) (option_map (λ i. 1 + i) (position p xs))
first_or p x xs = next (p x) _ (length xs)

-- what isn't found has no place
unfound : (b : Bool) (x : Given) (o : Option Given) (q : Option ℕ) → cond b (Some x) o ≡ None → (o ≡ None → q ≡ None) → cond b (Some 0) (option_map (λ i. 1 + i) q) ≡ None
unfound true x o q e h = absurd cc
unfound false x o q e h = ap (option_map (λ i. 1 + i)) (h e)

no_place : (p : List ℕ → Bool) (gs : List Given) → find (λ g. p (given_name g)) gs ≡ None → position p (map given_name gs) ≡ None
no_place p [] e = refl
no_place p (g ∷ gs) e = first_or p (given_name g) (map given_name gs) ∙ unfound (p (given_name g)) g (find (λ h. p (given_name h)) gs) (position p (map given_name gs)) e (no_place p gs)

-- a name that is none of them has no place
nowhere : (name : List ℕ) (n i : ℕ) → given_of name ≡ None → position (is_own name) given_names ≡ Some i → n ≤ i
unfolding given_names
nowhere name n i e at = let bad : ◌≡◌ {A = Option ℕ} None (Some i) = sym (no_place (is_own name) all_given e) ∙ at in absurd cc

module _ (v : GivenValues) (elsewhere : List ℕ → Option Tree) (name : List ℕ) (g : Given) (is : given_of name ≡ Some g) (x : Value) where
  -- the value of a name that every frame has
  pub given_at : Some x ≡ get_or (given_values v) (given_slot g) None → Some (tree x) ≡ slot_value given_names (given_values v) elsewhere (folded name)
  given_at at = ap (option_map (λ y. tree y)) at ∙ sym (slot_at name given_names (given_values v) elsewhere None (given_slot g) (given_place name g is) (within g))

  -- once it is set
  pub given_set : slot_value given_names (set (given_values v) (given_slot g) (Some x)) elsewhere ≡ with_variable (slot_value given_names (given_values v) elsewhere) (bind name (tree x))
  given_set = set_slot name x given_names (given_values v) elsewhere (given_slot g) (given_place name g is) (within g)

module _ (v : GivenValues) (elsewhere : List ℕ → Option Tree) (name : List ℕ) (is : given_of name ≡ None) where
  -- the value of another name
  pub other_at : elsewhere (folded name) ≡ slot_value given_names (given_values v) elsewhere (folded name)
  other_at = sym (no_slot name given_names (given_values v) elsewhere (λ i at. nowhere name 18 i is at))

  -- once it is set
  pub other_set : (x : Tree) → slot_value given_names (given_values v) (with_variable elsewhere (bind name x)) ≡ with_variable (slot_value given_names (given_values v) elsewhere) (bind name x)
  other_set x = λ j n. put_elsewhere name n x given_names (given_values v) elsewhere (unslotted (is_own name) given_names 18 (λ i at. nowhere name 18 i is at)) j
