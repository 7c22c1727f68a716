-- Changes of verbs keep a world well formed.
use Rattle.std.proofs.Common.{◌≡◌, ℕ, zero, suc, ◌<◌, List, [], ◌∷◌, Option, None, Some, Bool, true, false, cond, ltb, refl, ap, arith, length, get_or, take, drop, IsSome, FitsSigned, w32}
use Rattle.std.specs.List.{All}
use Rattle.std.specs.Option.{unwrap_or}
use Rattle.std.proofs.lemmas.List.{length_push, length-append, length-take, length-drop, get_or_read}
use Rattle.std.proofs.lemmas.List.Elements.{All-push, All-append, All-take, All-drop, All-cons, All-head, All-tail}
use Rattle.std.proofs.lemmas.Bool.{ltb-true}
use Rattle.moo_value.specs.Size.{IsString}
use Rattle.moo_value.specs.declared.error_code.ErrorCode.{ErrorCode}
use Rattle.moo_value.specs.declared.error_code.ErrorCode.TheVariants.{InvalidArgument, VerbNotFound, Quota}
use Rattle.moo_world_object.specs.Objects.{Object}
use Rattle.moo_world_object.specs.Verbs.{changed_at}
use Rattle.moo_world_object.specs.declared.verb.Verb.{Verb}
use Rattle.moo_world_table.specs.World.{nothing, object_of, thing_of, most}
use Rattle.moo_world_table.specs.Changes.{with_verb, without_verb, with_changed_verb}
use Rattle.moo_world_table.proofs.Changing.{valid_within}
use Rattle.moo_world_table.proofs.Single.{KeepsShape}

abbrev pub IsNamed : Verb → Type 0
IsNamed v = IsString v.names

abbrev pub IsOwned : Verb → Type 0
IsOwned v = FitsSigned w32 v.owner

pub verb_added : (x : ℕ) (v : Verb) (o : Object) → IsString v.names → FitsSigned w32 v.owner → length o.verbs < most → KeepsShape x (with_verb v) o
verb_added x v o named owned room = record {
  keys = refl;
  names = refl;
  filled = λ h. h;
  fine = λ h. record {
    name = h.name;
    names = h.names;
    values = h.values;
    few_cells = h.few_cells;
    verb_names = All-push IsNamed o.verbs v h.verb_names named;
    few_verbs = let more = length_push o.verbs v in omega (arith, more);
    numbers = record { owner = h.numbers.owner; cells = h.numbers.cells; verbs = All-push IsOwned o.verbs v h.numbers.verbs owned };
  };
}

pub verb_removed : (x i : ℕ) (o : Object) → KeepsShape x (without_verb i) o
verb_removed x i o = record {
  keys = refl;
  names = refl;
  filled = λ h. h;
  fine = λ h. record {
    name = h.name;
    names = h.names;
    values = h.values;
    few_cells = h.few_cells;
    verb_names = All-append IsNamed (take i o.verbs) (drop (suc i) o.verbs) (All-take IsNamed i o.verbs h.verb_names) (All-drop IsNamed (suc i) o.verbs h.verb_names);
    few_verbs =
        let all = length-append (take i o.verbs) (drop (suc i) o.verbs) in
        let front = length-take i o.verbs in
        let back = length-drop (suc i) o.verbs in
        let few = h.few_verbs in
        omega (arith, all, front, back, few);
    numbers = record {
      owner = h.numbers.owner;
      cells = h.numbers.cells;
      verbs = All-append IsOwned (take i o.verbs) (drop (suc i) o.verbs) (All-take IsOwned i o.verbs h.numbers.verbs) (All-drop IsOwned (suc i) o.verbs h.numbers.verbs);
    };
  };
}

changed_length : (i : ℕ) (f : Verb → Verb) (vs : List Verb) → length (changed_at i f vs) ≡ length vs
changed_length i f [] = refl
changed_length zero f (v ∷ vs) = refl
changed_length (suc i) f (v ∷ vs) = ap (λ n. suc n) (changed_length i f vs)

changed_all : (P : Verb → Type 0) (i : ℕ) (f : Verb → Verb) (vs : List Verb) → ((v : Verb) → P v → P (f v)) → All P vs → All P (changed_at i f vs)
changed_all P i f [] each all = all
changed_all P zero f (v ∷ vs) each all = All-cons P (f v) vs (each v (All-head P v vs all)) (All-tail P v vs all)
changed_all P (suc i) f (v ∷ vs) each all = All-cons P v (changed_at i f vs) (All-head P v vs all) (changed_all P i f vs each (All-tail P v vs all))

pub verb_changed : (x i : ℕ) (f : Verb → Verb) (o : Object) → ((v : Verb) → IsNamed v → IsNamed (f v)) → ((v : Verb) → IsOwned v → IsOwned (f v)) → KeepsShape x (with_changed_verb i f) o
verb_changed x i f o each owned = record {
  keys = refl;
  names = refl;
  filled = λ h. h;
  fine = λ h. record {
    name = h.name;
    names = h.names;
    values = h.values;
    few_cells = h.few_cells;
    verb_names = changed_all IsNamed i f o.verbs each h.verb_names;
    few_verbs = let same = changed_length i f o.verbs in let few = h.few_verbs in omega (arith, same, few);
    numbers = record { owner = h.numbers.owner; cells = h.numbers.cells; verbs = changed_all IsOwned i f o.verbs owned h.numbers.verbs };
  };
}

-- what the code reads
pub thing_read : (objects : List (Option Object)) (x : ℕ) (read : Option Object) → IsSome (object_of objects x) → read ≡ get_or objects x read → unwrap_or read nothing ≡ thing_of objects x
thing_read objects x read valid is = ap (λ o. unwrap_or o nothing) (get_or_read objects x read (valid_within objects x valid) is None)

-- what nothing was raised for
pub verb_free : (n m : ℕ) → ◌≡◌ {A = Option ErrorCode} (cond (ltb n m) None (Some VerbNotFound)) None → n < m
verb_free n m h = below (ltb n m) refl h
  where
    below : (b : Bool) → ltb n m ≡ b → ◌≡◌ {A = Option ErrorCode} (cond b None (Some VerbNotFound)) None → n < m
    below true e h = ltb-true n m e
    below false e h = cc

pub info_free : (n m : ℕ) (word : Bool) → ◌≡◌ {A = Option ErrorCode} (cond (ltb n m) (cond word None (Some InvalidArgument)) (Some VerbNotFound)) None → n < m
info_free n m word h = below (ltb n m) refl h
  where
    below : (b : Bool) → ltb n m ≡ b → ◌≡◌ {A = Option ErrorCode} (cond b (cond word None (Some InvalidArgument)) (Some VerbNotFound)) None → n < m
    below true e h = ltb-true n m e
    below false e h = cc

pub room_free : (n : ℕ) (word : Bool) → ◌≡◌ {A = Option ErrorCode} (cond word (cond (ltb n most) None (Some Quota)) (Some InvalidArgument)) None → n < most
room_free n false h = cc
room_free n true h = below (ltb n most) refl h
  where
    below : (b : Bool) → ltb n most ≡ b → ◌≡◌ {A = Option ErrorCode} (cond b None (Some Quota)) None → n < most
    below true e h = ltb-true n most e
    below false e h = cc
