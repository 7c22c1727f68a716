-- Reading and writing the value of a property.
use Rattle.std.proofs.Common.{◌≡◌, ℕ, List, [], ◌∷◌, Option, Some, None, refl, sym, ◌∙◌, ap, ⊎_elim, arith, length, get_or, map, IsSome, slice_get, FitsSigned, w32}
use Rattle.std.specs.List.{find, All}
use Rattle.std.specs.Option.{option_map, unwrap_or}
use Rattle.std.proofs.lemmas.List.{get_or_read, length-map}
use Rattle.std.proofs.lemmas.List.Elements.{All-cons, All-head, All-tail}
use Rattle.std.proofs.lemmas.Bool.{cases_Bool}
use Rattle.moo_value.specs.Tree.{Tree}
use Rattle.moo_value.specs.Size.{IsStored}
use Rattle.moo_world_object.specs.Names.{same_name}
use Rattle.moo_world_object.specs.Cells.{Cell, Key, key_of, cell_named, with_value}
use Rattle.moo_world_object.specs.Objects.{Object}
use Rattle.moo_world_object.proofs.Names.{same_name-true}
use Rattle.moo_world_table.specs.World.{World, nothing, object_of, thing_of, IsFilled, HasStored, IsWellFormed}
use Rattle.moo_world_table.specs.Changes.{with_value_of}
use Rattle.moo_world_table.specs.Properties.{definition_named, read, values_above}
use Rattle.moo_world_table.proofs.Changing.{valid_within}
use Rattle.moo_world_table.proofs.Single.{KeepsShape}

-- a name found in the definitions is that of the first cell with the name
pub definition_found : (name : List ℕ) (cells : List Cell) → find (λ (k : Key). same_name k.1 name) (map key_of cells) ≡ option_map (λ d. (let k : Key = (d, name) in k)) (option_map (λ (c : Cell). c.definer) (cell_named cells name))
definition_found name [] = refl
definition_found name (c ∷ cs) =
    ⊎_elim (λ e. let same = same_name-true c.name name e in rw e (ap (λ n. Some (let k : Key = (c.definer, n) in k)) same)) (λ e. rw e (definition_found name cs)) (cases_Bool (same_name c.name name))

-- what the code finds is the definition of the name
pub definition_is : (w : World) (x : ℕ) (name : List ℕ) (o : Option Object) (found : Option ℕ) → IsWellFormed w → IsSome (object_of w.objects x) → o ≡ get_or w.objects x o →
    found ≡ option_map (λ (c : Cell). c.definer) (cell_named (unwrap_or o nothing).cells name) → option_map (λ d. (let k : Key = (d, name) in k)) found ≡ definition_named w x name
definition_is w x name o found f valid read_is is =
    let at = get_or_read w.objects x o (valid_within w.objects x valid) read_is None in
    ap (option_map (λ d. (let k : Key = (d, name) in k))) (is ∙ ap (λ p. option_map (λ (c : Cell). c.definer) (cell_named (unwrap_or p nothing).cells name)) at) ∙
    sym (definition_found name (thing_of w.objects x).cells) ∙ ap (find (λ (k : Key). same_name k.1 name)) (f.stocked.exact_cells x)

pub nothing_read : (w : World) (x : ℕ) (name : List ℕ) → None ≡ definition_named w x name → None ≡ read w x name
nothing_read w x name is = rw (← is) refl

pub nearest_read : (w : World) (x : ℕ) (name : List ℕ) (k : Key) (r : Option Tree) → Some k ≡ definition_named w x name → r ≡ slice_get (values_above w.objects w.inheritance k x) 0 → r ≡ read w x name
nearest_read w x name k r is value = rw (← is) value

-- a cell's definition stays as its value is set
keys_with_value : (name : List ℕ) (v : Tree) (cells : List Cell) → map key_of (with_value name v cells) ≡ map key_of cells
keys_with_value name v [] = refl
keys_with_value name v (c ∷ cs) =
    ⊎_elim (λ e. rw e refl) (λ e. rw e (ap (λ ks. key_of c ∷ ks) (keys_with_value name v cs))) (cases_Bool (same_name c.name name))

filled_with_value : (x : ℕ) (name : List ℕ) (v : Tree) (cells : List Cell) → All (IsFilled x) cells → All (IsFilled x) (with_value name v cells)
filled_with_value x name v [] all = all
filled_with_value x name v (c ∷ cs) all =
    ⊎_elim
    (λ e. rw e (All-cons (IsFilled x) (record c { value = Some v }) cs (λ mine. refl) (All-tail (IsFilled x) c cs all)))
    (λ e. rw e (All-cons (IsFilled x) c (with_value name v cs) (All-head (IsFilled x) c cs all) (filled_with_value x name v cs (All-tail (IsFilled x) c cs all))))
    (cases_Bool (same_name c.name name))

stored_with_value : (name : List ℕ) (v : Tree) (cells : List Cell) → IsStored v → All (λ (c : Cell). HasStored c.value) cells → All (λ (c : Cell). HasStored c.value) (with_value name v cells)
stored_with_value name v [] s all = all
stored_with_value name v (c ∷ cs) s all =
    let P = λ (d : Cell). HasStored d.value in
    ⊎_elim
    (λ e. rw e (All-cons P (record c { value = Some v }) cs s (All-tail P c cs all)))
    (λ e. rw e (All-cons P c (with_value name v cs) (All-head P c cs all) (stored_with_value name v cs s (All-tail P c cs all))))
    (cases_Bool (same_name c.name name))

owned_with_value : (name : List ℕ) (v : Tree) (cells : List Cell) → All (λ (c : Cell). FitsSigned w32 c.owner) cells → All (λ (c : Cell). FitsSigned w32 c.owner) (with_value name v cells)
owned_with_value name v [] all = all
owned_with_value name v (c ∷ cs) all =
    let P = λ (d : Cell). FitsSigned w32 d.owner in
    ⊎_elim
    (λ e. rw e (All-cons P (record c { value = Some v }) cs (All-head P c cs all) (All-tail P c cs all)))
    (λ e. rw e (All-cons P c (with_value name v cs) (All-head P c cs all) (owned_with_value name v cs (All-tail P c cs all))))
    (cases_Bool (same_name c.name name))

pub value_kept : (x : ℕ) (name : List ℕ) (v : Tree) (o : Object) → IsStored v → KeepsShape x (with_value_of name v) o
value_kept x name v o s = record {
  keys = keys_with_value name v o.cells;
  names = refl;
  filled = filled_with_value x name v o.cells;
  fine = λ h. record {
    name = h.name;
    names = h.names;
    values = stored_with_value name v o.cells s h.values;
    few_cells =
        let same = sym (length-map (with_value name v o.cells) key_of) ∙ ap length (keys_with_value name v o.cells) ∙ length-map o.cells key_of in
        let few = h.few_cells in
        omega (arith, same, few);
    verb_names = h.verb_names;
    few_verbs = h.few_verbs;
    numbers = record { owner = h.numbers.owner; cells = owned_with_value name v o.cells h.numbers.cells; verbs = h.numbers.verbs };
  };
}
