-- An object with a property set or cleared keeps its shape.
use Rattle.std.proofs.Common.{◌≡◌, ◌≤◌, ℕ, ℤ, List, [], ◌∷◌, true, false, eqb, refl, sym, ◌∙◌, ap, ⊎_elim, arith, length, map, FitsSigned, w32}
use Rattle.std.specs.List.{All}
use Rattle.std.proofs.lemmas.List.{length-map}
use Rattle.std.proofs.lemmas.List.Elements.{All-cons, All-head, All-tail}
use Rattle.std.proofs.lemmas.Bool.{cases_Bool, eqb-true, false≢true}
use Rattle.moo_value.specs.Tree.{Tree, integer, object, error, string, list}
use Rattle.moo_value.specs.Size.{IsStored, IsString}
use Rattle.moo_world_object.specs.Cells.{Cell, Key, key_of, is_key, at_key, emptied, with_info}
use Rattle.moo_world_object.specs.Objects.{Object}
use Rattle.moo_world_object.specs.declared.cell.PropPerms.{PropPerms}
use Rattle.moo_world_object.specs.declared.flags.Flags.{Flags}
use Rattle.moo_world_object.specs.declared.built_in_property.BuiltInProperty.{BuiltInProperty}
use Rattle.moo_world_object.specs.declared.built_in_property.BuiltInProperty.TheVariants as property
use Rattle.moo_world_table.specs.World.{IsFilled, HasStored, programs_of}
use Rattle.moo_world_table.specs.Edits.{with_name, with_owner, with_flags, with_built_in, with_clear, with_cell_info}
use Rattle.moo_world_table.proofs.Single.{KeepsShape}

string_stored : (s : List ℕ) → IsStored (string s) → IsString s
string_stored s h = record { text = h.0; fits = let limit = h.1.weight in omega (arith, limit) }

same_shape : (x : ℕ) (o : Object) → KeepsShape x (λ p. p) o
same_shape x o = record { keys = refl; names = refl; filled = λ h. h; fine = λ h. h }

named_kept : (x : ℕ) (v : Tree) (o : Object) → IsStored v → KeepsShape x (with_name v) o
named_kept x (integer i) o s = same_shape x o
named_kept x (object n) o s = same_shape x o
named_kept x (error e) o s = same_shape x o
named_kept x (list es) o s = same_shape x o
named_kept x (string b) o s = record {
  keys = refl;
  names = refl;
  filled = λ h. h;
  fine = λ h. record { name = string_stored b s; names = h.names; values = h.values; few_cells = h.few_cells; verb_names = h.verb_names; few_verbs = h.few_verbs; numbers = record { owner = h.numbers.owner; cells = h.numbers.cells; verbs = h.numbers.verbs } };
}

owned_kept : (x : ℕ) (v : Tree) (o : Object) → IsStored v → KeepsShape x (with_owner v) o
owned_kept x (integer i) o s = same_shape x o
owned_kept x (error e) o s = same_shape x o
owned_kept x (string b) o s = same_shape x o
owned_kept x (list es) o s = same_shape x o
owned_kept x (object n) o s = record {
  keys = refl;
  names = refl;
  filled = λ h. h;
  fine = λ h. record { name = h.name; names = h.names; values = h.values; few_cells = h.few_cells; verb_names = h.verb_names; few_verbs = h.few_verbs; numbers = record { owner = s.0; cells = h.numbers.cells; verbs = h.numbers.verbs } };
}

flagged_kept : (x : ℕ) (f : Flags → Flags) (o : Object) → KeepsShape x (with_flags f) o
flagged_kept x f o = record {
  keys = refl;
  names = refl;
  filled = λ h. h;
  fine = λ h. record { name = h.name; names = h.names; values = h.values; few_cells = h.few_cells; verb_names = h.verb_names; few_verbs = h.few_verbs; numbers = record { owner = h.numbers.owner; cells = h.numbers.cells; verbs = h.numbers.verbs } };
}

pub built_in_kept : (x : ℕ) (p : BuiltInProperty) (v : Tree) (o : Object) → IsStored v → KeepsShape x (with_built_in p v) o
built_in_kept x property.Name v o s = named_kept x v o s
built_in_kept x property.Owner v o s = owned_kept x v o s
built_in_kept x property.Location v o s = same_shape x o
built_in_kept x property.Contents v o s = same_shape x o
built_in_kept x property.Programmer v o s = flagged_kept x _ o
built_in_kept x property.Wizard v o s = flagged_kept x _ o
built_in_kept x property.Read v o s = flagged_kept x _ o
built_in_kept x property.Write v o s = flagged_kept x _ o
built_in_kept x property.Fertile v o s = flagged_kept x _ o

-- the verbs stay, and so the programs
named_programs : (v : Tree) (o : Object) → programs_of (with_name v o).verbs ≡ programs_of o.verbs
named_programs (integer i) o = refl
named_programs (object n) o = refl
named_programs (error e) o = refl
named_programs (string b) o = refl
named_programs (list es) o = refl

owned_programs : (v : Tree) (o : Object) → programs_of (with_owner v o).verbs ≡ programs_of o.verbs
owned_programs (integer i) o = refl
owned_programs (object n) o = refl
owned_programs (error e) o = refl
owned_programs (string b) o = refl
owned_programs (list es) o = refl

pub built_in_programs : (p : BuiltInProperty) (v : Tree) (o : Object) → programs_of (with_built_in p v o).verbs ≡ programs_of o.verbs
built_in_programs property.Name v o = named_programs v o
built_in_programs property.Owner v o = owned_programs v o
built_in_programs property.Location v o = refl
built_in_programs property.Contents v o = refl
built_in_programs property.Programmer v o = refl
built_in_programs property.Wizard v o = refl
built_in_programs property.Read v o = refl
built_in_programs property.Write v o = refl
built_in_programs property.Fertile v o = refl

-- a change of a cell that keeps what it is for
keys_at : (k : Key) (f : Cell → Cell) (cells : List Cell) → ((c : Cell) → key_of (f c) ≡ key_of c) → map key_of (map (at_key k f) cells) ≡ map key_of cells
keys_at k f [] same = refl
keys_at k f (c ∷ cs) same = ⊎_elim
    (λ e. rw e (ap (λ q. q ∷ map key_of (map (at_key k f) cs)) (same c) ∙ ap (λ ks. key_of c ∷ ks) (keys_at k f cs same)))
    (λ e. rw e (ap (λ ks. key_of c ∷ ks) (keys_at k f cs same)))
    (cases_Bool (is_key k c))

pub each_at : (P : Cell → Type 0) (k : Key) (f : Cell → Cell) (cells : List Cell) → ((c : Cell) → is_key k c ≡ true → P c → P (f c)) → All P cells → All P (map (at_key k f) cells)
each_at P k f [] kept all = all
each_at P k f (c ∷ cs) kept all = All-cons P (at_key k f c) (map (at_key k f) cs)
    (⊎_elim (λ e. rw e (kept c e (All-head P c cs all))) (λ e. rw e (All-head P c cs all)) (cases_Bool (is_key k c)))
    (each_at P k f cs kept (All-tail P c cs all))

few_at : (k : Key) (f : Cell → Cell) (cells : List Cell) (n : ℕ) → length cells ≤ n → length (map (at_key k f) cells) ≤ n
few_at k f cells n few = let same = length-map cells (at_key k f) in omega (arith, same, few)

pub cells_kept : (x : ℕ) (k : Key) (f : Cell → Cell) (o : Object) → ((c : Cell) → key_of (f c) ≡ key_of c) → ((c : Cell) → is_key k c ≡ true → IsFilled x c → IsFilled x (f c)) → ((c : Cell) → HasStored c.value → HasStored (f c).value) →
    ((c : Cell) → FitsSigned w32 c.owner → FitsSigned w32 (f c).owner) → KeepsShape x (λ p. record p { cells = map (at_key k f) p.cells }) o
cells_kept x k f o same filled stored owned = record {
  keys = keys_at k f o.cells same;
  names = refl;
  filled = each_at (IsFilled x) k f o.cells filled;
  fine = λ h. record {
    name = h.name;
    names = h.names;
    values = each_at (λ (c : Cell). HasStored c.value) k f o.cells (λ c e. stored c) h.values;
    few_cells = few_at k f o.cells _ h.few_cells;
    verb_names = h.verb_names;
    few_verbs = h.few_verbs;
    numbers = record { owner = h.numbers.owner; cells = each_at (λ (c : Cell). FitsSigned w32 c.owner) k f o.cells (λ c e. owned c) h.numbers.cells; verbs = h.numbers.verbs };
  };
}

definer_at : (k : Key) (c : Cell) → is_key k c ≡ true → c.definer ≡ k.0
definer_at k c e = ⊎_elim (λ on. eqb-true c.definer k.0 on) (λ off. absurd (let never : false ≡ true = (rw off at e) in false≢true never)) (cases_Bool (eqb c.definer k.0))

-- only inherited cells are cleared
pub clear_kept : (x : ℕ) (k : Key) (o : Object) → (k.0 ≡ x → ⊥) → KeepsShape x (with_clear k) o
clear_kept x k o inherited = cells_kept x k emptied o (λ c. refl) (λ c e h own. absurd (inherited (sym (definer_at k c e) ∙ own))) (λ c h. tt) (λ c h. h)

pub info_kept : (x : ℕ) (k : Key) (owner : ℤ) (perms : PropPerms) (o : Object) → FitsSigned w32 owner → KeepsShape x (with_cell_info k owner perms) o
info_kept x k owner perms o fits = cells_kept x k (with_info owner perms) o (λ c. refl) (λ c e h. h) (λ c h. h) (λ c h. fits)
