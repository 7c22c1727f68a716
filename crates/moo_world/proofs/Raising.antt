-- What looking a property up, and changing a parent, raises.
use Rattle.std.proofs.Common.{◌≡◌, ℕ, List, Option, Some, None, Bool, true, false, cond, refl, sym, ◌∙◌, ap, is_some}
use Rattle.std.specs.Prelude.{Result, Ok, Err}
use Rattle.std.specs.Option.{option_map}
use Rattle.moo_value.specs.declared.error_code.ErrorCode.{ErrorCode}
use Rattle.moo_value.specs.declared.error_code.ErrorCode.TheVariants.{PropertyNotFound, InvalidArgument}
use Rattle.moo_world_object.specs.BuiltIn.{built_in_of}
use Rattle.moo_world_object.specs.Cells.{Cell, Key, cell_named}
use Rattle.moo_world_table.specs.World.{World, thing_of, IsWellFormed}
use Rattle.moo_world_table.specs.Properties.{definition_named, read}
use Rattle.moo_world_tree.specs.Forest.{above_of}
use Rattle.moo_world_table.proofs.Staying.{no_loop, no_clash, no_crowd, no_circle}
use Rattle.moo_world.specs.Calls.{parent_raises, place_raises, RaisesFirst}
use Rattle.moo_world.specs.PropertyCalls.{plain_raises, define_raises, add_property_raises, name_raises}
use Rattle.moo_world.specs.declared.fault.WorldFault.{WorldFault}
use Rattle.moo_world.specs.declared.fault.WorldFault.TheVariants.{Raise, Memory}
use Rattle.moo_world_table.proofs.Valued.{read_defined, cell_defined}

pub plain_allowed : (w : World) (x : ℕ) (name : List ℕ) (d : Option ℕ) → option_map (λ n. (let k : Key = (n, name) in k)) d ≡ definition_named w x name → is_some d ≡ true → plain_raises w x name ≡ None
plain_allowed w x name None is some = cc
plain_allowed w x name (Some d) is some = rw (← is) refl

pub plain_refused : (w : World) (x : ℕ) (name : List ℕ) (d : Option ℕ) → option_map (λ n. (let k : Key = (n, name) in k)) d ≡ definition_named w x name → is_some d ≡ false → plain_raises w x name ≡ Some PropertyNotFound
plain_refused w x name None is none = rw (← is) refl
plain_refused w x name (Some d) is none = cc

-- no value is read exactly if the property is not defined
pub unread_raises : (w : World) (x : ℕ) (name : List ℕ) → IsWellFormed w → None ≡ read w x name → plain_raises w x name ≡ Some PropertyNotFound
unread_raises w x name f none = let off : is_some (definition_named w x name) ≡ false = sym (read_defined w x name f) ∙ ap is_some (sym none) in rw off refl

-- nor has the object a cell
pub cell_allowed : (w : World) (x : ℕ) (name : List ℕ) (c : Cell) → IsWellFormed w → Some c ≡ cell_named (thing_of w.objects x).cells name → plain_raises w x name ≡ None
cell_allowed w x name c f some = let on : is_some (definition_named w x name) ≡ true = sym (cell_defined w x name f) ∙ ap is_some (sym some) in rw on refl

pub cell_refused : (w : World) (x : ℕ) (name : List ℕ) → IsWellFormed w → None ≡ cell_named (thing_of w.objects x).cells name → plain_raises w x name ≡ Some PropertyNotFound
cell_refused w x name f none = let off : is_some (definition_named w x name) ≡ false = sym (cell_defined w x name f) ∙ ap is_some (sym none) in rw off refl

-- a new property of a name that may be given
pub name_allowed : (w : World) (x : ℕ) (name : List ℕ) → add_property_raises w (Some x) name ≡ None → name_raises (Some x) name ≡ None
name_allowed w x name none = over (is_some (built_in_of name)) none
  where
    over : (b : Bool) → cond b (Some InvalidArgument) (define_raises w x name) ≡ None → cond b (Some InvalidArgument) None ≡ None
    over true h = absurd (cc)
    over false h = refl

-- if nothing is to be raised, nothing is to be raised first
pub nothing_first : {T : Type 0} (result : Result T WorldFault) (raises : Option ErrorCode) → raises ≡ None → RaisesFirst result raises
nothing_first (Ok v) raises none = tt
nothing_first (Err (Raise e)) raises none = tt
nothing_first (Err Memory) raises none = none

-- a change to the parent that is there
pub unmoved : (w : World) (x : ℕ) (p : Option ℕ) → IsWellFormed w → above_of w.inheritance x ≡ p → parent_raises w x p ≡ None
unmoved w x p f same =
    let apart = no_loop w x p f same in
    let once = no_clash w x p f same in
    let room = no_crowd w x p f same in
    rw (apart, once, room) refl

-- a move to where the object is
pub left_there : (w : World) (x : ℕ) (to : Option ℕ) → IsWellFormed w → above_of w.containment x ≡ to → place_raises w x to ≡ None
left_there w x to f same = let apart = no_circle w.containment x to f.places.forest same in rw apart refl
