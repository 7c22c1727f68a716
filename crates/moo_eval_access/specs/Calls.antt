-- What properties of objects give.
use Rattle.std.specs.Prelude.{◌≡◌, ℕ, ℤ, List, Option, None, Some, Result, Ok, Err, if◌then◌else◌}
use Rattle.moo_value.specs.declared.error_code.ErrorCode.{ErrorCode}
use Rattle.moo_value.specs.declared.error_code.ErrorCode.TheVariants.{TypeMismatch, PropertyNotFound, Permission}
use Rattle.moo_value.specs.Tree.{Tree, object, string}
use Rattle.moo_value.specs.Compare.{folded}
use Rattle.moo_world_table.specs.World.{World}
use Rattle.moo_world.specs.Calls.{number_of}
use Rattle.moo_world.specs.NamedProperties.{get_raises, value_got}
use Rattle.moo_world.specs.EditCalls.{set_raises, world_set}
use Rattle.moo_world.specs.Rights.{may_read_property, may_write_property}
use Rattle.moo_eval_frame.specs.Outcome.{or_error}

-- a result, if nothing is raised before it
abbrev pub unless_raised : {A : Type 0} → Option ErrorCode → Result A ErrorCode → Result A ErrorCode
unless_raised None r = r
unless_raised (Some code) r = Err code

-- a property that the programmer may read
abbrev pub allowed_value : World → ℤ → ℤ → List ℕ → Result Tree ErrorCode
allowed_value w programmer o name =
    if may_read_property w programmer o name then or_error (value_got w (number_of w.objects o) (folded name)) PropertyNotFound else Err Permission

-- what is raised before the right is tested
abbrev pub read_raises : World → Tree → Tree → Option ErrorCode
read_raises w (object o) (string name) = get_raises w (number_of w.objects o) (folded name)
read_raises w _ _ = Some TypeMismatch

-- The value of a property: the object has to be valid and to have it, and the programmer needs the right to read it.
abbrev pub read_property : World → ℤ → Tree → Tree → Result Tree ErrorCode
read_property w programmer (object o) (string name) =
    unless_raised (get_raises w (number_of w.objects o) (folded name)) (allowed_value w programmer o name)
read_property w programmer _ _ = Err TypeMismatch

-- the world with a property set, if the programmer may set it
abbrev pub allowed_world : World → ℤ → ℤ → List ℕ → Tree → Result World ErrorCode
allowed_world w programmer o name v =
    if may_write_property w programmer o name then Ok (world_set w (number_of w.objects o) (folded name) v) else Err Permission

-- The world with a property set. The object has to be valid and to have it, and a built-in one has to take the value.
-- Then the programmer needs the right to set it.
abbrev pub write_property : World → ℤ → Tree → Tree → Tree → Result World ErrorCode
write_property w programmer (object o) (string name) v =
    unless_raised (set_raises w (number_of w.objects o) (folded name) v) (allowed_world w programmer o name v)
write_property w programmer _ _ v = Err TypeMismatch

-- the world with a property set to a value, if there is one
abbrev pub write_result : World → ℤ → Tree → Tree → Result Tree ErrorCode → Result World ErrorCode
write_result w programmer base name (Ok v) = write_property w programmer base name v
write_result w programmer base name (Err code) = Err code

-- Setting the property to any value gives one result in both worlds. If the old world refuses it, the worlds are equal.
pub record IsSetAlike (old new : World) (programmer : ℤ) (base name : Tree) : Type 0 where
  pub sets : (v : Tree) → write_property new programmer base name v ≡ write_property old programmer base name v
  pub refused : (v : Tree) (code : ErrorCode) → write_property old programmer base name v ≡ Err code → new ≡ old
