-- What other info for a property raises.
use Rattle.std.proofs.Common.{◌≡◌, ℕ, List, Option, Some, None, Err, refl, sym, ◌∙◌, ap}
use Rattle.moo_value.specs.Compare.{folded}
use Rattle.moo_value.specs.declared.error_code.ErrorCode.{ErrorCode}
use Rattle.moo_value.specs.declared.error_code.ErrorCode.TheVariants.{PropertyNotFound}
use Rattle.moo_world_object.specs.Cells.{Key}
use Rattle.moo_world_table.specs.World.{World}
use Rattle.moo_world.specs.declared.fault.WorldFault.{WorldFault}
use Rattle.moo_world.specs.declared.fault.WorldFault.TheVariants.{Raise, Memory}
use Rattle.moo_world.specs.Calls.{Answers}
use Rattle.moo_world.specs.InfoCalls.{info_change_raises, rename_raises}
use Rattle.moo_world.proofs.Inheriting.{found_as}

-- a fault is one of whatever the answer would have been
pub still_err : {T U : Type 0} (e : WorldFault) (r s : Option ErrorCode) (P : T → Type 0) (Q : U → Type 0) → r ≡ s → Answers (Err e) s Q → Answers (Err e) r P
still_err (Raise e) r s P Q is h = is ∙ h
still_err Memory r s P Q is h = tt

pub no_info : (w : World) (x : ℕ) (spelling : Option (List ℕ)) (name : List ℕ) (found : Option ℕ) (r : Option Key) → found_as name found ≡ r → found ≡ None → info_change_raises w x spelling r ≡ Some PropertyNotFound
no_info w x spelling name None r is none = rw (← is) refl
no_info w x spelling name (Some d) r is none = cc

pub info_named : (w : World) (x : ℕ) (spelling : Option (List ℕ)) (s : List ℕ) (r : Option Key) (k : Key) → r ≡ Some k → spelling ≡ Some s → info_change_raises w x spelling r ≡ rename_raises w x k (folded s)
info_named w x spelling s r k is some = rw (is, some) refl

pub info_unnamed : (w : World) (x : ℕ) (spelling : Option (List ℕ)) (r : Option Key) (k : Key) → r ≡ Some k → spelling ≡ None → info_change_raises w x spelling r ≡ None
info_unnamed w x spelling r k is none = rw (is, none) refl

pub found_then : (name : List ℕ) (found : Option ℕ) (d : ℕ) (r : Option Key) → found_as name found ≡ r → found ≡ Some d → r ≡ found_as name (Some d)
found_then name found d r is some = sym is ∙ ap (found_as name) some
