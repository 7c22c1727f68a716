-- How many more objects an owner may have.
use Rattle.std.specs.Prelude.{ℕ, ℤ, pos, Bool, false, List, codes, ◌+ℤ◌, int_le, Option, Some, None}
use Rattle.std.specs.Int.{int_wrap, w32}
use Rattle.moo_value.specs.declared.error_code.ErrorCode.{ErrorCode}
use Rattle.moo_value.specs.Tree.{Tree, integer, object, error, string, list}
use Rattle.moo_value.specs.Compare.{folded}
use Rattle.moo_world_table.specs.World.{World}
use Rattle.moo_world.specs.Calls.{number_of}
use Rattle.moo_world.specs.NamedProperties.{get_raises, value_got}
use Rattle.moo_world.specs.EditCalls.{set_raises, world_set}

-- the property that holds it
abbrev pub quota_name : List ℕ
quota_name = codes "ownership_quota"

abbrev pub integer_in : Option Tree → Option ℤ
integer_in None = None
integer_in (Some (integer i)) = Some i
integer_in (Some (object o)) = None
integer_in (Some (error e)) = None
integer_in (Some (string s)) = None
integer_in (Some (list es)) = None

-- the result of something that may raise, or a substitute if it raises
abbrev pub where_allowed : {A : Type 0} → Option ErrorCode → A → A → A
where_allowed None next other = next
where_allowed (Some code) next other = other

-- the quota of an owner: an integer in its property, looked up
unfoldable pub quota : World → ℤ → Option ℤ
quota w owner =
    let x = number_of w.objects owner in
    where_allowed (get_raises w x (folded quota_name)) (integer_in (value_got w x (folded quota_name))) None

-- a quota of 0 or less allows no object more
abbrev pub is_used_up : Option ℤ → Bool
is_used_up None = false
is_used_up (Some n) = int_le n (pos 0)

-- the world with the property of an object set, if the object has it
abbrev pub set_if_there : World → ℤ → List ℕ → Tree → World
set_if_there w o name v =
    let x = number_of w.objects o in
    where_allowed (set_raises w x name v) (world_set w x name v) w

-- the world once a quota has become greater by so much; who has none is not counted
unfoldable pub with_quota : World → ℤ → Option ℤ → ℤ → World
with_quota w owner None change = w
with_quota w owner (Some n) change = set_if_there w owner (folded quota_name) (integer (int_wrap w32 (n +ℤ change)))
