-- When the calls on a world raise, and what they leave.
use Rattle.std.specs.Prelude.{◌≡◌, ℕ, zero, suc, ℤ, pos, negsuc, List, Option, Some, None, Result, Ok, Err, is_some, if◌then◌else◌, ⊤, nat_lt, length}
use Rattle.std.specs.Option.{option_map}
use Rattle.moo_value.specs.declared.error_code.ErrorCode.{ErrorCode}
use Rattle.moo_value.specs.declared.error_code.ErrorCode.TheVariants.{RecursiveMove, InvalidArgument, Permission, Quota}
use Rattle.moo_world_tree.specs.Forest.{Links, above_of, moved}
use Rattle.moo_world_object.specs.Objects.{Object}
use Rattle.moo_world.specs.declared.fault.WorldFault.{WorldFault}
use Rattle.moo_world.specs.declared.fault.WorldFault.TheVariants.{Raise, Memory}
use Rattle.moo_world_table.specs.World.{World, object_of, clashes, crowds, most}
use Rattle.moo_world_table.specs.Changes.{after_create, after_chparent, after_move, would_loop}

-- a call raises if it must, and else leads to `after`; if it raises or memory runs out, the world stays as it was
abbrev pub Changes : {T : Type 0} → Result T WorldFault → World → World → Option ErrorCode → World → Type 0
Changes (Ok _) old new raises after = (raises ≡ None) × (new ≡ after)
Changes (Err (Raise e)) old new raises after = (raises ≡ Some e) × (new ≡ old)
Changes (Err Memory) old new raises after = new ≡ old

-- a call raises if it must, and else its result is right
abbrev pub Answers : {T : Type 0} → Result T WorldFault → Option ErrorCode → (T → Type 0) → Type 0
Answers (Ok v) raises Right = (raises ≡ None) × Right v
Answers (Err (Raise e)) raises Right = raises ≡ Some e
Answers (Err Memory) raises Right = ⊤

-- a call returns the error that another would raise
abbrev pub Tests : {T : Type 0} → Result T WorldFault → Option ErrorCode → Type 0
Tests result raises = Answers result raises (λ v. ⊤)

-- a call that allocates nothing: it never runs out of memory
abbrev pub TakesNoMemory : {T : Type 0} → Result T WorldFault → Type 0
TakesNoMemory (Ok v) = ⊤
TakesNoMemory (Err (Raise e)) = ⊤
TakesNoMemory (Err Memory) = ⊥

-- a call that looks at these raises before it allocates: if memory runs out, none of them was due
abbrev pub RaisesFirst : {T : Type 0} → Result T WorldFault → Option ErrorCode → Type 0
RaisesFirst (Ok v) raises = ⊤
RaisesFirst (Err (Raise e)) raises = ⊤
RaisesFirst (Err Memory) raises = raises ≡ None

-- the number of a valid object
abbrev pub number_of : List (Option Object) → ℤ → Option ℕ
number_of objects (pos n) = if is_some (object_of objects n) then Some n else None
number_of objects (negsuc n) = None

-- a place that is named by a number: #-1 is no place
abbrev pub place_of : List (Option Object) → ℤ → Option (Option ℕ)
place_of objects (negsuc zero) = Some None
place_of objects (negsuc (suc n)) = None
place_of objects (pos n) = option_map (λ x. Some x) (number_of objects (pos n))

-- an object is right below a place in a tree
abbrev pub IsThere : List (Option Object) → List Links → ℤ → ℤ → Type 0
IsThere objects tree o to = (x : ℕ) → number_of objects o ≡ Some x → place_of objects to ≡ Some (above_of tree x)

-- the highest number that was given out, -1 for none
abbrev pub highest : ℕ → ℤ
highest zero = negsuc 0
highest (suc n) = pos n

-- what making an object raises, and the world after it
abbrev pub create_raises : World → Option (Option ℕ) → Option ErrorCode
create_raises w None = Some Permission
create_raises w (Some p) = if nat_lt (length w.objects) most then None else Some Quota

abbrev pub world_create : World → Option (Option ℕ) → ℤ → World
world_create w None owner = w
world_create w (Some p) owner = after_create w p owner

-- what a change of parent raises, for valid objects
abbrev pub parent_raises : World → ℕ → Option ℕ → Option ErrorCode
parent_raises w x p =
    if would_loop w.inheritance x p then Some RecursiveMove
    else if clashes w.objects (moved w.inheritance x p) then Some InvalidArgument
    else if crowds w.objects (moved w.inheritance x p) then Some Quota
    else None

abbrev pub chparent_raises : World → Option ℕ → Option (Option ℕ) → Option ErrorCode
chparent_raises w None p = Some InvalidArgument
chparent_raises w (Some x) None = Some InvalidArgument
chparent_raises w (Some x) (Some p) = parent_raises w x p

-- those of its raises that are looked at before memory is taken
abbrev pub numbers_raise : World → Option ℕ → Option (Option ℕ) → Option ErrorCode
numbers_raise w None p = Some InvalidArgument
numbers_raise w (Some x) None = Some InvalidArgument
numbers_raise w (Some x) (Some p) = if would_loop w.inheritance x p then Some RecursiveMove else None

abbrev pub world_chparent : World → Option ℕ → Option (Option ℕ) → World
world_chparent w None p = w
world_chparent w (Some x) None = w
world_chparent w (Some x) (Some p) = after_chparent w x p

-- what a move raises, for valid objects
abbrev pub place_raises : World → ℕ → Option ℕ → Option ErrorCode
place_raises w x to = if would_loop w.containment x to then Some RecursiveMove else None

abbrev pub move_raises : World → Option ℕ → Option (Option ℕ) → Option ErrorCode
move_raises w None to = Some InvalidArgument
move_raises w (Some x) None = Some InvalidArgument
move_raises w (Some x) (Some to) = place_raises w x to

abbrev pub world_move : World → Option ℕ → Option (Option ℕ) → World
world_move w None to = w
world_move w (Some x) None = w
world_move w (Some x) (Some to) = after_move w x to
