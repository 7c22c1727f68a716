-- The order in which a function looks at things, once its arguments are known to be fine.
use Rattle.std.specs.Prelude.{pos, Bool, Option, Some, None, Result, Ok, Err, if◌then◌else◌}
use Rattle.moo_value.specs.declared.error_code.ErrorCode.{ErrorCode}
use Rattle.moo_value.specs.declared.error_code.ErrorCode.TheVariants.{Permission}
use Rattle.moo_value.specs.Tree.{Tree, integer}
use Rattle.moo_world_table.specs.World.{World}

-- what the function's own rule raises, then the right, then the result
abbrev pub asked : {X : Type 0} → Option ErrorCode → Bool → Result X ErrorCode → Result X ErrorCode
asked (Some e) allowed r = Err e
asked None allowed r = if allowed then r else Err Permission

-- a function changes the world to this one, and returns 0
abbrev pub changes : Option ErrorCode → Bool → World → Result (Tree × World) ErrorCode
changes raises allowed after = asked raises allowed (Ok (integer (pos 0), after))

-- what an argument gives, or the error in it, which comes before the function's own rule
abbrev pub given : {X Y : Type 0} → Result X ErrorCode → (X → Result Y ErrorCode) → Result Y ErrorCode
given (Err e) f = Err e
given (Ok x) f = f x
