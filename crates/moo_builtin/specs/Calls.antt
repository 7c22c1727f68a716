-- A call of a plain function: one that calls no verb, leaves no notice, and reads no frame, tick or connection.
use Rattle.std.specs.Prelude.{◌≡◌, ℕ, List, if◌then◌else◌, Option, None, Some, Result, Ok, Err}
use Rattle.moo_value.specs.declared.error_code.ErrorCode.{ErrorCode}
use Rattle.moo_value.specs.declared.error_code.ErrorCode.TheVariants.{InvalidArgument}
use Rattle.moo_value.specs.Tree.{Tree}
use Rattle.moo_syntax_function.specs.declared.function.Function.{Function}
use Rattle.moo_syntax_function.specs.Table.{row}
use Rattle.moo_syntax_function.specs.Names.{function_of}
use Rattle.moo_syntax_function.specs.Check.{refusal}
use Rattle.moo_builtin_value.specs.Calls.{Raised, plainly, answer}
use Rattle.moo_world_table.specs.World.{World}
use Rattle.moo_builtin_world.specs.Objects.{is_valid}
use Rattle.moo_builtin_world.specs.Calls.{is_of_world, answer as world_answer}
use Rattle.moo_builtin.specs.Telling.{Telling}
use Rattle.moo_builtin.specs.Answers.{Outcomes}
use Rattle.moo_builtin.specs.CodeCalls.{is_of_code, Answers}
use Rattle.moo_builtin.specs.declared.call.Caller.{Caller}

-- what a function reads besides its arguments: nothing, the objects of the world, or the code of a verb
pub data Field : Type 0 where
  values : Field
  objects : Field
  code : Field

abbrev pub field : Function → Field
field f = if is_of_world f then objects else if is_of_code f then code else values

-- a result as it is returned, an error as it is raised
abbrev pub raising : Result Tree ErrorCode → Result Tree Raised
raising (Ok v) = Ok v
raising (Err e) = Err (plainly e)

-- a result with the world after it; an error leaves the world as it is
abbrev pub Leaves : Result (Tree × World) ErrorCode → World → Result Tree Raised → World → Type 0
Leaves (Ok p) w r after = (r ≡ Ok p.0) × (after ≡ p.1)
Leaves (Err e) w r after = (r ≡ Err (plainly e)) × (after ≡ w)

-- one of the outcomes
abbrev pub IsOf : Outcomes → Result Tree Raised → World → Type 0
IsOf Such r after = (reply : Result Tree ErrorCode) × Such reply after × (r ≡ raising reply)

-- what a function over values gives; one that is not plain raises E_INVARG
abbrev pub given : Option (Result Tree Raised) → Result Tree Raised
given None = Err (plainly InvalidArgument)
given (Some r) = r

-- What the function itself looks at, as the definitions of its field have it, with the programmer's right at the end.
abbrev pub Follows : Field → Telling → Function → List Tree → World → Caller → Result Tree Raised → World → Type 0
Follows values T f args w c r after = (r ≡ given (answer f c.moment args)) × (after ≡ w)
Follows objects T f args w c r after = Leaves (world_answer f w c.programmer args) w r after
Follows code T f args w c r after = IsOf (Answers T f w c.programmer args) r after

-- A call by a name, its letters in any case: what it returns or raises, and the world after it. A name of no function
-- raises E_INVARG. The number of the arguments, then their types, then whether their objects are valid come before
-- what the function itself looks at.
pub data CallsPlain (T : Telling) (name : List ℕ) (args : List Tree) (w : World) (c : Caller) : Result Tree Raised → World → Type 0 where
  unknown : function_of name ≡ None →
      CallsPlain T name args w c (Err (plainly InvalidArgument)) w
  refused : {f : Function} {e : ErrorCode} →
      function_of name ≡ Some f → refusal (is_valid w) (row f) args ≡ Some e →
      CallsPlain T name args w c (Err (plainly e)) w
  follows : {f : Function} {r : Result Tree Raised} {after : World} →
      function_of name ≡ Some f → refusal (is_valid w) (row f) args ≡ None → Follows (field f) T f args w c r after →
      CallsPlain T name args w c r after
