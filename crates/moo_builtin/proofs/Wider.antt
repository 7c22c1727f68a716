-- The result of a call stays possible if more faults may be reported for texts.
use Rattle.std.proofs.Common.{ℕ, ℤ, List, Result}
use Rattle.moo_value.specs.Tree.{Tree}
use Rattle.moo_syntax_function.specs.declared.function.Function.{Function}
use Rattle.moo_syntax_function.specs.declared.function.Function.TheVariants.{VerbCode, SetVerbCode}
use Rattle.moo_builtin_value.specs.Calls.{Raised}
use Rattle.moo_world_table.specs.World.{World}
use Rattle.moo_builtin.specs.Telling.{Telling}
use Rattle.moo_builtin.specs.CodeCalls.{Answers}
use Rattle.moo_builtin.proofs.CodeWider.{Includes, sets_wider}
pub use Rattle.moo_builtin.proofs.CodeWider.{Wider}
use Rattle.moo_builtin.specs.declared.call.Caller.{Caller}
use Rattle.moo_builtin.specs.Calls.{Field, values, objects, code, field, Follows, CallsPlain, unknown, refused, follows}

answers_wider : {T U : Telling} → Wider T U → (f : Function) (args : List Tree) (w : World) (p : ℤ) → Includes (Answers T f w p args) (Answers U f w p args)
answers_wider wider VerbCode args w p r v h = h
answers_wider wider SetVerbCode args w p r v h = sets_wider wider w p args r v h
answers_wider wider _ args w p r v h = absurd h

followed_wider : {T U : Telling} → Wider T U → (at : Field) (f : Function) (args : List Tree) (w v : World) (c : Caller) (r : Result Tree Raised) → Follows at T f args w c r v → Follows at U f args w c r v
followed_wider wider values f args w v c r h = h
followed_wider wider objects f args w v c r h = h
followed_wider wider code f args w v c r h = (h.0, answers_wider wider f args w c.programmer h.0 v h.1, h.2)

pub plain_wider : {T U : Telling} → Wider T U → (name : List ℕ) (args : List Tree) (w v : World) (c : Caller) (r : Result Tree Raised) → CallsPlain T name args w c r v → CallsPlain U name args w c r v
plain_wider wider name args w v c r (unknown n) = unknown n
plain_wider wider name args w v c r (refused n e) = refused n e
plain_wider wider name args w v c r (follows {f = f} n fits h) = follows n fits (followed_wider wider (field f) f args w v c r h)
