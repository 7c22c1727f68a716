-- The result of a call stays possible if more faults may be reported for texts.
use Rattle.std.proofs.Common.{ℕ, List, Option, None, Some, Result}
use Rattle.moo_value.specs.Tree.{Tree}
use Rattle.moo_syntax_function.specs.declared.function.Function.{Function}
use Rattle.moo_syntax_function.specs.Names.{function_of}
use Rattle.moo_eval_frame.specs.Outcome.{Failure}
use Rattle.moo_eval_frame.specs.State.{Context}
use Rattle.moo_eval_access.specs.State.{State}
use Rattle.moo_builtin.specs.Telling.{Telling}
use Rattle.moo_builtin.proofs.Wider.{plain_wider}
pub use Rattle.moo_builtin.proofs.Wider.{Wider}
use Rattle.moo_eval_semantics.specs.Calls.{task_function, caller, CallsAs, CallsFunction}

wider_as : {T U : Telling} → Wider T U → (f : Option Function) (c : Context) (name : List ℕ) (args : List Tree) (s s' : State) (r : Result Tree Failure) → CallsAs T f c name args s r s' → CallsAs U f c name args s r s'
wider_as wider (Some f) c name args s s' r h = h
wider_as wider None c name args s s' r h = (h.0, h.1, plain_wider wider name args s.world h.1 (caller c s) h.0 h.2, h.3, h.4)

pub wider_call : {T U : Telling} → Wider T U → (c : Context) (name : List ℕ) (args : List Tree) (s s' : State) (r : Result Tree Failure) → CallsFunction T c name args s r s' → CallsFunction U c name args s r s'
wider_call wider c name args s s' r h = wider_as wider (task_function (function_of name)) c name args s s' r h
