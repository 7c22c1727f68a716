-- Verbs that a function calls if they can be called.
use Rattle.std.specs.Prelude.{◌≡◌, ℕ, ℤ, pos, List, Bool, true, false, Result, Ok, Err}
use Rattle.moo_value.specs.Tree.{Tree, integer, object, string}
use Rattle.moo_eval_frame.specs.Outcome.{Stop, Failure, fails, stops, Flow, answers}
use Rattle.moo_eval_frame.specs.State.{Context}
use Rattle.moo_eval_access.specs.State.{State}
use Rattle.moo_eval_access.specs.Entering.{Entered, entered_verb}
use Rattle.moo_builtin.specs.Telling.{Telling}
use Rattle.moo_eval_semantics.specs.Progressing.{through, is_missing}
use Rattle.moo_eval_semantics.specs.Operands.{answered, begun, left}
use Rattle.moo_eval_semantics.specs.Meaning.{RunsAll}

-- what the call of a verb of an object enters, for the running frame
abbrev pub entering : Context → ℤ → List ℕ → List Tree → State → Result Entered Failure
entering c o name vs s = answers (entered_verb s.world c s.variables s.programmer (object o) (string name) vs)

-- nothing is there, or no verb of that name that can be executed
abbrev pub says_none : Failure → Bool
says_none (fails code) = is_missing code
says_none (stops stop) = false

-- A function calls a verb of an object, and goes on in the state that it leaves. A verb that can't be called is
-- skipped, as if it had returned 0. If it stops, or no frame is left for it, the function ends with its failure.
pub data CallsVerb (T : Telling) (c : Context) (function : List ℕ) (o : ℤ) (name : List ℕ) (vs : List Tree) : State → Result Tree Failure → State → Type 0 where
  passed_over : {s : State} {failure : Failure} →
      entering c o name vs s ≡ Err failure → says_none failure ≡ true →
      CallsVerb T c function o name vs s (Ok (integer (pos 0))) s
  no_frame : {s : State} {failure : Failure} →
      entering c o name vs s ≡ Err failure → says_none failure ≡ false →
      CallsVerb T c function o name vs s (Err failure) s
  runs : {s s' s'' : State} {e : Entered} {o' : Result Flow Stop} {r : Result Tree Failure} →
      entering c o name vs s ≡ Ok e → RunsAll T (through function e).context e.context.frame.program (begun (through function e) s) o' s' → left s s' ≡ s'' → answered o' ≡ r →
      CallsVerb T c function o name vs s r s''
