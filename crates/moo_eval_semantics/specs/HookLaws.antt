-- Laws of the functions that call verbs.
use Rattle.std.specs.Prelude.{◌≡◌, ℤ, pos, List, [], ◌∷◌, ◌++◌, length, None, Ok}
use Rattle.moo_value.specs.Tree.{Tree, integer, object}
use Rattle.moo_syntax_function.specs.declared.function.Function.TheVariants as function
use Rattle.moo_world.specs.Calls.{number_of}
use Rattle.moo_eval_frame.specs.declared.notice.Notice.{Notice}
use Rattle.moo_eval_frame.specs.declared.notice.Notice.TheVariants.{Recycle}
use Rattle.moo_eval_frame.specs.State.{Context}
use Rattle.moo_eval_access.specs.State.{State}
use Rattle.moo_builtin.specs.Telling.{Faults}
use Rattle.moo_eval_semantics.specs.Progressing.{Progress}
use Rattle.moo_eval_semantics.specs.VerbCalls.{Starts}
use Rattle.moo_eval_semantics.specs.Meaning.{Proceeds}

-- if it returns, `create` returns the object that it has made, whatever its `initialize` returns or does
abbrev pub CreateAnswersItsObject : Type 0
CreateAnswersItsObject = (c : Context) (args : List Tree) (p : Progress) (s s' s'' : State) (v : Tree) → Starts Faults c function.Create args s p s' → Proceeds Faults c p s' (Ok v) s'' → v ≡ object (pos (length s.world.objects))

-- if it returns, `move` returns 0, whatever the verbs that it calls return or do
abbrev pub MoveAnswersZero : Type 0
MoveAnswersZero = (c : Context) (args : List Tree) (p : Progress) (s s' s'' : State) (v : Tree) → Starts Faults c function.Move args s p s' → Proceeds Faults c p s' (Ok v) s'' → v ≡ integer (pos 0)

-- a notice comes after the earlier ones, and after those that were left in between
abbrev pub IsToldLast : Notice → List Notice → List Notice → Type 0
IsToldLast n old new = (between : List Notice) × (new ≡ old ++ between ++ n ∷ [])

-- if it returns, `recycle` returns 0, whatever the verbs that it calls return or do: the object is gone, and the last
-- notice says so
abbrev pub RecycledIsGone : Type 0
RecycledIsGone = (c : Context) (o : ℤ) (p : Progress) (s s' s'' : State) (v : Tree) → Starts Faults c function.Recycle (object o ∷ []) s p s' → Proceeds Faults c p s' (Ok v) s'' → (v ≡ integer (pos 0)) × (number_of s''.world.objects o ≡ None) × IsToldLast (Recycle o) s.notices s''.notices
