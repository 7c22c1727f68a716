-- Statements that the arms of an `if` choose.
use Rattle.std.specs.Prelude.{Option, Some, None, Result, Ok}
use Rattle.moo_syntax_ast.specs.Tree.{Arms, Block}
use Rattle.moo_builtin.specs.Telling.{Telling}
use Rattle.moo_eval_frame.specs.Outcome.{Flow, Stop, next}
use Rattle.moo_eval_frame.specs.State.{Context}
use Rattle.moo_eval_access.specs.State.{State}
use Rattle.moo_eval_semantics.specs.Meaning.{RunsAll, Selects}

-- what the chosen statements do from the second state on is what the arms do from the first; without any, the arms do
-- nothing more
abbrev pub IsChosen : Telling → Context → Arms → State → Option Block → State → Type 0
IsChosen T c arms s (Some b) s' = (o : Result Flow Stop) (s'' : State) → RunsAll T c b s' o s'' → Selects T c arms s o s''
IsChosen T c arms s None s' = Selects T c arms s (Ok next) s'
