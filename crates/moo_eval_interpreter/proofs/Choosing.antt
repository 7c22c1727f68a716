-- Statements that the arms of an `if` choose.
use Rattle.std.proofs.Common.{◌≡◌, false, Option, Some, None, Ok}
use Rattle.moo_value.specs.Tree.{Tree}
use Rattle.moo_syntax_ast.specs.Tree.{Expr, Arms, Block, elseif}
use Rattle.moo_builtin_operator.specs.Truth.{is_true}
use Rattle.moo_builtin.specs.Telling.{Telling}
use Rattle.moo_eval_frame.specs.State.{Context}
use Rattle.moo_eval_access.specs.State.{State}
use Rattle.moo_eval_semantics.specs.Meaning.{Evaluates, arm_passed}
use Rattle.moo_eval_interpreter.specs.Chosen.{IsChosen}

-- what the later arms choose is chosen after a condition that is false
pub passed : {T : Telling} {c : Context} {e : Expr} {s s' : State} {v : Tree} (b : Block) (arms : Arms) (s'' : State) → Evaluates T c e s (Ok v) s' → is_true v ≡ false → (chosen : Option Block) → IsChosen T c arms s' chosen s'' → IsChosen T c (elseif e b arms) s chosen s''
passed b arms s'' d h (Some chosen) k = λ o s r. arm_passed d h (k o s r)
passed b arms s'' d h None k = arm_passed d h k
