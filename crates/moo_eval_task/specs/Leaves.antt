-- Expressions without parts.
use Rattle.std.specs.Prelude.{◌≡◌, ◌<◌, ℕ, List, Option, Ok}
use Rattle.moo_value.specs.Tree.{Tree}
use Rattle.moo_syntax_ast.specs.Tree.{Expr}
use Rattle.moo_builtin.specs.Telling.{Faults}
use Rattle.moo_eval_frame.specs.State.{Context}
use Rattle.moo_eval_access.specs.State.{State, ticked}
use Rattle.moo_eval_semantics.specs.Meaning.{Evaluates}

-- with these variables an expression has this value in every state that has a tick left, and takes that tick alone
abbrev pub GivesLeaf : (List ℕ → Option Tree) → Expr → Tree → Type 0
GivesLeaf variables e v = (c : Context) (s : State) → s.variables ≡ variables → 0 < s.ticks → Evaluates Faults c e s (Ok v) (ticked s)
