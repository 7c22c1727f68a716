-- The arguments of calls.
use Rattle.std.specs.Prelude.{◌≡◌, ◌⊎◌, List, Bool, true, false, Result, Ok, Err}
use Rattle.moo_value.specs.Tree.{Tree}
use Rattle.moo_syntax_ast.specs.Tree.{Items}
use Rattle.moo_syntax_node.specs.declared.node.NodeItem.{NodeItem, Element', Splice', Optional, Defaulted'}
use Rattle.moo_builtin_operator.specs.Places.{made_list}
use Rattle.moo_builtin.specs.Telling.{Telling}
use Rattle.moo_eval_access.specs.State.{State}
use Rattle.moo_eval_frame.specs.Outcome.{Failure, answers}
use Rattle.moo_eval_frame.specs.State.{Context}
use Rattle.moo_eval_semantics.specs.Meaning.{EvaluatesAll}

-- whether an item is a list that is spliced in
abbrev pub is_splice : NodeItem → Bool
is_splice (Element' p e) = false
is_splice (Splice' p e) = true
is_splice (Optional v) = false
is_splice (Defaulted' v p e) = false

-- the values of the items of a call, or why there are none: an item has none, or they make no list
abbrev pub Collects : Telling → Context → Items → State → Result (List Tree) Failure → State → Type 0
Collects T c items s (Ok vs) s' = EvaluatesAll T c items s (Ok vs) s'
Collects T c items s (Err failure) s' = EvaluatesAll T c items s (Err failure) s' ⊎ ((vs : List Tree) × EvaluatesAll T c items s (Ok vs) s' × (answers (made_list vs) ≡ Err failure))
