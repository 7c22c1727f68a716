-- The codes of handlers.
use Rattle.std.specs.Prelude.{◌≡◌, List, Result, Ok, Err}
use Rattle.std.specs.declared.vec.Vec.{Vec}
use Rattle.std.specs.declared.alloc.Global.{Global}
use Rattle.moo_value.specs.Tree.{Tree}
use Rattle.moo_value.specs.declared.value.Value.{Value}
use Rattle.moo_syntax_ast.specs.Tree.{Codes}
use Rattle.moo_syntax_node.specs.declared.node.NodeCodes.{NodeCodes}
use Rattle.moo_builtin.specs.Telling.{Telling}
use Rattle.moo_eval_control.specs.Catching.{guards, coded}
use Rattle.moo_eval_frame.specs.Outcome.{Stop, Failure}
use Rattle.moo_eval_frame.specs.State.{Context}
use Rattle.moo_eval_frame.specs.declared.outcome.Stop as code_stop
use Rattle.moo_eval_frame.specs.Seen.{stop_of}
use Rattle.moo_eval_control.specs.SeenCatching.{code_values}
use Rattle.moo_eval_access.specs.State.{State, trace}
use Rattle.moo_eval_semantics.specs.Meaning.{EvaluatesAll}

-- the codes of a handler have these values, or stop
abbrev pub GivesCodes : Telling → Context → Codes → State → Result (List Tree) Stop → State → Type 0
GivesCodes T c codes s r s' = (o : Result (List Tree) Failure) × EvaluatesAll T c (guards codes) s o s' × (coded c.frame.d (trace c s') o ≡ r)

-- what codes of a program give
abbrev pub seen_values : NodeCodes → Result (Vec Value Global) code_stop.Stop → Result (List Tree) Stop
seen_values codes (Ok vs) = Ok (code_values codes vs.items)
seen_values codes (Err stop) = Err (stop_of stop)
