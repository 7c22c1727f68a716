-- The meaning of the program's catches.
use Rattle.std.specs.Prelude.{List, Box, Option, Some, None, Result, Ok, Err, map}
use Rattle.std.specs.declared.vec.Vec.{Vec}
use Rattle.std.specs.declared.alloc.Global.{Global}
use Rattle.moo_value.specs.declared.value.Value.{Value}
use Rattle.moo_value.specs.Tree.{Tree, error}
use Rattle.moo_value.specs.View.{trees}
use Rattle.moo_syntax_node.specs.declared.node.Node.{Node}
use Rattle.moo_syntax_node.specs.declared.node.NodeCodes.{NodeCodes, Any, Known, Listed'}
use Rattle.moo_syntax_ast.specs.Tree.{Expr, catch, catch_or, Codes}
use Rattle.moo_syntax_node.specs.Source.{source}
use Rattle.moo_eval_frame.specs.declared.outcome.Stop as code_stop
use Rattle.moo_eval_frame.specs.Outcome.{Stop}
use Rattle.moo_eval_frame.specs.Seen.{stop_of}

-- The values of codes: literal errors are their own, and others have these.
abbrev pub code_values : NodeCodes → List Value → List Tree
code_values Any vs = trees vs
code_values (Known es) vs = map (λ e. error e) es.items
code_values (Listed' shape items) vs = trees vs

abbrev pub seen_codes : Result (Vec Value Global) code_stop.Stop → Result (List Tree) Stop
seen_codes (Ok vs) = Ok (trees vs.items)
seen_codes (Err stop) = Err (stop_of stop)

-- a catch, with or without what it goes on to
abbrev pub catch_of : Expr → Codes → Option (Box Node Global) → Expr
catch_of a codes None = catch a codes
catch_of a codes (Some b) = catch_or a codes (source b.value)
