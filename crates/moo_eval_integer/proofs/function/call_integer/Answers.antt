use Rattle.std.proofs.Common.{sym}
use Rattle.moo_eval_frame.specs.Seen.{variables_of}
use Rattle.moo_syntax_node.proofs.Items.{map_some}
use Rattle.moo_eval_integer.proofs.Functions.{call_gives}
use Rattle.moo_eval_integer.proofs.function.call_integer.Goals as goal

pub returns-clause-value : goal.returns-clause-value
returns-clause-value c =
    map_some c.integer_for.result (λ n h. rw c.in_ok-variable.ensures (call_gives (variables_of c.args.active.now.variables) c.in_ok-function.ensures c.in_ok-take.ensures.taken c.in_ok-take-2.ensures.taken (sym c.in_ok-held.ensures) h)) c.integer_for.ensures
