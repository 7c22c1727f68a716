use Rattle.std.proofs.Common.{sym, ◌∙◌}
use Rattle.moo_session_connection.specs.Connections.{client_here}
use Rattle.moo_session.proofs.InputSteps.{met, gone, someone}
use Rattle.moo_session.proofs.input.meet_line.Goals as goal

pub returns-then-is_absent : goal.returns-then-is_absent
returns-then-is_absent c = gone c.args.moment c.args.number c.args.line.now c.args.live.now (sym c.is_absent.ensures ∙ c.if-is_absent.true)

pub type_line-requires-clause-here : goal.type_line-requires-clause-here
type_line-requires-clause-here c = someone (client_here c.args.number c.args.live.now.session.connections) (sym c.is_absent.ensures ∙ c.if-is_absent.false)

pub returns : goal.returns
returns c = met c.run_hooks.result c.args.moment c.args.number c.args.line.now c.args.live.now c.type_line.new.live c.run_hooks.new.live (sym c.is_absent.ensures ∙ c.if-is_absent.false) c.in_ok-type_line.ensures c.run_hooks.ensures
