use Rattle.std.proofs.Common.{◌≡◌, None, sym, ◌∙◌, ap, subst}
use Rattle.moo_builtin.specs.Telling.{Faults}
use Rattle.moo_session_connection.specs.Connections.{Connections, client_here}
use Rattle.moo_session.specs.Events.{dropped}
use Rattle.moo_server_core.specs.declared.application.Input as given
use Rattle.moo_server_core.specs.Application.{seen_happening}
use Rattle.moo_server.specs.Live.{Becomes, settled}
use Rattle.moo_server.proofs.happening.is_dropped.Goals as goal

pub returns-in-Receives-clause-nothing : goal.returns-in-Receives-clause-nothing
returns-in-Receives-clause-nothing c = λ is moment.
    let s = c.args.live.now in
    let nobody : client_here c.in-Receives.c s.session.connections ≡ None =
    ap (λ (x : Connections). client_here c.in-Receives.c x) (sym c.connections.ensures) ∙ c.is_leaving.ensures.left (sym c.is_leaving.ensures.is ∙ is) in
    subst (λ (h : given.Input). Becomes Faults (seen_happening h) moment (settled s) (settled s)) (sym c.in-Receives.is) (dropped nobody)
