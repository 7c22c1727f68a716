use Rattle.std.proofs.Common.{◌≡◌, None, ap, subst}
use Rattle.moo_session_connection.specs.Connections.{Connections, AreInOrder, client_here}
use Rattle.moo_session_connection.specs.Clients.{player_on}
use Rattle.moo_session_connection.proofs.Numbers.{nobody_here}
use Rattle.moo_session_connection.proofs.Rows.{joined_order}
use Rattle.moo_session_connection.proofs.connections.Connections.join.Goals as goal

pub put-requires-clause-order : goal.put-requires-clause-order
put-requires-clause-order c =
    let order : AreInOrder c.args.self.now.clients = subst (λ (s : Connections). AreInOrder s.clients) c.self.view_is c.self.invariant.0.0 in
    let free : client_here c.args.number c.args.self.now ≡ None = nobody_here c.args.number c.args.self.now c.requires in
    joined_order c.args.self.now.clients c.args.number c.args.moment c.place_for-place.result c.in_ok-client.client c.place_for-place.ensures.place c.in_ok-client.ensures free order

pub put-requires-clause-nobody : goal.put-requires-clause-nobody
put-requires-clause-nobody c = ap player_on c.in_ok-client.ensures
