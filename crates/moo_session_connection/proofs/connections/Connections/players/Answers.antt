use Rattle.moo_session_connection.proofs.Numbers.{few_answer}
use Rattle.moo_session_connection.proofs.connections.Connections.players.Goals as goal

pub returns-clause-few : goal.returns-clause-few
returns-clause-few c = few_answer c.players_on.result (λ players. players.items) c.self.inside.clients.items _ c.deref.ensures.value c.self.invariant.0.0 c.self.invariant.1 c.players_on.ensures
