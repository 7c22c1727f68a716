use Rattle.std.proofs.Common.{subst}
use Rattle.moo_session_connection.specs.Connections.{HaveOwnNumbers}
use Rattle.moo_session_connection.proofs.Numbers.{nobody_left}
use Rattle.moo_session_connection.proofs.connections.Connections.is_leaving.Goals as goal

pub returns-clause-left : goal.returns-clause-left
returns-clause-left c = λ is. nobody_left c.args.number c.args.self.now (subst HaveOwnNumbers c.self.view_is c.self.invariant.2) is
