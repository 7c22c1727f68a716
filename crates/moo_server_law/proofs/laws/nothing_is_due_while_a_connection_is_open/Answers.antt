use Rattle.moo_server_law.proofs.Due.{nothing_is_due}
use Rattle.moo_server_law.proofs.laws.nothing_is_due_while_a_connection_is_open.Goals as goal

pub returns : goal.returns
returns c = nothing_is_due
