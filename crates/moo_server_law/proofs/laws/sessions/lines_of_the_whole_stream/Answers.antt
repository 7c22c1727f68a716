use Rattle.moo_builtin.specs.Telling.{Faults}
use Rattle.moo_server_law.proofs.Typed.{is_typed}
use Rattle.moo_server_law.proofs.laws.sessions.lines_of_the_whole_stream.Goals as goal

pub returns : goal.returns
returns c = λ n stream typed s h. (is_typed Faults n h).same
