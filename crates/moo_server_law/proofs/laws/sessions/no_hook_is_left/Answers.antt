use Rattle.moo_builtin.specs.Telling.{Faults}
use Rattle.moo_server_law.proofs.Hookless.{leave_none}
use Rattle.moo_server_law.proofs.laws.sessions.no_hook_is_left.Goals as goal

pub returns : goal.returns
returns c = leave_none Faults
