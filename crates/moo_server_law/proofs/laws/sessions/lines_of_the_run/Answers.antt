use Rattle.moo_server_law.proofs.RunTyped as run
use Rattle.moo_server_law.proofs.laws.sessions.lines_of_the_run.Goals as goal

pub returns : goal.returns
returns c = run.lines_of_the_run
