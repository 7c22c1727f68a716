use Rattle.moo_server_core.specs.Application.{silence}
use Rattle.moo_cli_serve.proofs.Coursing.{hands_none}
use Rattle.moo_cli_serve.proofs.console.Console.show.Goals as goal

pub returns-then-not-self-clause-handed : goal.returns-then-not-self-clause-handed
returns-then-not-self-clause-handed g c = (silence, hands_none g.S.Application.layer c.args.server.now)
