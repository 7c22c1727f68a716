use Rattle.moo_cli_serve.proofs.Hearing.{listens_if}
use Rattle.moo_cli_serve.proofs.silence.Silence.note.Goals as goal

pub returns-in-Open : goal.returns-in-Open
returns-in-Open c = listens_if c.set.result c.args.now c.in-Open.c c.args.event.now c.args.self.now c.set.new.self c.in-Open.is c.set.ensures.heard c.set.ensures.limit
