use Rattle.std.proofs.Common.{[]}
use Rattle.moo_cli_serve.proofs.Coursing.{course_none}
use Rattle.moo_cli_serve.proofs.giving.give_if_open.Goals as goal

pub returns-then-matches-clause-course : goal.returns-then-matches-clause-course
returns-then-matches-clause-course g c = ([], course_none g.S.Application.layer g.D.Disk.kind c.args.server.now c.args.disk.now)
