use Rattle.std.proofs.Common.{take}
use Rattle.moo_server_core.specs.Server.{Follows, with_disk}
use Rattle.moo_cli_serve.specs.Course.{Given}
use Rattle.moo_cli_serve.proofs.giving.give.Given as goal

abbrev pub invariant-loop-event : goal.invariant-loop-event
invariant-loop-event g l =
    Follows g.S.Application.layer g.D.Disk.kind (with_disk l.server l.disk)
    × Given g.S.Application.layer g.D.Disk.kind l.initial.server l.initial.disk (take l.event-index l.events) l.server l.disk
