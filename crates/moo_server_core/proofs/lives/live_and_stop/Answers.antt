use Rattle.moo_server_core.proofs.Living.{live_met, stop_lived, stop_met}
use Rattle.moo_server_core.proofs.lives.live_and_stop.Goals as goal

pub returns-in-Ok-clause-lived : goal.returns-in-Ok-clause-lived
returns-in-Ok-clause-lived g c =
    stop_lived g.S.Application.layer g.D.Disk.kind g.D.CrashDisk.images c.stop.result c.args.life.now c.args.disk c.live.new.disk c.in-Ok.begin
    c.in-Ok.ensures.lived c.stop.ensures.stopped

pub returns-in-Ok-clause-met : goal.returns-in-Ok-clause-met
returns-in-Ok-clause-met g c =
    stop_met g.S.Application.layer g.D.Disk.kind g.D.CrashDisk.images c.stop.result c.args.life.now c.args.disk c.live.new.disk c.in-Ok.begin
    c.in-Ok.ensures.lived c.stop.ensures.met

pub returns-in-Err-clause-met : goal.returns-in-Err-clause-met
returns-in-Err-clause-met g c =
    live_met g.S.Application.layer g.D.Disk.kind g.D.CrashDisk.images c.args.life.now c.args.disk c.live.new.disk c.in-Err.cause c.in-Err.ensures.met
