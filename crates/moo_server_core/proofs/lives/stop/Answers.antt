use Rattle.std.proofs.Common.{refl, sym, subst}
use Rattle.moo_server_core.specs.declared.life.LifeStop.{LifeStop}
use Rattle.moo_server_core.specs.Lives.{HasNoImage, IsStopped}
use Rattle.moo_server_core.proofs.Living.{no_image}
use Rattle.moo_server_core.proofs.lives.stop.Goals as goal

pub returns-in-ServerOnly-clause-stopped : goal.returns-in-ServerOnly-clause-stopped
returns-in-ServerOnly-clause-stopped g c = (
  refl,
  subst (λ (s : LifeStop). IsStopped g.D.Disk.kind g.D.CrashDisk.images s c.args.disk c.args.disk) (sym c.in-ServerOnly.is) refl,
)

pub returns-in-Ok-clause-stopped : goal.returns-in-Ok-clause-stopped
returns-in-Ok-clause-stopped g c = (
  refl,
  subst (λ (s : LifeStop). IsStopped g.D.Disk.kind g.D.CrashDisk.images s c.args.disk c.in-Ok.left) (sym c.in-Crash.is)
      (λ h. record { left = c.in-Ok.ensures.left h; image = c.in-Ok.ensures.image h; honest_still = c.in-Ok.ensures.honest.0 h }),
)

pub returns-in-Err-clause-met : goal.returns-in-Err-clause-met
returns-in-Err-clause-met g c = (
  refl,
  subst (λ (s : LifeStop). HasNoImage g.D.CrashDisk.images s c.args.disk) (sym c.in-Crash.is)
      (no_image c.crash.result _ c.in-Crash.i _ c.in-Err.is c.crash.ensures.count),
  c.in-Err.ensures.same,
)
