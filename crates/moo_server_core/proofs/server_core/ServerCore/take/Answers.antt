use Rattle.std.proofs.Common.{None, refl, sym, ◌∙◌}
use Rattle.moo_server_core.specs.Seen.{seen}
use Rattle.moo_server_core.specs.Application.{silence}
use Rattle.moo_server_core.specs.Server.{on_its_way, state_of, waiting_of}
use Rattle.moo_server_core.proofs.Out.{then_silence}
use Rattle.moo_server_core.proofs.Running.{survives_halt}
use Rattle.moo_server_core.proofs.Taken.{isnt_flush, passed_over}
use Rattle.moo_server_core.proofs.server_core.ServerCore.take.Goals as goal

pub returns-then-not-is_flush-clause-takes : goal.returns-then-not-is_flush-clause-takes
returns-then-not-is_flush-clause-takes g c =
    let l = g.S.Application.layer in (
      record { event = seen c.args.event.now; report = None; mark = None; out = silence },
      refl,
      passed_over l.meaning g.D.Disk.kind (state_of l c.args.self.now) c.args.self.now.writing c.args.disk.now (seen c.args.event.now) (cc) (cc) (cc),
      refl,
      sym (then_silence (waiting_of l c.args.self.now)),
      c.requires.alive,
    )

pub returns-in-Err-clause-memory : goal.returns-in-Err-clause-memory
returns-in-Err-clause-memory g c = λ _. (
  refl,
  c.forget.ensures.waiting ∙ c.try_take.ensures.waiting,
  λ h. survives_halt g.D.Disk.kind c.args.disk.now c.try_take.new.disk (on_its_way c.args.self.now) (c.try_take.ensures.gains h),
)

pub returns-in-Err-clause-wanting : goal.returns-in-Err-clause-wanting
returns-in-Err-clause-wanting g c = λ _. c.in-Err.ensures.memory

pub returns-then-not-is_flush-clause-call : goal.returns-then-not-is_flush-clause-call
returns-then-not-is_flush-clause-call g c = λ flush. absurd (isnt_flush (seen c.args.event.now) (cc) flush)

pub returns-in-Ok-clause-call : goal.returns-in-Ok-clause-call
returns-in-Ok-clause-call g c = c.try_take.ensures.call

pub returns-in-Err-clause-halts : goal.returns-in-Err-clause-halts
returns-in-Err-clause-halts g c = λ _. c.in-Err.ensures.halts
