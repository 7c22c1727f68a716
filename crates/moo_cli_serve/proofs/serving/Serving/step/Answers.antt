use Rattle.std.proofs.Common.{inl, inr, refl, ap}
use Rattle.std.proofs.lemmas.Result.{err_from_is_err_and}
use Rattle.moo_cli_serve.specs.Rounds.{given_in}
use Rattle.moo_cli_serve.specs.declared.serving.Round.TheVariants as round
use Rattle.moo_cli_serve.proofs.Rounding.{follows_steps}
use Rattle.moo_cli_serve.proofs.Serviced.{goes_on, is_over, stepped, turned}
use Rattle.moo_cli_serve.proofs.serving.Serving.step.Goals as goal

pub returns-in_err-found-clause-ended : goal.returns-in_err-found-clause-ended
returns-in_err-found-clause-ended g c =
    let p = err_from_is_err_and c.from_residual.result c.from_residual.ensures.1 in rw (p.1, p.2) (c.in_err-found.ensures.ended.0, inl c.in_err-found.ensures.ended.1)

pub returns-in-Busy-clause-goes : goal.returns-in-Busy-clause-goes
returns-in-Busy-clause-goes g c = λ _. (
  c.round.new.self,
  turned g.S.Application.layer g.D.Disk.kind c.in_ok-found.found c.args.self.now c.round.new.self (goes_on c.in_ok-found.found (ap is_over c.in-Busy.is)) c.in_ok-found.ensures.over c.in_ok-found.ensures.round,
  round.Busy,
  refl,
)

pub returns-in_ok-wait-in-Idle-clause-follows : goal.returns-in_ok-wait-in-Idle-clause-follows
returns-in_ok-wait-in-Idle-clause-follows g c =
    follows_steps g.S.Application.layer g.D.Disk.kind c.round.new.self.server c.round.new.self.disk c.wait.new.self.server c.wait.new.self.disk
    c.in_ok-wait-in-Idle.ensures.waits.server_is c.in_ok-wait-in-Idle.ensures.waits.disk_is c.in_ok-found.ensures.follows

pub returns-in_ok-wait-in-Idle-clause-goes : goal.returns-in_ok-wait-in-Idle-clause-goes
returns-in_ok-wait-in-Idle-clause-goes g c = λ _. (
  c.round.new.self,
  turned g.S.Application.layer g.D.Disk.kind c.in_ok-found.found c.args.self.now c.round.new.self (goes_on c.in_ok-found.found (ap is_over c.in-Idle.is)) c.in_ok-found.ensures.over c.in_ok-found.ensures.round,
  round.Idle,
  (c.in_ok-found.ensures.idle c.in-Idle.is, c.in_ok-wait-in-Idle.ensures.waits),
)

pub returns-in_err-wait-in-Idle-clause-follows : goal.returns-in_err-wait-in-Idle-clause-follows
returns-in_err-wait-in-Idle-clause-follows g c =
    follows_steps g.S.Application.layer g.D.Disk.kind c.round.new.self.server c.round.new.self.disk c.wait.new.self.server c.wait.new.self.disk
    c.in_err-wait-in-Idle.ensures.waits.server_is c.in_err-wait-in-Idle.ensures.waits.disk_is c.in_ok-found.ensures.follows

pub returns-in_err-wait-in-Idle-clause-ended : goal.returns-in_err-wait-in-Idle-clause-ended
returns-in_err-wait-in-Idle-clause-ended g c =
    let p = err_from_is_err_and c.from_residual-in_err-wait-in-Idle.result c.from_residual-in_err-wait-in-Idle.ensures.1 in
    let turns =
    turned g.S.Application.layer g.D.Disk.kind c.in_ok-found.found c.args.self.now c.round.new.self (goes_on c.in_ok-found.found (ap is_over c.in-Idle.is)) c.in_ok-found.ensures.over c.in_ok-found.ensures.round in
    rw (p.1, p.2)
    (given_in g.S.Application.layer g.D.Disk.kind turns.rounds, inr (c.in_err-wait-in-Idle.ensures.outside, ((c.round.new.self, turns, round.Idle, (c.in_ok-found.ensures.idle c.in-Idle.is, c.in_err-wait-in-Idle.ensures.waits)), refl)))

pub returns-in-Over-clause-over : goal.returns-in-Over-clause-over
returns-in-Over-clause-over g c = λ _. (
  c.in_ok-found.ensures.over.0 c.in-Over.is,
  stepped g.S.Application.layer g.D.Disk.kind c.args.self.now c.round.new.self c.in_ok-found.ensures.round,
)
