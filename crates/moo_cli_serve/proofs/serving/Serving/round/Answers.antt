use Rattle.std.proofs.Common.{[], inl, inr, refl, rules}
use Rattle.std.proofs.lemmas.Result.{err_from_is_err_and}
use Rattle.moo_cli_serve.specs.Rounds.{IsClosed, given_in}
use Rattle.moo_cli_serve.specs.Service.{Turns}
use Rattle.moo_cli_serve.proofs.Coursing.{course_hands, course_none}
use Rattle.moo_cli_serve.proofs.Events.{course_ended, course_turned}
use Rattle.moo_cli_serve.proofs.Rounding.{follows_end}
use Rattle.moo_cli_serve.proofs.Serviced.{ends_hands}
use Rattle.moo_cli_serve.proofs.serving.Serving.round.Goals as goal

pub returns-then-is_closed-clause-follows : goal.returns-then-is_closed-clause-follows
returns-then-is_closed-clause-follows g c = record { still = c.requires.still; continues = c.requires.continues }

pub returns-then-is_closed-clause-course : goal.returns-then-is_closed-clause-course
returns-then-is_closed-clause-course g c = ([], course_none g.S.Application.layer g.D.Disk.kind c.args.self.now.server c.args.self.now.disk)

pub returns-then-is_closed-clause-round : goal.returns-then-is_closed-clause-round
returns-then-is_closed-clause-round g c = let closed : IsClosed c.args.self.now.server = search rules in inl (closed, refl)

pub returns-then-is_closed-clause-over : goal.returns-then-is_closed-clause-over
returns-then-is_closed-clause-over g c = let closed : IsClosed c.args.self.now.server = search rules in (λ over. closed, λ is. refl)

pub turn-turned-requires : goal.turn-turned-requires
turn-turned-requires g c = record { still = c.requires.still; continues = c.requires.continues }

pub returns-in_err-turned-clause-follows : goal.returns-in_err-turned-clause-follows
returns-in_err-turned-clause-follows g c =
    follows_end g.S.Application.layer g.D.Disk.kind
    c.turn-turned.new.self.server c.log_lines.new.server c.turn-turned.new.self.disk c.in_err-turned.ensures.follows c.log_lines.ensures.handed

pub returns-in_err-turned-clause-course : goal.returns-in_err-turned-clause-course
returns-in_err-turned-clause-course g c =
    let ended = c.in_err-turned.ensures.ended in
    let handed = c.log_lines.ensures.handed in (
      ended.0,
      course_hands g.S.Application.layer g.D.Disk.kind c.args.self.now.server c.turn-turned.new.self.server c.log_lines.new.server c.args.self.now.disk c.turn-turned.new.self.disk ended.0 handed.0
          (course_ended g.S.Application.layer g.D.Disk.kind _ c.args.self.now ended.0 c.turn-turned.new.self ended.1) handed.1,
    )

pub returns-in_err-turned-clause-round : goal.returns-in_err-turned-clause-round
returns-in_err-turned-clause-round g c = search rules

pub returns-in_err-turned-clause-over : goal.returns-in_err-turned-clause-over
returns-in_err-turned-clause-over g c = search rules

pub returns-clause-follows : goal.returns-clause-follows
returns-clause-follows g c =
    follows_end g.S.Application.layer g.D.Disk.kind
    c.turn-turned.new.self.server c.log_lines.new.server c.turn-turned.new.self.disk c.in_ok-turned.ensures.follows c.log_lines.ensures.handed

pub returns-clause-course : goal.returns-clause-course
returns-clause-course g c =
    let turns : Turns g.S.Application.layer g.D.Disk.kind c.args.self.now (record c.turn-turned.new.self { server = c.log_lines.new.server; console = c.log_lines.new.console }) =
    record { turned = c.turn-turned.new.self; rounds = c.in_ok-turned.ensures.round; logs = c.log_lines.ensures; same = refl } in (
      given_in g.S.Application.layer g.D.Disk.kind turns.rounds,
      course_turned g.S.Application.layer g.D.Disk.kind c.args.self.now (record c.turn-turned.new.self { server = c.log_lines.new.server; console = c.log_lines.new.console }) turns,
    )

pub returns-clause-round : goal.returns-clause-round
returns-clause-round g c = inr (record { turned = c.turn-turned.new.self; rounds = c.in_ok-turned.ensures.round; logs = c.log_lines.ensures; same = refl })

pub returns-clause-over : goal.returns-clause-over
returns-clause-over g c = c.found.ensures.over

pub returns-then-is_closed-clause-idle : goal.returns-then-is_closed-clause-idle
returns-then-is_closed-clause-idle g c is = absurd cc

pub returns-in_err-turned-clause-idle : goal.returns-in_err-turned-clause-idle
returns-in_err-turned-clause-idle g c = search rules

pub returns-clause-idle : goal.returns-clause-idle
returns-clause-idle g c = c.found.ensures.idle

pub returns-then-is_closed-clause-ended : goal.returns-then-is_closed-clause-ended
returns-then-is_closed-clause-ended g c = tt

pub returns-in_err-turned-clause-ended : goal.returns-in_err-turned-clause-ended
returns-in_err-turned-clause-ended g c =
    let p = err_from_is_err_and c.from_residual.result c.from_residual.ensures.1 in
    let ended = c.in_err-turned.ensures.ended in
    rw (p.1, p.2)
    (ended.0, ends_hands g.S.Application.layer g.D.Disk.kind _ c.args.self.now ended.0 c.turn-turned.new.self c.log_lines.new.server c.log_lines.new.console ended.1 c.log_lines.ensures.handed)

pub returns-clause-ended : goal.returns-clause-ended
returns-clause-ended g c = tt
