use Rattle.std.proofs.Common.{◌≡◌, refl, sym, subst, true}
use Rattle.moo_server_core.specs.Seen.{seen}
use Rattle.moo_server_core.specs.Application.{silence}
use Rattle.moo_server_core.specs.Meaning.{Acts, acts_without_memory, at_moment_of, is_due}
use Rattle.moo_server_core.specs.Server.{state_of, under_way_of}
use Rattle.moo_server_core.specs.declared.event.Event as given
use Rattle.moo_server_core.specs.declared.event.Event.TheVariants as the
use Rattle.moo_server_core.proofs.Idle.{other}
use Rattle.moo_server_core.proofs.Out.{then_silence}
use Rattle.moo_server_core.proofs.server_core.ServerCore.act.Goals as goal

pub returns-in-Moment-clause-acts : goal.returns-in-Moment-clause-acts
returns-in-Moment-clause-acts g c =
    let l = g.S.Application.layer in (
      silence,
      subst (λ (event : given.Event). Acts l.meaning (seen event) (state_of l c.args.self.now) silence (state_of l (record c.args.self.now { moment = c.in-Moment.moment }))) (sym c.in-Moment.is) (refl, refl),
      sym (then_silence (under_way_of l c.args.self.now)),
    )

pub returns-in-Flush-clause-acts : goal.returns-in-Flush-clause-acts
returns-in-Flush-clause-acts g c =
    let l = g.S.Application.layer in (
      silence,
      subst (λ (event : given.Event). Acts l.meaning (seen event) (state_of l c.args.self.now) silence (state_of l c.args.self.now)) (sym c.in-Flush.is) (refl, refl),
      sym (then_silence (under_way_of l c.args.self.now)),
    )

pub returns-in-Open-clause-without_memory : goal.returns-in-Open-clause-without_memory
returns-in-Open-clause-without_memory g c = λ without. absurd (other g.S.Application.layer.meaning (state_of g.S.Application.layer c.args.self.now) c.args.event.now (the.Open c.in-Open.c) c.in-Open.is refl without)

pub returns-in-Bytes-clause-without_memory : goal.returns-in-Bytes-clause-without_memory
returns-in-Bytes-clause-without_memory g c = λ without.
    let l = g.S.Application.layer in
    let dropped = c.apply-in-Bytes.ensures.dropped (subst (λ (event : given.Event). acts_without_memory l.meaning (state_of l c.args.self.now) (seen event) ≡ true) c.in-Bytes.is without) in
    (dropped.0, subst (λ (event : given.Event). is_due l.meaning (state_of l c.apply-in-Bytes.new.self) ≡ is_due l.meaning (at_moment_of (seen event) (state_of l c.args.self.now))) (sym c.in-Bytes.is) dropped.1)

pub returns-in-Hangup-clause-without_memory : goal.returns-in-Hangup-clause-without_memory
returns-in-Hangup-clause-without_memory g c = λ without. absurd (other g.S.Application.layer.meaning (state_of g.S.Application.layer c.args.self.now) c.args.event.now (the.Hangup c.in-Hangup.c) c.in-Hangup.is refl without)

pub returns-in-Moment-clause-without_memory : goal.returns-in-Moment-clause-without_memory
returns-in-Moment-clause-without_memory g c = λ _.
    let l = g.S.Application.layer in
    let after = record c.args.self.now { moment = c.in-Moment.moment } in
    (refl, subst (λ (event : given.Event). is_due l.meaning (state_of l after) ≡ is_due l.meaning (at_moment_of (seen event) (state_of l c.args.self.now))) (sym c.in-Moment.is) refl)

pub returns-in-Flush-clause-without_memory : goal.returns-in-Flush-clause-without_memory
returns-in-Flush-clause-without_memory g c = λ _.
    let l = g.S.Application.layer in
    (refl, subst (λ (event : given.Event). is_due l.meaning (state_of l c.args.self.now) ≡ is_due l.meaning (at_moment_of (seen event) (state_of l c.args.self.now))) (sym c.in-Flush.is) refl)
