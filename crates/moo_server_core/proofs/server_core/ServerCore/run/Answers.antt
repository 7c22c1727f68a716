use Rattle.std.proofs.Common.{Err, refl, sym, ◌∙◌, ap, ⊎_elim}
use Rattle.moo_server_core.specs.Seen.{seen}
use Rattle.moo_server_core.proofs.Running.{goes_more, goes_none, run_stops, runs_all, runs_halted}
use Rattle.moo_server_core.proofs.server_core.ServerCore.run.Goals as goal

pub returns-then-self-clause-ran : goal.returns-then-self-clause-ran
returns-then-self-clause-ran g c =
    runs_halted g.S.Application.layer g.D.Disk.kind c.args.self.now c.args.disk.now c.args.events.now c.if-self.true

pub loop-done-init : goal.loop-done-init
loop-done-init g c = record {
  goes = goes_none g.S.Application.layer g.D.Disk.kind c.args.self.now c.args.disk.now c.args.events.now;
  follows = c.requires;
  alive = (cc);
  still = λ _. refl;
  honest = ((λ h. h), (λ h. h));
}

pub loop-done-preserved : goal.loop-done-preserved
loop-done-preserved g c =
    let inv = c.loop-done.invariant in
    let facts = c.in_default.ensures in
    let lt = c.loop-done-test.true in
    record {
      goes = goes_more g.S.Application.layer g.D.Disk.kind c.args.self.now c.loop-done.self c.take.new.self c.args.disk.now c.loop-done.disk c.take.new.disk c.args.events.now c.loop-done.done
          c.index-events-done.result lt c.index-events-done.is inv.alive (λ nothing. ⊎_elim facts.still facts.idle nothing) facts.call facts.honest.0 inv.goes facts.takes;
      follows = facts.follows;
      alive = facts.takes.5;
      still = λ all. facts.still (λ flush. all c.loop-done.done c.index-events-done.result lt (ap seen (sym c.index-events-done.is) ∙ flush)) ∙ inv.still all;
      honest = ((λ h. facts.honest.0 (inv.honest.0 h)), (λ h. inv.honest.1 (facts.honest.1 h)));
    }

pub returns-in-Err-clause-still : goal.returns-in-Err-clause-still
returns-in-Err-clause-still g c = λ all. c.take.ensures.still (λ flush. all c.loop-done.done c.index-events-done.result c.loop-done-test.true (ap seen (sym c.index-events-done.is) ∙ flush)) ∙ c.loop-done.invariant.still all

pub returns-in-Err-clause-halted : goal.returns-in-Err-clause-halted
returns-in-Err-clause-halted g c = λ halted. absurd (cc)

pub returns-in-Err-clause-ran : goal.returns-in-Err-clause-ran
returns-in-Err-clause-ran g c =
    let inv = c.loop-done.invariant in
    run_stops g.S.Application.layer g.D.Disk.kind c.args.self.now c.loop-done.self c.take.new.self c.args.disk.now c.loop-done.disk c.take.new.disk c.args.events.now c.loop-done.done
    c.index-events-done.result c.in-Err.cause c.loop-done-test.true c.index-events-done.is (cc) inv.alive c.take.ensures.at_most_once (λ is. c.in-Err.ensures.halts (ap Err is)) (λ nothing. ⊎_elim c.take.ensures.still c.take.ensures.idle nothing)
    (λ is. c.in-Err.ensures.memory (ap Err is)) (λ is. c.in-Err.ensures.wanting (ap Err is)) c.in-Err.ensures.refused inv.goes

pub returns-clause-halted : goal.returns-clause-halted
returns-clause-halted g c = λ halted. absurd (cc)

pub returns-clause-ran : goal.returns-clause-ran
returns-clause-ran g c =
    runs_all g.S.Application.layer g.D.Disk.kind c.args.self.now c.loop-done.self c.args.disk.now c.loop-done.disk c.args.events.now c.loop-done.done
    c.loop-done-test.false c.loop-done.invariant.goes
