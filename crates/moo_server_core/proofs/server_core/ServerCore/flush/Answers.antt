use Rattle.std.proofs.Common.{◌≡◌, Option, Some, inl, inr, sym, ◌∙◌, ap, subst}
use Rattle.moo_server_core.specs.Traces.{Done, Failed}
use Rattle.moo_server_core.specs.declared.server_core.Open.{Open}
use Rattle.moo_server_core.specs.Server.{MakesCallOf, turns_of}
use Rattle.moo_server_core.proofs.Heard.{if_err_any}
use Rattle.moo_server_core.proofs.Reported.{on_ok_map, turns}
use Rattle.moo_server_core.proofs.server_core.ServerCore.flush.Goals as goal

pub returns-in-Done-clause-turns : goal.returns-in-Done-clause-turns
returns-in-Done-clause-turns g c =
    let was : c.args.self.now.writing ≡ Some c.in-Some.open = cc in
    on_ok_map c.report.result
    (turns g.S.Application.layer g.D.Disk.kind c.args.self.now c.report.new.self c.take.new.self c.in-Some.open c.args.disk.now c.turn.new.disk Done
    was c.take.ensures.after c.report.ensures.writing (λ _ h. c.turn.ensures.done c.in-Done.is h) (λ _. c.turn.ensures.last c.in-Done.is) (c.turn.ensures.not_failed (λ is. absurd (cc (is, c.in-Done.is)))))
    c.report.ensures.reports

pub returns-in-Failed-clause-turns : goal.returns-in-Failed-clause-turns
returns-in-Failed-clause-turns g c =
    let was : c.args.self.now.writing ≡ Some c.in-Some.open = cc in
    on_ok_map c.report-in-Failed.result
    (turns g.S.Application.layer g.D.Disk.kind c.args.self.now c.report-in-Failed.new.self c.take.new.self c.in-Some.open c.args.disk.now c.turn.new.disk Failed
    was c.take.ensures.after c.report-in-Failed.ensures.writing (λ is. absurd (cc)) (λ is. absurd (cc)) (c.turn.ensures.failed c.in-Failed.is))
    c.report-in-Failed.ensures.reports

pub returns-in-More-clause-at_most_once : goal.returns-in-More-clause-at_most_once
returns-in-More-clause-at_most_once g c = inl (c.turn.ensures.not_failed (λ is. absurd (cc (is, c.in-More.is))))

pub returns-in-Done-clause-at_most_once : goal.returns-in-Done-clause-at_most_once
returns-in-Done-clause-at_most_once g c = inl (c.turn.ensures.not_failed (λ is. absurd (cc (is, c.in-Done.is))))

pub returns-in-Failed-clause-at_most_once : goal.returns-in-Failed-clause-at_most_once
returns-in-Failed-clause-at_most_once g c = inr (c.turn.ensures.failed c.in-Failed.is)

pub returns-in-More-clause-call : goal.returns-in-More-clause-call
returns-in-More-clause-call g c =
    let was : c.args.self.now.writing ≡ Some c.in-Some.open = cc in
    subst (λ (w : Option Open). MakesCallOf g.D.Disk.kind w c.args.disk.now c.turn.new.disk) (sym was)
    (record { call = c.turn.ensures.call; appends = λ h unharmed next. c.turn.ensures.appends h (λ failed. unharmed (c.turn.ensures.failed failed)) next })

pub returns-in-Done-clause-call : goal.returns-in-Done-clause-call
returns-in-Done-clause-call g c =
    let was : c.args.self.now.writing ≡ Some c.in-Some.open = cc in
    subst (λ (w : Option Open). MakesCallOf g.D.Disk.kind w c.args.disk.now c.turn.new.disk) (sym was)
    (record { call = c.turn.ensures.call; appends = λ h unharmed next. c.turn.ensures.appends h (λ failed. unharmed (c.turn.ensures.failed failed)) next })

pub returns-in-Failed-clause-call : goal.returns-in-Failed-clause-call
returns-in-Failed-clause-call g c =
    let was : c.args.self.now.writing ≡ Some c.in-Some.open = cc in
    subst (λ (w : Option Open). MakesCallOf g.D.Disk.kind w c.args.disk.now c.turn.new.disk) (sym was)
    (record { call = c.turn.ensures.call; appends = λ h unharmed next. c.turn.ensures.appends h (λ failed. unharmed (c.turn.ensures.failed failed)) next })

pub returns-in-Done-clause-over : goal.returns-in-Done-clause-over
returns-in-Done-clause-over g c =
    let was : c.args.self.now.writing ≡ Some c.in-Some.open = cc in
    if_err_any c.report.result (inl (ap turns_of was ∙ c.turn.ensures.last c.in-Done.is))

pub returns-in-Failed-clause-over : goal.returns-in-Failed-clause-over
returns-in-Failed-clause-over g c = if_err_any c.report-in-Failed.result (inr (c.turn.ensures.failed c.in-Failed.is))
