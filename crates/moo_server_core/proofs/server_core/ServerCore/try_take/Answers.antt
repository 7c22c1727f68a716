use Rattle.std.proofs.Common.{◌≡◌, Option, None, false, refl, sym, ◌∙◌, ap, subst}
use Rattle.moo_server_core.specs.Seen.{Event, Flush, is_flush, seen}
use Rattle.moo_server_core.specs.Application.{Output, then_out}
use Rattle.moo_server_core.specs.Meaning.{is_due, is_passed_over, refusal}
use Rattle.moo_server_core.specs.Server.{OpenFollows, state_of}
use Rattle.moo_server_core.specs.declared.server_core.Open.{Open}
use Rattle.moo_server_core.proofs.Heard.{if_err_any, if_err_map, not_ok}
use Rattle.moo_server_core.proofs.Idle.{flush_wants, idle_if, none_if_due}
use Rattle.moo_server_core.proofs.Reported.{on_ok_map, opens_follow}
use Rattle.moo_server_core.proofs.Taken.{acted, flush_is, flushed, isnt_flush, over_if_none}
use Rattle.moo_server_core.proofs.server_core.ServerCore.try_take.Goals as goal

pub returns-then-is_flush-clause-takes : goal.returns-then-is_flush-clause-takes
returns-then-is_flush-clause-takes g c =
    let l = g.S.Application.layer in
    let before = state_of l c.args.self.now in
    let flush : seen c.args.event.now ≡ Flush = flush_is (seen c.args.event.now) (sym c.is_flush.ensures ∙ c.if-is_flush.true) in
    let turns = c.in_ok-flush.ensures.turns in
    on_ok_map c.begin_due_checkpoint.result
    (λ marks. (
      record { event = Flush; report = turns.0; mark = marks.0; out = then_out turns.1 marks.1 },
      sym flush,
      flushed l.meaning g.D.Disk.kind before (state_of l c.flush.new.self) (state_of l c.begin_due_checkpoint.new.self)
          c.args.self.now.writing c.flush.new.self.writing c.begin_due_checkpoint.new.self.writing c.args.disk.now c.flush.new.disk turns.0 marks.0 turns.1 marks.1
          (subst (λ (event : Event). refusal l.meaning before event ≡ None) flush c.requires.accepted)
          (subst (λ (event : Event). is_passed_over l.meaning before event ≡ false) flush c.requires.counts)
          turns.2 marks.2 marks.3 marks.4 c.flush.ensures.gains,
      turns.2.counts,
      marks.5 ∙ ap (λ (out : Output). then_out out marks.1) (turns.3 ∙ ap (λ (out : Output). then_out out turns.1) c.requires.follows.still),
    ))
    c.begin_due_checkpoint.ensures.marks

pub returns-then-is_flush-clause-follows : goal.returns-then-is_flush-clause-follows
returns-then-is_flush-clause-follows g c =
    on_ok_map c.begin_due_checkpoint.result
    (λ marks. opens_follow g.S.Application.layer.meaning g.D.Disk.kind marks.0 c.flush.new.self.writing c.begin_due_checkpoint.new.self.writing c.flush.new.disk marks.3 c.in_ok-flush.ensures.follows)
    c.begin_due_checkpoint.ensures.marks

pub returns-clause-takes : goal.returns-clause-takes
returns-clause-takes g c =
    let l = g.S.Application.layer in
    let before = state_of l c.args.self.now in
    let event = seen c.args.event.now in
    let other : is_flush event ≡ false = sym c.is_flush.ensures ∙ c.if-is_flush.false in
    let acts = c.in_ok-act.ensures.acts in
    on_ok_map c.begin_due_checkpoint-2.result
    (λ marks. (
      record { event = event; report = None; mark = marks.0; out = then_out acts.0 marks.1 },
      refl,
      acted l.meaning g.D.Disk.kind before (state_of l c.act.new.self) (state_of l c.begin_due_checkpoint-2.new.self)
          c.args.self.now.writing c.act.new.self.writing c.begin_due_checkpoint-2.new.self.writing c.args.disk.now event marks.0 acts.0 marks.1 other
          c.requires.accepted c.requires.counts acts.1 c.act.ensures.writing marks.2 marks.3 marks.4,
      refl,
      marks.5 ∙ ap (λ (out : Output). then_out out marks.1) (acts.2 ∙ ap (λ (out : Output). then_out out acts.0) c.requires.follows.still),
    ))
    c.begin_due_checkpoint-2.ensures.marks

pub returns-clause-follows : goal.returns-clause-follows
returns-clause-follows g c =
    on_ok_map c.begin_due_checkpoint-2.result
    (λ marks. opens_follow g.S.Application.layer.meaning g.D.Disk.kind marks.0 c.act.new.self.writing c.begin_due_checkpoint-2.new.self.writing c.args.disk.now marks.3
    (subst (λ (w : Option Open). OpenFollows g.D.Disk.kind w c.args.disk.now) (sym c.act.ensures.writing) c.requires.follows.continues))
    c.begin_due_checkpoint-2.ensures.marks

pub returns-in_err-flush-clause-memory : goal.returns-in_err-flush-clause-memory
returns-in_err-flush-clause-memory g c =
    let flush : seen c.args.event.now ≡ Flush = flush_is (seen c.args.event.now) (sym c.is_flush.ensures ∙ c.if-is_flush.true) in
    if_err_any c.from_residual.result (
      c.requires.accepted,
      c.requires.counts,
      flush_wants g.S.Application.layer c.args.self.now (seen c.args.event.now) flush (λ none. absurd (not_ok (c.in_err-flush.ensures.without_memory none).0)),
    )

pub returns-then-is_flush-clause-memory : goal.returns-then-is_flush-clause-memory
returns-then-is_flush-clause-memory g c =
    let l = g.S.Application.layer in
    let flush : seen c.args.event.now ≡ Flush = flush_is (seen c.args.event.now) (sym c.is_flush.ensures ∙ c.if-is_flush.true) in
    if_err_map c.begin_due_checkpoint.result
    (λ due. (
      c.requires.accepted,
      c.requires.counts,
      flush_wants l c.args.self.now (seen c.args.event.now) flush
          (λ none. ap (is_due l.meaning) (sym (c.in_ok-flush.ensures.without_memory none).1) ∙ due),
    ))
    c.begin_due_checkpoint.ensures.due

pub returns-in_err-act-clause-memory : goal.returns-in_err-act-clause-memory
returns-in_err-act-clause-memory g c =
    let l = g.S.Application.layer in
    if_err_any c.from_residual-in_err-act.result (
      c.requires.accepted,
      c.requires.counts,
      idle_if l.meaning (state_of l c.args.self.now) (seen c.args.event.now) (λ without. absurd (not_ok (c.in_err-act.ensures.without_memory without).0)),
    )

pub returns-clause-memory : goal.returns-clause-memory
returns-clause-memory g c =
    let l = g.S.Application.layer in
    if_err_map c.begin_due_checkpoint-2.result
    (λ due. (
      c.requires.accepted,
      c.requires.counts,
      idle_if l.meaning (state_of l c.args.self.now) (seen c.args.event.now) (λ without. sym (c.in_ok-act.ensures.without_memory without).1 ∙ due),
    ))
    c.begin_due_checkpoint-2.ensures.due

pub returns-in_err-flush-clause-call : goal.returns-in_err-flush-clause-call
returns-in_err-flush-clause-call g c = λ _. c.flush.ensures.call

pub returns-in_err-flush-clause-halts : goal.returns-in_err-flush-clause-halts
returns-in_err-flush-clause-halts g c =
    if_err_any c.from_residual.result (λ _. record { call = c.flush.ensures.call; over = λ _. c.in_err-flush.ensures.over })

pub returns-then-is_flush-clause-call : goal.returns-then-is_flush-clause-call
returns-then-is_flush-clause-call g c = λ _. c.flush.ensures.call

pub returns-then-is_flush-clause-halts : goal.returns-then-is_flush-clause-halts
returns-then-is_flush-clause-halts g c =
    let l = g.S.Application.layer in
    let turns = c.in_ok-flush.ensures.turns in
    if_err_map c.begin_due_checkpoint.result
    (λ due. λ _. record {
      call = c.flush.ensures.call;
      over = over_if_none l.meaning g.D.Disk.kind (state_of l c.args.self.now) (state_of l c.flush.new.self) c.args.self.now.writing c.flush.new.self.writing
          c.args.disk.now c.flush.new.disk turns.0 turns.1 turns.2 (none_if_due l c.flush.new.self due);
    })
    c.begin_due_checkpoint.ensures.due

pub returns-in_err-act-clause-call : goal.returns-in_err-act-clause-call
returns-in_err-act-clause-call g c = λ flush. absurd (isnt_flush (seen c.args.event.now) (sym c.is_flush.ensures ∙ c.if-is_flush.false) flush)

pub returns-in_err-act-clause-halts : goal.returns-in_err-act-clause-halts
returns-in_err-act-clause-halts g c =
    if_err_any c.from_residual-in_err-act.result (λ flush. absurd (isnt_flush (seen c.args.event.now) (sym c.is_flush.ensures ∙ c.if-is_flush.false) flush))

pub returns-clause-call : goal.returns-clause-call
returns-clause-call g c = λ flush. absurd (isnt_flush (seen c.args.event.now) (sym c.is_flush.ensures ∙ c.if-is_flush.false) flush)

pub returns-clause-halts : goal.returns-clause-halts
returns-clause-halts g c =
    if_err_any c.begin_due_checkpoint-2.result (λ flush. absurd (isnt_flush (seen c.args.event.now) (sym c.is_flush.ensures ∙ c.if-is_flush.false) flush))
