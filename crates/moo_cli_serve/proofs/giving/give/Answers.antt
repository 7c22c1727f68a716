use Rattle.std.proofs.Common.{◌≡◌, List, [], ◌∷◌, ◌++◌, ◌+◌, take, drop, Err, refl, sym, ◌∙◌, ap, subst, append_assoc, arith}
use Rattle.std.proofs.lemmas.List.{take-append-drop, take_more, take_all}
use Rattle.moo_server_core.specs.Application.{silence}
use Rattle.moo_server_core.specs.Server.{Runs, with_disk}
use Rattle.moo_server_core.specs.declared.event.Event.{Event}
use Rattle.moo_cli_serve.specs.Course.{Given}
use Rattle.moo_cli_serve.proofs.Coursing.{course_join, course_refused, follows_on, given_join, given_none, given_one, hands_none}
use Rattle.moo_cli_serve.proofs.giving.give.Goals as goal

pub loop-event-init : goal.loop-event-init
loop-event-init g c = (
  record { still = c.requires.still; continues = c.requires.continues },
  given_none g.S.Application.layer g.D.Disk.kind c.args.server.now c.args.disk.now,
)

pub returns-in-Err-clause-course : goal.returns-in-Err-clause-course
returns-in-Err-clause-course g c =
    let before = take c.loop-event.event-index c.args.events.now in
    let event = c.event-item.result in (
      before ++ take c.in-Err.fault.done (event ∷ []),
      course_join g.S.Application.layer g.D.Disk.kind c.args.server.now c.loop-event.server c.run.new.self c.args.disk.now c.loop-event.disk c.run.new.disk
          before (take c.in-Err.fault.done (event ∷ [])) c.loop-event.invariant.1.course
          (course_refused g.S.Application.layer g.D.Disk.kind c.loop-event.server c.run.new.self c.loop-event.disk c.run.new.disk
          event c.from_ref.result.now c.in-Err.fault c.from_ref.ensures.value c.in-Err.ensures.honest.0 c.in-Err.ensures.ran),
    )

pub loop-event-preserved : goal.loop-event-preserved
loop-event-preserved g c =
    let event = c.event-item.result in
    let more : take (c.loop-event.event-index + 1) c.args.events.now ≡ take c.loop-event.event-index c.args.events.now ++ event ∷ [] =
    take_more c.args.events.now c.loop-event.event-index event c.loop-event-test.true
    ∙ ap (λ (e : Event). take c.loop-event.event-index c.args.events.now ++ e ∷ []) (sym c.event-item.is) in (
      follows_on g.S.Application.layer g.D.Disk.kind c.forget.ensures.handed.0 c.run.new.self c.forget.new.server c.run.new.disk c.forget.ensures.handed.1 c.in_default.ensures.follows,
      subst
          (λ (es : List Event). Given g.S.Application.layer g.D.Disk.kind c.args.server.now c.args.disk.now es c.forget.new.server c.run.new.disk)
          (sym more)
          (given_join g.S.Application.layer g.D.Disk.kind c.args.server.now c.loop-event.server c.forget.new.server c.args.disk.now c.loop-event.disk c.run.new.disk
          (take c.loop-event.event-index c.args.events.now) (event ∷ []) c.loop-event.invariant.1
          (given_one g.S.Application.layer g.D.Disk.kind c.loop-event.server c.run.new.self c.forget.new.server c.loop-event.disk c.run.new.disk
          event c.from_ref.result.now c.in_default.field-0 c.from_ref.ensures.value c.in_default.ensures.all.0 c.in_default.ensures.honest.0 c.in_default.ensures.ran c.forget.ensures.handed c.forget.ensures.waiting c.forget.ensures.log)),
    )

pub returns-clause-all : goal.returns-clause-all
returns-clause-all g c =
    let end : take c.loop-event.event-index c.args.events.now ≡ c.args.events.now =
    take_all c.loop-event.event-index c.args.events.now (omega (arith, c.loop-event-test.false)) in
    subst (λ (es : List Event). Given g.S.Application.layer g.D.Disk.kind c.args.server.now c.args.disk.now es c.loop-event.server c.loop-event.disk) end c.loop-event.invariant.1

pub returns-in-Err-clause-refused : goal.returns-in-Err-clause-refused
returns-in-Err-clause-refused g c = record {
  taken = take c.loop-event.event-index c.args.events.now;
  event = c.event-item.result;
  rest = drop (c.loop-event.event-index + 1) c.args.events.now;
  all =
      sym (take-append-drop (c.loop-event.event-index + 1) c.args.events.now)
      ∙ ap (λ (es : List Event). es ++ drop (c.loop-event.event-index + 1) c.args.events.now)
      (take_more c.args.events.now c.loop-event.event-index c.event-item.result c.loop-event-test.true
      ∙ ap (λ (e : Event). take c.loop-event.event-index c.args.events.now ++ e ∷ []) (sym c.event-item.is))
      ∙ append_assoc (take c.loop-event.event-index c.args.events.now) (c.event-item.result ∷ []) (drop (c.loop-event.event-index + 1) c.args.events.now);
  mid = c.loop-event.server;
  between = c.loop-event.disk;
  gives = c.loop-event.invariant.1;
  fault = c.in-Err.fault;
  left = c.run.new.self;
  runs = subst
      (λ (es : List Event). Runs g.S.Application.layer g.D.Disk.kind (with_disk c.loop-event.server c.loop-event.disk) (with_disk c.run.new.self c.run.new.disk) es (Err c.in-Err.fault))
      c.from_ref.ensures.value c.in-Err.ensures.ran;
  honest_still = c.in-Err.ensures.honest.0;
  cause_is = refl;
  handed = (silence, hands_none g.S.Application.layer c.run.new.self);
}
