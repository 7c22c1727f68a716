use Rattle.std.proofs.Common.{◌≡◌, List, [], ◌∷◌, ◌++◌, ◌+◌, take, sym, ◌∙◌, ap, subst, arith}
use Rattle.std.proofs.lemmas.List.{take_all, take_more}
use Rattle.moo_server_core.specs.declared.event.Event.{Event}
use Rattle.moo_cli_serve.specs.Silence.{Listens}
use Rattle.moo_cli_serve.proofs.Hearing.{listens_join, listens_none}
use Rattle.moo_cli_serve.proofs.silence.Silence.hear.Goals as goal

pub loop-event-init : goal.loop-event-init
loop-event-init c = listens_none c.args.now c.args.self.now

pub loop-event-preserved : goal.loop-event-preserved
loop-event-preserved c =
    let i = c.loop-event.event-index in
    let event = c.event-item.result in
    let more : take (i + 1) c.args.events.now ≡ take i c.args.events.now ++ event ∷ [] =
    take_more c.args.events.now i event c.loop-event-test.true ∙ ap (λ (e : Event). take i c.args.events.now ++ e ∷ []) (sym c.event-item.is) in
    subst (λ (es : List Event). Listens c.args.now es c.args.self.now c.note.new.self) (sym more)
    (listens_join c.args.now (take i c.args.events.now) (event ∷ []) c.args.self.now c.loop-event.self c.note.new.self c.loop-event.invariant c.in_ok-note.ensures)

pub returns : goal.returns
returns c =
    subst (λ (es : List Event). Listens c.args.now es c.args.self.now c.loop-event.self)
    (take_all c.loop-event.event-index c.args.events.now (omega (arith, c.loop-event-test.false))) c.loop-event.invariant
