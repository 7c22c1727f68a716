use Rattle.std.proofs.Common.{◌∙◌}
use Rattle.std.proofs.lemmas.List.{get_or_default}
use Rattle.mio.specs.declared.event.event.Event.{Event}
use Rattle.mio.specs.Event.{event_token}
use Rattle.moo_cli_sockets.specs.Coming.{IsNamed}
use Rattle.moo_cli_sockets.proofs.Elements.{visited_more}
use Rattle.moo_cli_sockets.proofs.Keeping.{still_on}
use Rattle.moo_cli_sockets.proofs.sockets.Sockets.wake_all.Goals as goal

pub loop-event-preserved : goal.loop-event-preserved
loop-event-preserved c = (
  λ k. c.in_ok-wake.ensures.held k ∙ c.loop-event.invariant.0 k,
  λ k. still_on _ _ _ (c.loop-event.invariant.1 k) (c.in_ok-wake.ensures.still k),
  (c.in_ok-wake.ensures.alike.0 ∙ c.loop-event.invariant.2.0, c.in_ok-wake.ensures.alike.1 ∙ c.loop-event.invariant.2.1),
  visited_more (λ (e : Event). IsNamed (event_token e).0 c.wake.new.self.sockets c.wake.new.self.readable.items c.wake.new.self.writable.items)
      c.args.events.now c.loop-event.event-index _ c.loop-event-test.true (get_or_default _ _ _ _ c.loop-event-test.true)
      (λ j d less. c.in_ok-wake.ensures.others _ (c.loop-event.invariant.3 j d less)) c.in_ok-wake.ensures.named,
)
