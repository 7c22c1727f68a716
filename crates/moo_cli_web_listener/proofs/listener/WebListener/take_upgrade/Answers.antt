use Rattle.std.proofs.Common.{◌≡◌, None, Some, sym, subst}
use Rattle.slab.specs.Slab.{Updates, get}
use Rattle.moo_cli_web_listener.specs.declared.listener.WebListener.{WebListener}
use Rattle.moo_cli_web_listener.proofs.Calling.{takes}
use Rattle.moo_cli_web_listener.proofs.listener.WebListener.take_upgrade.Goals as goal

pub returns-in-Some-clause-takes : goal.returns-in-Some-clause-takes
returns-in-Some-clause-takes c are =
    takes c.args.self.now _ c.loop-key.key c.in-Some.caller c.upgrade.result
    (subst (λ (web : WebListener). get web.callers c.loop-key.key ≡ Some c.in-Some.caller) c.loop-key.invariant (sym c.in-Some.ensures.value))
    (subst (λ (web : WebListener). Updates web.callers c.try_remove.new.self c.loop-key.key None) c.loop-key.invariant c.try_remove.ensures.updates)
    c.upgrade.ensures are
