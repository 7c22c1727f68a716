use Rattle.std.proofs.Common.{◌≡◌, List, [], ◌∷◌, IfSome, IfNone, subst}
use Rattle.moo_session_task.specs.declared.hook.Hook.{Hook}
use Rattle.moo_session_task.specs.Session.{Session, with_hooks}
use Rattle.moo_session_task.proofs.Taking.{first_taken, none_taken}
use Rattle.moo_session_task.proofs.session.Session.next_hook.Goals as goal

pub returns-clause-some : goal.returns-clause-some
returns-clause-some c =
    let rest : List Hook = c.pop_front.new.self.items in
    let was : Session = record {
      connections = c.self.inside.connections;
      hooks = c.self.inside.hooks.items;
      asked = c.self.inside.asked;
      closing = c.self.inside.closing;
      sent = c.self.inside.sent.items;
      log = c.self.inside.log.items;
    } in
    subst (λ (s : Session). IfSome c.pop_front.result (λ h. (hs : List Hook) × (s.hooks ≡ h ∷ hs) × (with_hooks rest was ≡ with_hooks hs s)))
    c.self.view_is (first_taken c.pop_front.result was rest c.pop_front.ensures.items)

pub returns-clause-none : goal.returns-clause-none
returns-clause-none c =
    let rest : List Hook = c.pop_front.new.self.items in
    let was : Session = record {
      connections = c.self.inside.connections;
      hooks = c.self.inside.hooks.items;
      asked = c.self.inside.asked;
      closing = c.self.inside.closing;
      sent = c.self.inside.sent.items;
      log = c.self.inside.log.items;
    } in
    subst (λ (s : Session). IfNone c.pop_front.result ((s.hooks ≡ []) × (with_hooks rest was ≡ s)))
    c.self.view_is (none_taken c.pop_front.result was rest c.pop_front.ensures.items c.pop_front.ensures.rest)
