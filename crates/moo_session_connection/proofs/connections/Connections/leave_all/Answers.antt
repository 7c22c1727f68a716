use Rattle.std.proofs.Common.{List, ◌++◌, map, refl, ◌∙◌, ap, rules}
use Rattle.moo_session_connection.specs.declared.client.Client.{Client}
use Rattle.moo_session_connection.specs.Clients.{number_of}
use Rattle.moo_session_connection.proofs.Numbers.{numbers-all_left, same_numbers}
use Rattle.moo_session_connection.proofs.connections.Connections.leave_all.Goals as goal

pub invariant_of-self : goal.invariant_of-self
invariant_of-self c =
    let numbers = same_numbers c.self.inside.clients.items c.self.inside.clients.items c.self.inside.leaving.items _ refl c.in_err-push_numbers.ensures.err (c.self.invariant.1, c.self.invariant.2) in
    (c.self.invariant.0, numbers.0, numbers.1)

pub invariant_of-self-2 : goal.invariant_of-self-2
invariant_of-self-2 c =
    let all = c.in_ok-push_numbers.ensures.ok ∙ ap (λ (xs : List Client). c.self.inside.leaving.items ++ map number_of xs) c.deref.ensures.value in
    let numbers = numbers-all_left c.self.inside.leaving.items _ c.self.inside.clients.items c.clear.new.self.items (search rules) all (c.self.invariant.1, c.self.invariant.2) in
    (search rules, numbers.0, numbers.1)
