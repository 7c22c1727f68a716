use Rattle.std.proofs.Common.{◌≡◌, ℕ, ◌≤◌, List, length, false, refl, sym, ◌∙◌, ap, subst, not, rules}
use Rattle.std.specs.List.{insert, remove}
use Rattle.moo_session_connection.specs.declared.client.Client.{Client}
use Rattle.std.proofs.lemmas.Bool.{cond-true}
use Rattle.moo_session_connection.specs.Connections.{Connections, AreInOrder, is_open}
use Rattle.moo_session_connection.specs.Clients.{number_of}
use Rattle.moo_session_connection.proofs.Numbers.{numbers-insert, same_numbers}
use Rattle.moo_session_connection.proofs.Rows.{whole-insert, same_whole, remove-insert}
use Rattle.moo_session_connection.proofs.connections.Connections.put.Goals as goal

pub invariant_of-self : goal.invariant_of-self
invariant_of-self c =
    let numbers = same_numbers c.self.inside.clients.items c.insert.new.self.items c.self.inside.leaving.items c.self.inside.leaving.items (search rules) refl (c.self.invariant.1, c.self.invariant.2) in
    (search rules, numbers.0, numbers.1)

pub invariant_of-self-then-is_err : goal.invariant_of-self-then-is_err
invariant_of-self-then-is_err c =
    let items : List Client = c.self.inside.clients.items in
    let place : ℕ = c.args.place in
    let inside : place ≤ length items = subst (λ (s : Connections). place ≤ length s.clients) (sym c.self.view_is) c.requires.inside in
    let back : c.remove-client.new.self.items ≡ items = c.remove-client.ensures.items ∙ ap (λ (xs : List Client). remove xs place) c.in_ok-insert.ensures.items ∙ remove-insert items place c.args.client inside in
    let numbers = same_numbers items c.remove-client.new.self.items c.self.inside.leaving.items c.self.inside.leaving.items back refl (c.self.invariant.1, c.self.invariant.2) in
    (search rules, numbers.0, numbers.1)

pub invariant_of-self-else-is_err : goal.invariant_of-self-else-is_err
invariant_of-self-else-is_err c =
    let order : AreInOrder (insert c.self.inside.clients.items c.args.place c.args.client) =
    subst (λ (s : Connections). AreInOrder (insert s.clients c.args.place c.args.client)) (sym c.self.view_is) c.requires.order in
    let free = subst (λ (s : Connections). is_open (number_of c.args.client) s ≡ false) (sym c.self.view_is) c.requires.free in
    let whole = same_whole _ _ c.self.inside.players _ _ (c.insert-2.ensures.items ∙ cond-true _ _ _ (c.is_err.ensures.negation ∙ ap not c.if-is_err.false)) c.in_ok-insert.ensures.items
    (whole-insert c.self.inside.row.items c.self.inside.players c.self.inside.clients.items c.args.place c.args.client order c.requires.nobody c.self.invariant.0) in
    let numbers = same_numbers _ _ c.self.inside.leaving.items c.self.inside.leaving.items c.in_ok-insert.ensures.items refl
    (numbers-insert c.self.inside.leaving.items c.self.inside.clients.items c.args.place c.args.client c.requires.below free (c.self.invariant.1, c.self.invariant.2)) in
    (whole, numbers.0, numbers.1)
