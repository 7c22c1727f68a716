use Rattle.std.proofs.Common.{ℕ, ◌<◌, length, refl, sym, subst, rules}
use Rattle.moo_session_connection.specs.Connections.{Connections}
use Rattle.moo_session_connection.proofs.Numbers.{numbers-leave, same_numbers}
use Rattle.moo_session_connection.proofs.Rows.{whole-remove, same_whole}
use Rattle.moo_session_connection.proofs.connections.Connections.leave_at.Goals as goal

pub invariant_of-self : goal.invariant_of-self
invariant_of-self c =
    let numbers = same_numbers c.self.inside.clients.items c.self.inside.clients.items c.self.inside.leaving.items c.push.new.self.items refl (search rules) (c.self.invariant.1, c.self.invariant.2) in
    (c.self.invariant.0, numbers.0, numbers.1)

pub invariant_of-self-2 : goal.invariant_of-self-2
invariant_of-self-2 c =
    let place : ℕ = c.args.place in
    let inside : place < length c.self.inside.clients.items = subst (λ (s : Connections). place < length s.clients) (sym c.self.view_is) c.requires in
    let whole = same_whole _ _ c.remove_player.new.players _ _ c.remove-connection.ensures.items c.remove-client.ensures.items
    (whole-remove c.self.inside.row.items c.self.inside.players c.remove_player.new.players c.self.inside.clients.items place c.remove-client.result inside c.remove-client.ensures.value c.remove_player.ensures c.self.invariant.0) in
    let numbers = same_numbers _ _ _ _ c.remove-client.ensures.items c.in_ok-push.ensures.items
    (numbers-leave c.self.inside.leaving.items c.self.inside.clients.items place c.index.result.now inside c.index.ensures (c.self.invariant.1, c.self.invariant.2)) in
    (whole, numbers.0, numbers.1)
