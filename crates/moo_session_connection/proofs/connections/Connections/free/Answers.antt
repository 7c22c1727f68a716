use Rattle.std.proofs.Common.{◌≡◌, ℕ, List, Some, refl, sym, ◌∙◌, ap}
use Rattle.std.specs.Prelude.{position}
use Rattle.std.proofs.lemmas.List.Quantifiers.{position-Some}
use Rattle.moo_session_connection.specs.declared.client.Client.{Client}
use Rattle.moo_session_connection.specs.Clients.{has_number, without_first}
use Rattle.moo_session_connection.specs.Connections.{Connections}
use Rattle.moo_session_connection.specs.Changes.{freed}
use Rattle.moo_session_connection.proofs.Places.{without_at, without_nowhere}
use Rattle.moo_session_connection.proofs.Numbers.{numbers-remove, numbers-free, same_numbers}
use Rattle.moo_session_connection.proofs.Rows.{whole-remove, same_whole}
use Rattle.moo_session_connection.proofs.connections.Connections.free.Goals as goal

abbrev both : List Client → List ℕ → Connections
both cs ns = record { clients = cs; leaving = ns }

pub returns-in_default : goal.returns-in_default
returns-in_default c =
    let items : List Client = c.self.inside.clients.items in
    ap (λ (cs : List Client). both cs c.free_number.new.leaving.items) (sym (without_nowhere (has_number c.args.number) items (sym c.place_here.ensures ∙ c.in_default.is)))
    ∙ ap (λ (ns : List ℕ). both (without_first (has_number c.args.number) items) ns) c.free_number.ensures
    ∙ ap (freed c.args.number) c.self.view_is

pub invariant_of-self : goal.invariant_of-self
invariant_of-self c =
    let numbers = numbers-free c.args.number c.self.inside.leaving.items c.free_number.new.leaving.items c.self.inside.clients.items c.free_number.ensures (c.self.invariant.1, c.self.invariant.2) in
    (c.self.invariant.0, numbers.0, numbers.1)

pub invariant_of-self-in_default : goal.invariant_of-self-in_default
invariant_of-self-in_default c =
    let numbers = numbers-free c.args.number c.self.inside.leaving.items c.free_number.new.leaving.items c.self.inside.clients.items c.free_number.ensures (c.self.invariant.1, c.self.invariant.2) in
    (c.self.invariant.0, numbers.0, numbers.1)

pub invariant_of-self-2 : goal.invariant_of-self-2
invariant_of-self-2 c =
    let items : List Client = c.self.inside.clients.items in
    let at : position (has_number c.args.number) items ≡ Some c.in-Some.place = sym c.place_here.ensures ∙ c.in-Some.is in
    let inside = (position-Some (has_number c.args.number) items c.in-Some.place c.remove-client.result at).0 in
    let whole = same_whole _ _ c.remove_player.new.players _ _ c.remove-connection.ensures.items c.remove-client.ensures.items
    (whole-remove c.self.inside.row.items c.self.inside.players c.remove_player.new.players items c.in-Some.place c.remove-client.result inside c.remove-client.ensures.value c.remove_player.ensures c.self.invariant.0) in
    let freed_numbers = numbers-free c.args.number c.self.inside.leaving.items c.free_number.new.leaving.items items c.free_number.ensures (c.self.invariant.1, c.self.invariant.2) in
    let numbers = same_numbers _ _ c.free_number.new.leaving.items c.free_number.new.leaving.items c.remove-client.ensures.items refl
    (numbers-remove c.free_number.new.leaving.items items c.in-Some.place c.remove-client.result inside freed_numbers) in
    (whole, numbers.0, numbers.1)

pub returns : goal.returns
returns c =
    let items : List Client = c.self.inside.clients.items in
    ap (λ (cs : List Client). both cs c.free_number.new.leaving.items)
    (c.remove-client.ensures.items ∙ sym (without_at (has_number c.args.number) items c.in-Some.place c.remove-client.result (sym c.place_here.ensures ∙ c.in-Some.is)))
    ∙ ap (λ (ns : List ℕ). both (without_first (has_number c.args.number) items) ns) c.free_number.ensures
    ∙ ap (freed c.args.number) c.self.view_is
