use Rattle.std.proofs.Common.{◌≡◌, List, Some, None, refl, sym, ◌∙◌, ap}
use Rattle.std.specs.Prelude.{slice_set, position}
use Rattle.moo_session_connection.specs.declared.client.Client.{Client}
use Rattle.moo_session_connection.specs.Connections.{Connections}
use Rattle.moo_session_connection.specs.Clients.{has_number}
use Rattle.moo_session_connection.specs.Changes.{with_changed, with_gathering}
use Rattle.moo_session_connection.proofs.Places.{changed_at, changed_nowhere}
use Rattle.moo_session_connection.proofs.Numbers.{numbers-set}
use Rattle.moo_session_connection.proofs.Rows.{whole-keep}
use Rattle.moo_session_connection.proofs.connections.Connections.gather.Goals as goal

pub returns-in_default : goal.returns-in_default
returns-in_default c =
    let e : position (has_number c.args.number) c.args.self.now.clients ≡ None = sym c.place_here.ensures ∙ c.in_default.is in
    ap (λ (cs : List Client). record c.args.self.now { clients = cs }) (sym (changed_nowhere (has_number c.args.number) (with_gathering c.args.gathering) c.args.self.now.clients e))

pub invariant_of-self : goal.invariant_of-self
invariant_of-self c =
    let numbers = numbers-set c.self.inside.leaving.items c.self.inside.clients.items c.in-Some.place c.index_mut.result.now _ c.index_mut.ensures.value refl (c.self.invariant.1, c.self.invariant.2) in
    (whole-keep c.self.inside.row.items c.self.inside.players c.self.inside.clients.items c.in-Some.place c.index_mut.result.now _ c.index_mut.ensures.value refl c.self.invariant.0, numbers.0, numbers.1)

pub returns : goal.returns
returns c =
    let items : List Client = c.self.inside.clients.items in
    let e : position (has_number c.args.number) c.args.self.now.clients ≡ Some c.in-Some.place = sym c.place_here.ensures ∙ c.in-Some.is in
    let at : position (has_number c.args.number) items ≡ Some c.in-Some.place = ap (λ (s : Connections). position (has_number c.args.number) s.clients) c.self.view_is ∙ e in
    let with_clients : List Client → Connections = λ cs. record { clients = cs; leaving = c.self.inside.leaving.items } in
    ap with_clients (ap (λ (k : Client). slice_set items c.in-Some.place (with_gathering c.args.gathering k)) c.index_mut.ensures.value ∙ sym (changed_at (has_number c.args.number) (with_gathering c.args.gathering) items c.in-Some.place _ at))
    ∙ ap (with_changed c.args.number (with_gathering c.args.gathering)) c.self.view_is
