use Rattle.std.proofs.Common.{◌≡◌, List, Option, Some, None, refl, sym, ◌∙◌, ap}
use Rattle.std.specs.Prelude.{slice_set, position, find}
use Rattle.moo_session_connection.specs.declared.client.Client.{Client}
use Rattle.moo_session_connection.specs.Connections.{Connections}
use Rattle.std.specs.Option.{option_and_then}
use Rattle.moo_session_connection.specs.Gathering.{Gathering}
use Rattle.moo_session_connection.specs.Clients.{has_number}
use Rattle.moo_session_connection.specs.Changes.{with_changed, with_gathering}
use Rattle.moo_session_connection.proofs.Places.{changed_at, changed_nowhere, found_at, found_nowhere}
use Rattle.moo_session_connection.proofs.Numbers.{numbers-set}
use Rattle.moo_session_connection.proofs.Rows.{whole-keep}
use Rattle.moo_session_connection.proofs.connections.Connections.take_gathering.Goals as goal

abbrev gathered : Option Client → Option Gathering
gathered o = option_and_then (λ (k : Client). k.gathering) o

pub returns-in_err-place-clause-taken : goal.returns-in_err-place-clause-taken
returns-in_err-place-clause-taken c =
    let e : position (has_number c.args.number) c.args.self.now.clients ≡ None = sym c.place_here.ensures ∙ c.in_err-place.was in
    c.from_residual.ensures ∙ ap gathered (sym (found_nowhere (has_number c.args.number) c.args.self.now.clients e))

pub returns-in_err-place-clause-changed : goal.returns-in_err-place-clause-changed
returns-in_err-place-clause-changed c =
    let e : position (has_number c.args.number) c.args.self.now.clients ≡ None = sym c.place_here.ensures ∙ c.in_err-place.was in
    ap (λ (cs : List Client). record c.args.self.now { clients = cs }) (sym (changed_nowhere (has_number c.args.number) (with_gathering None) c.args.self.now.clients e))

pub invariant_of-self : goal.invariant_of-self
invariant_of-self c =
    let numbers = numbers-set c.self.inside.leaving.items c.self.inside.clients.items c.in_ok-place.place c.index_mut.result.now _ c.index_mut.ensures.value refl (c.self.invariant.1, c.self.invariant.2) in
    (whole-keep c.self.inside.row.items c.self.inside.players c.self.inside.clients.items c.in_ok-place.place c.index_mut.result.now _ c.index_mut.ensures.value refl c.self.invariant.0, numbers.0, numbers.1)

pub returns-clause-taken : goal.returns-clause-taken
returns-clause-taken c =
    let items : List Client = c.self.inside.clients.items in
    let e : position (has_number c.args.number) c.args.self.now.clients ≡ Some c.in_ok-place.place = sym c.place_here.ensures ∙ c.in_ok-place.was in
    let at : position (has_number c.args.number) items ≡ Some c.in_ok-place.place = ap (λ (s : Connections). position (has_number c.args.number) s.clients) c.self.view_is ∙ e in
    c.replace.ensures.value
    ∙ ap (λ (k : Client). k.gathering) c.index_mut.ensures.value
    ∙ ap gathered (sym (found_at (has_number c.args.number) items c.in_ok-place.place c.index_mut.result.now at))
    ∙ ap (λ (s : Connections). gathered (find (has_number c.args.number) s.clients)) c.self.view_is

pub returns-clause-changed : goal.returns-clause-changed
returns-clause-changed c =
    let items : List Client = c.self.inside.clients.items in
    let e : position (has_number c.args.number) c.args.self.now.clients ≡ Some c.in_ok-place.place = sym c.place_here.ensures ∙ c.in_ok-place.was in
    let at : position (has_number c.args.number) items ≡ Some c.in_ok-place.place = ap (λ (s : Connections). position (has_number c.args.number) s.clients) c.self.view_is ∙ e in
    let with_clients : List Client → Connections = λ cs. record { clients = cs; leaving = c.self.inside.leaving.items } in
    ap (λ (g : Option Gathering). with_clients (slice_set items c.in_ok-place.place (with_gathering g c.index_mut.result.now))) c.replace.ensures.after
    ∙ ap with_clients (ap (λ (k : Client). slice_set items c.in_ok-place.place (with_gathering None k)) c.index_mut.ensures.value ∙ sym (changed_at (has_number c.args.number) (with_gathering None) items c.in_ok-place.place _ at))
    ∙ ap (with_changed c.args.number (with_gathering None)) c.self.view_is
