use Rattle.std.proofs.Common.{◌≡◌, List, sym, ◌∙◌, ap, subst}
use Rattle.std.specs.Prelude.{position}
use Rattle.moo_eval_frame.specs.declared.surroundings.Connection.{Connection}
use Rattle.moo_session_connection.specs.declared.client.Client.{Client}
use Rattle.moo_session_connection.specs.Clients.{has_number, row_of}
use Rattle.moo_session_connection.specs.Connections.{Connections}
use Rattle.moo_session_connection.specs.Searching.{IsRising, IsAt, IsGap}
use Rattle.moo_session_connection.proofs.Search.{rising, found_place, found_no_place}
use Rattle.moo_session_connection.proofs.connections.Connections.place_numbered.Goals as goal

pub search-requires : goal.search-requires
search-requires c =
    let items : List Client = c.self.inside.clients.items in
    let row : c.deref.result.now ≡ row_of items = c.deref.ensures.value ∙ c.self.invariant.0.2 in
    subst (λ (r : List Connection). IsRising r) (sym row) (rising items c.self.invariant.0.0)

pub returns-in-Ok : goal.returns-in-Ok
returns-in-Ok c =
    let items : List Client = c.self.inside.clients.items in
    let row : c.deref.result.now ≡ row_of items = c.deref.ensures.value ∙ c.self.invariant.0.2 in
    let at : IsAt (row_of items) c.args.number c.in-Ok.place = subst (λ (r : List Connection). IsAt r c.args.number c.in-Ok.place) row c.in-Ok.ensures.found in
    sym (found_place items c.args.number c.in-Ok.place c.self.invariant.0.0 at) ∙ ap (λ (s : Connections). position (has_number c.args.number) s.clients) c.self.view_is

pub returns-in-Err : goal.returns-in-Err
returns-in-Err c =
    let items : List Client = c.self.inside.clients.items in
    let row : c.deref.result.now ≡ row_of items = c.deref.ensures.value ∙ c.self.invariant.0.2 in
    let gap : IsGap (row_of items) c.args.number c.in-Err.field-0 = subst (λ (r : List Connection). IsGap r c.args.number c.in-Err.field-0) row c.in-Err.ensures.absent in
    sym (found_no_place items c.args.number c.in-Err.field-0 gap) ∙ ap (λ (s : Connections). position (has_number c.args.number) s.clients) c.self.view_is
