use Rattle.std.proofs.Common.{◌≡◌, ◌≤◌, ℕ, List, None, length, sym, ◌∙◌, ap, subst, arith}
use Rattle.std.specs.List.{position_or_len}
use Rattle.moo_eval_frame.specs.declared.surroundings.Connection.{Connection}
use Rattle.moo_session_connection.specs.declared.client.Client.{Client}
use Rattle.moo_session_connection.specs.Clients.{is_above, has_number, row_of, newcomer}
use Rattle.moo_session_connection.specs.Connections.{Connections, client_here}
use Rattle.moo_session_connection.specs.Searching.{IsRising, IsAt, IsGap}
use Rattle.moo_session_connection.proofs.Places.{not_nowhere}
use Rattle.moo_session_connection.proofs.Search.{rising, found_place, place_above, inside_row}
use Rattle.moo_session_connection.proofs.connections.Connections.place_for.Goals as goal

pub search-requires : goal.search-requires
search-requires c =
    let items : List Client = c.self.inside.clients.items in
    let row : c.deref.result.now ≡ row_of items = c.deref.ensures.value ∙ c.self.invariant.0.2 in
    subst (λ (r : List Connection). IsRising r) (sym row) (rising items c.self.invariant.0.0)

pub returns-in-Ok-clause-place : goal.returns-in-Ok-clause-place
returns-in-Ok-clause-place c =
    let items : List Client = c.self.inside.clients.items in
    let row : c.deref.result.now ≡ row_of items = c.deref.ensures.value ∙ c.self.invariant.0.2 in
    let same : c.from.result ≡ c.args.number = omega arith in
    let at : IsAt (row_of items) c.args.number c.in-Ok.place = subst (λ (n : ℕ). IsAt (row_of items) n c.in-Ok.place) same (subst (λ (r : List Connection). IsAt r c.from.result c.in-Ok.place) row c.in-Ok.ensures.found) in
    let none : client_here c.args.number (record { clients = items; leaving = c.self.inside.leaving.items }) ≡ None = ap (λ (s : Connections). client_here c.args.number s) c.self.view_is ∙ c.requires in
    not_nowhere (has_number c.args.number) items c.in-Ok.place (newcomer 0 0) (found_place items c.args.number c.in-Ok.place c.self.invariant.0.0 at) none

pub returns-in-Ok-clause-inside : goal.returns-in-Ok-clause-inside
returns-in-Ok-clause-inside c =
    let items : List Client = c.self.inside.clients.items in
    let row : c.deref.result.now ≡ row_of items = c.deref.ensures.value ∙ c.self.invariant.0.2 in
    let same : c.from.result ≡ c.args.number = omega arith in
    let at : IsAt (row_of items) c.args.number c.in-Ok.place = subst (λ (n : ℕ). IsAt (row_of items) n c.in-Ok.place) same (subst (λ (r : List Connection). IsAt r c.from.result c.in-Ok.place) row c.in-Ok.ensures.found) in
    let none : client_here c.args.number (record { clients = items; leaving = c.self.inside.leaving.items }) ≡ None = ap (λ (s : Connections). client_here c.args.number s) c.self.view_is ∙ c.requires in
    not_nowhere (has_number c.args.number) items c.in-Ok.place (newcomer 0 0) (found_place items c.args.number c.in-Ok.place c.self.invariant.0.0 at) none

pub returns-in-Err-clause-place : goal.returns-in-Err-clause-place
returns-in-Err-clause-place c =
    let items : List Client = c.self.inside.clients.items in
    let row : c.deref.result.now ≡ row_of items = c.deref.ensures.value ∙ c.self.invariant.0.2 in
    let same : c.from.result ≡ c.args.number = omega arith in
    let gap : IsGap (row_of items) c.args.number c.in-Err.place = subst (λ (n : ℕ). IsGap (row_of items) n c.in-Err.place) same (subst (λ (r : List Connection). IsGap r c.from.result c.in-Err.place) row c.in-Err.ensures.absent) in
    sym (place_above items c.args.number c.in-Err.place gap) ∙ ap (λ (s : Connections). position_or_len (is_above c.args.number) s.clients) c.self.view_is

pub returns-in-Err-clause-inside : goal.returns-in-Err-clause-inside
returns-in-Err-clause-inside c =
    let items : List Client = c.self.inside.clients.items in
    let place : ℕ = c.in-Err.place in
    let row : c.deref.result.now ≡ row_of items = c.deref.ensures.value ∙ c.self.invariant.0.2 in
    let same : c.from.result ≡ c.args.number = omega arith in
    let gap : IsGap (row_of items) c.args.number place = subst (λ (n : ℕ). IsGap (row_of items) n place) same (subst (λ (r : List Connection). IsGap r c.from.result place) row c.in-Err.ensures.absent) in
    subst (λ (s : Connections). place ≤ length s.clients) c.self.view_is (inside_row items c.args.number place gap)
