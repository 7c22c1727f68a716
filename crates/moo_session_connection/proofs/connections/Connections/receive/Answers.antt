use Rattle.std.proofs.Common.{◌≡◌, List, Some, refl, sym, ◌∙◌, ap}
use Rattle.std.specs.Prelude.{slice_set, position}
use Rattle.std.proofs.lemmas.List.Quantifiers.{position-Some}
use Rattle.moo_session_connection.specs.declared.client.Client.{Client}
use Rattle.moo_session_connection.specs.Connections.{Connections, client_here}
use Rattle.moo_session_connection.specs.Clients.{has_number, number_of, player_on}
use Rattle.moo_session_connection.specs.Changes.{with_changed, with_heard}
use Rattle.moo_session_connection.proofs.Places.{changed_at, found_at, found_nowhere, not_nowhere}
use Rattle.moo_session_connection.proofs.Numbers.{numbers-set}
use Rattle.moo_session_connection.proofs.Rows.{whole-keep, whole-receive, same_whole, read_back}
use Rattle.moo_session_connection.proofs.connections.Connections.receive.Goals as goal

pub returns-in_default-clause-nobody : goal.returns-in_default-clause-nobody
returns-in_default-clause-nobody c =
    (found_nowhere (has_number c.args.number) c.args.self.now.clients (sym c.place_here.ensures ∙ c.in_default.is), refl)

pub returns-in_err-lines-clause-left : goal.returns-in_err-lines-clause-left
returns-in_err-lines-clause-left c =
    let e : position (has_number c.args.number) c.args.self.now.clients ≡ Some c.in-Some.place = sym c.place_here.ensures ∙ c.in-Some.is in
    λ none. not_nowhere (has_number c.args.number) c.args.self.now.clients c.in-Some.place c.index_mut.result.now e none

pub invariant_of-self : goal.invariant_of-self
invariant_of-self c =
    let items : List Client = c.self.inside.clients.items in
    let d : Client = c.index_mut.result.now in
    let k : Client = c.receive.new.self in
    let same : k ≡ d = c.in_err-lines.ensures.err in
    let numbers = numbers-set c.self.inside.leaving.items items c.in-Some.place d k c.index_mut.ensures.value (ap number_of same) (c.self.invariant.1, c.self.invariant.2) in
    (whole-keep c.self.inside.row.items c.self.inside.players items c.in-Some.place d k c.index_mut.ensures.value (ap (λ (x : Client). x.connection) same) c.self.invariant.0, numbers.0, numbers.1)

pub invariant_of-self-2 : goal.invariant_of-self-2
invariant_of-self-2 c =
    let items : List Client = c.self.inside.clients.items in
    let d : Client = c.index_mut.result.now in
    let k : Client = c.receive.new.self in
    let e : position (has_number c.args.number) c.args.self.now.clients ≡ Some c.in-Some.place = sym c.place_here.ensures ∙ c.in-Some.is in
    let at : position (has_number c.args.number) items ≡ Some c.in-Some.place = ap (λ (s : Connections). position (has_number c.args.number) s.clients) c.self.view_is ∙ e in
    let back : c.index.result.now ≡ k = read_back items c.in-Some.place k c.index.result.now (position-Some (has_number c.args.number) items c.in-Some.place d at).0 c.index.ensures in
    let is : k ≡ with_heard c.args.moment k.reader d = c.in_ok-lines.ensures.changed in
    let whole = same_whole _ _ c.self.inside.players _ _ (ap (λ (x : Client). slice_set c.self.inside.row.items c.in-Some.place x.connection) back) refl
    (whole-receive c.self.inside.row.items c.self.inside.players items c.in-Some.place d k c.index_mut.ensures.value (ap number_of is) (ap player_on is) c.self.invariant.0) in
    let numbers = numbers-set c.self.inside.leaving.items items c.in-Some.place d k c.index_mut.ensures.value (ap number_of is) (c.self.invariant.1, c.self.invariant.2) in
    (whole, numbers.0, numbers.1)

pub returns-clause-heard : goal.returns-clause-heard
returns-clause-heard c =
    let items : List Client = c.self.inside.clients.items in
    let d : Client = c.index_mut.result.now in
    let k : Client = c.receive.new.self in
    let e : position (has_number c.args.number) c.args.self.now.clients ≡ Some c.in-Some.place = sym c.place_here.ensures ∙ c.in-Some.is in
    let at : position (has_number c.args.number) items ≡ Some c.in-Some.place = ap (λ (s : Connections). position (has_number c.args.number) s.clients) c.self.view_is ∙ e in
    let is : k ≡ with_heard c.args.moment k.reader d = c.in_ok-lines.ensures.changed in
    let with_clients : List Client → Connections = λ cs. record { clients = cs; leaving = c.self.inside.leaving.items } in
    record {
      client = d;
      after = k.reader;
      is_here = sym (ap (λ (s : Connections). client_here c.args.number s) c.self.view_is)
          ∙ found_at (has_number c.args.number) items c.in-Some.place d at ∙ ap (λ (x : Client). Some x) (sym c.index_mut.ensures.value);
      reads = c.in_ok-lines.ensures.reads;
      leaves = sym (
          ap with_clients (ap (λ (x : Client). slice_set items c.in-Some.place x) (is ∙ ap (with_heard c.args.moment k.reader) c.index_mut.ensures.value)
          ∙ sym (changed_at (has_number c.args.number) (with_heard c.args.moment k.reader) items c.in-Some.place d at))
          ∙ ap (with_changed c.args.number (with_heard c.args.moment k.reader)) c.self.view_is
          );
    }

pub returns-clause-left : goal.returns-clause-left
returns-clause-left c =
    let e : position (has_number c.args.number) c.args.self.now.clients ≡ Some c.in-Some.place = sym c.place_here.ensures ∙ c.in-Some.is in
    λ none. not_nowhere (has_number c.args.number) c.args.self.now.clients c.in-Some.place c.index_mut.result.now e none
