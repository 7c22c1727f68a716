use Rattle.std.proofs.Common.{◌≡◌, ℕ, ℤ, List, get_or, Some, None, refl, sym, ◌∙◌, ap, subst, to_z, of_z, to_z-of_z, w32, SFits, rules}
use Rattle.std.specs.Prelude.{slice_set, position}
use Rattle.std.proofs.lemmas.Bool.{eqb-true}
use Rattle.std.proofs.lemmas.List.{get_or_default}
use Rattle.std.proofs.lemmas.List.Quantifiers.{position-Some}
use Rattle.moo_session_connection.specs.declared.client.Client.{Client}
use Rattle.moo_session_connection.specs.Connections.{Connections, NonePlayedBy}
use Rattle.moo_session_connection.specs.Clients.{has_number, number_of}
use Rattle.moo_session_connection.specs.Changes.{with_changed, as_playing}
use Rattle.moo_session_connection.proofs.Places.{changed_at, changed_nowhere}
use Rattle.moo_session_connection.proofs.Players.{IsWith, IsWithout}
use Rattle.moo_session_connection.proofs.Rows.{whole-play, whole-unchanged, same_whole, read_back}
use Rattle.moo_session_connection.proofs.Numbers.{numbers-set}
use Rattle.moo_session_connection.proofs.connections.Connections.log_in.Goals as goal

pub returns-in_default-clause-ok : goal.returns-in_default-clause-ok
returns-in_default-clause-ok c =
    let e : position (has_number c.args.number) c.args.self.now.clients ≡ None = sym c.place_here.ensures ∙ c.in_default.is in
    ap (λ (cs : List Client). record c.args.self.now { clients = cs }) (sym (changed_nowhere (has_number c.args.number) (as_playing c.args.player c.args.moment) c.args.self.now.clients e))

pub invariant_of-self : goal.invariant_of-self
invariant_of-self c =
    (whole-unchanged c.self.inside.row.items c.self.inside.players c.insert.new.self c.self.inside.clients.items c.in_err-insert.ensures.err c.self.invariant.0, c.self.invariant.1, c.self.invariant.2)

pub invariant_of-self-2 : goal.invariant_of-self-2
invariant_of-self-2 c =
    let items : List Client = c.self.inside.clients.items in
    let n : ℕ = c.args.number in
    let d : Client = c.index_mut.result.now in
    let p : ℤ = to_z w32 (of_z w32 c.args.player) in
    let same : p ≡ c.args.player = (let fits : SFits w32 c.args.player = search rules in to_z-of_z fits) in
    let k : Client = as_playing p c.args.moment d in
    let e : position (has_number n) c.args.self.now.clients ≡ Some c.in-Some.place = sym c.place_here.ensures ∙ c.in-Some.is in
    let at : position (has_number n) items ≡ Some c.in-Some.place = ap (λ (s : Connections). position (has_number n) s.clients) c.self.view_is ∙ e in
    let place = position-Some (has_number n) items c.in-Some.place d at in
    let back : c.index-2.result.now ≡ k = read_back items c.in-Some.place k c.index-2.result.now (position-Some (has_number n) items c.in-Some.place d at).0 c.index-2.ensures in
    let none : NonePlayedBy p items =
    subst (λ (q : ℤ). NonePlayedBy q items) (sym same) (subst (λ (s : Connections). NonePlayedBy c.args.player s.clients) (sym c.self.view_is) c.requires) in
    let number : number_of d ≡ n = ap number_of c.index_mut.ensures.value ∙ eqb-true (number_of (get_or items c.in-Some.place d)) n place.1 in
    let added : IsWith p (number_of k) c.self.inside.players c.insert.new.self =
    subst (λ (m : ℕ). IsWith p m c.self.inside.players c.insert.new.self) (sym number) (λ q. c.in_ok-insert.ensures.updates.0 q) in
    let one : c.index.result.now ≡ d = c.index.ensures ∙ get_or_default items c.in-Some.place c.index.result.now d place.0 ∙ sym c.index_mut.ensures.value in
    let taken : IsWithout d c.insert.new.self c.remove_player.new.players = subst (λ (x : Client). IsWithout x c.insert.new.self c.remove_player.new.players) one c.remove_player.ensures in
    let whole = same_whole _ _ c.remove_player.new.players _ _ (ap (λ (x : Client). slice_set c.self.inside.row.items c.in-Some.place x.connection) back) refl
    (whole-play c.self.inside.row.items c.self.inside.players c.insert.new.self c.remove_player.new.players items c.in-Some.place d k p place.0 c.index_mut.ensures.value refl refl none
    added taken c.self.invariant.0) in
    let numbers = numbers-set c.self.inside.leaving.items items c.in-Some.place d k c.index_mut.ensures.value refl (c.self.invariant.1, c.self.invariant.2) in
    (whole, numbers.0, numbers.1)

pub returns-clause-ok : goal.returns-clause-ok
returns-clause-ok c =
    let items : List Client = c.self.inside.clients.items in
    let e : position (has_number c.args.number) c.args.self.now.clients ≡ Some c.in-Some.place = sym c.place_here.ensures ∙ c.in-Some.is in
    let at : position (has_number c.args.number) items ≡ Some c.in-Some.place = ap (λ (s : Connections). position (has_number c.args.number) s.clients) c.self.view_is ∙ e in
    let with_clients : List Client → Connections = λ cs. record { clients = cs; leaving = c.self.inside.leaving.items } in
    let same : to_z w32 (of_z w32 c.args.player) ≡ c.args.player = (let fits : SFits w32 c.args.player = search rules in to_z-of_z fits) in
    ap (λ (p : ℤ). with_clients (slice_set items c.in-Some.place (as_playing p c.args.moment c.index_mut.result.now))) same
    ∙ ap with_clients (ap (λ (k : Client). slice_set items c.in-Some.place (as_playing c.args.player c.args.moment k)) c.index_mut.ensures.value ∙ sym (changed_at (has_number c.args.number) (as_playing c.args.player c.args.moment) items c.in-Some.place _ at))
    ∙ ap (with_changed c.args.number (as_playing c.args.player c.args.moment)) c.self.view_is
