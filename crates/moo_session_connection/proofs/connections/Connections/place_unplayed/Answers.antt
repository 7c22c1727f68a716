use Rattle.std.proofs.Common.{◌≡◌, ℕ, ℤ, List, Some, None, sym, ◌∙◌, ap, subst, to_z, of_z, to_z-of_z, w32, SFits, rules}
use Rattle.std.specs.Prelude.{position}
use Rattle.moo_session_connection.specs.declared.client.Client.{Client}
use Rattle.moo_session_connection.specs.Clients.{own_number, has_number}
use Rattle.moo_session_connection.specs.Connections.{Connections}
use Rattle.moo_session_connection.specs.Players.{is_unplayed_as}
use Rattle.moo_session_connection.proofs.Known.{no_unplayed, none_unplayed, unplayed_place}
use Rattle.moo_session_connection.proofs.connections.Connections.place_unplayed.Goals as goal

pub returns-in_err-number : goal.returns-in_err-number
returns-in_err-number c =
    let same : to_z w32 (of_z w32 c.args.who) ≡ c.args.who = (let fits : SFits w32 c.args.who = search rules in to_z-of_z fits) in
    let none : (n : ℕ) → c.args.who ≡ own_number n → ⊥ = subst (λ (w : ℤ). (n : ℕ) → w ≡ own_number n → ⊥) same c.in_err-number.ensures.none in
    c.from_residual.ensures ∙ sym (no_unplayed c.args.who c.args.self.now.clients none)

pub returns-in_err-place : goal.returns-in_err-place
returns-in_err-place c =
    let same : to_z w32 (of_z w32 c.args.who) ≡ c.args.who = (let fits : SFits w32 c.args.who = search rules in to_z-of_z fits) in
    let own : c.args.who ≡ own_number c.in_ok-number.number = sym same ∙ c.in_ok-number.ensures.some in
    c.from_residual-in_err-place.ensures
    ∙ sym (none_unplayed c.args.who c.in_ok-number.number c.args.self.now.clients own (sym c.place_numbered.ensures ∙ c.in_err-place.was))

pub returns-in-Some : goal.returns-in-Some
returns-in-Some c =
    let items : List Client = c.self.inside.clients.items in
    let n : ℕ = c.in_ok-number.number in
    let same : to_z w32 (of_z w32 c.args.who) ≡ c.args.who = (let fits : SFits w32 c.args.who = search rules in to_z-of_z fits) in
    let own : c.args.who ≡ own_number n = sym same ∙ c.in_ok-number.ensures.some in
    let at : position (has_number n) items ≡ Some c.in_ok-place.place =
    ap (λ (s : Connections). position (has_number n) s.clients) c.self.view_is ∙ sym c.place_numbered.ensures ∙ c.in_ok-place.was in
    unplayed_place (Some c.in-Some.field-0) c.args.who n c.in_ok-place.place items c.index.result.now c.self.invariant.0.0 own at (ap (λ (k : Client). k.connection.login) (sym c.index.ensures) ∙ c.in-Some.is)
    ∙ ap (λ (s : Connections). position (is_unplayed_as c.args.who) s.clients) c.self.view_is

pub returns-in-None : goal.returns-in-None
returns-in-None c =
    let items : List Client = c.self.inside.clients.items in
    let n : ℕ = c.in_ok-number.number in
    let same : to_z w32 (of_z w32 c.args.who) ≡ c.args.who = (let fits : SFits w32 c.args.who = search rules in to_z-of_z fits) in
    let own : c.args.who ≡ own_number n = sym same ∙ c.in_ok-number.ensures.some in
    let at : position (has_number n) items ≡ Some c.in_ok-place.place =
    ap (λ (s : Connections). position (has_number n) s.clients) c.self.view_is ∙ sym c.place_numbered.ensures ∙ c.in_ok-place.was in
    unplayed_place None c.args.who n c.in_ok-place.place items c.index.result.now c.self.invariant.0.0 own at (ap (λ (k : Client). k.connection.login) (sym c.index.ensures) ∙ c.in-None.is)
    ∙ ap (λ (s : Connections). position (is_unplayed_as c.args.who) s.clients) c.self.view_is
