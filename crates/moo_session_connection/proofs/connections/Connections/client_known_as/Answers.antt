use Rattle.std.proofs.Common.{◌≡◌, ℤ, List, Some, None, sym, ◌∙◌, ap, subst, to_z, of_z, to_z-of_z, w32, SFits, rules}
use Rattle.std.specs.Prelude.{position}
use Rattle.std.specs.Option.{option_copied}
use Rattle.moo_session_connection.specs.declared.client.Client.{Client}
use Rattle.moo_session_connection.specs.Clients.{is_known_as}
use Rattle.moo_session_connection.specs.Connections.{Connections, client_known_as}
use Rattle.moo_session_connection.proofs.Places.{found_at, found_nowhere}
use Rattle.moo_session_connection.proofs.connections.Connections.client_known_as.Goals as goal

pub returns-in_err-place : goal.returns-in_err-place
returns-in_err-place c =
    let same : to_z w32 (of_z w32 c.args.who) ≡ c.args.who = (let fits : SFits w32 c.args.who = search rules in to_z-of_z fits) in
    let along : ℤ → Type 0 = λ x. position (is_known_as x) c.args.self.now.clients ≡ None in
    let e : position (is_known_as c.args.who) c.args.self.now.clients ≡ None = subst along same (sym c.place_known_as.ensures ∙ c.in_err-place.was) in
    ap option_copied c.from_residual.ensures ∙ sym (found_nowhere (is_known_as c.args.who) c.args.self.now.clients e)

pub returns : goal.returns
returns c =
    let items : List Client = c.self.inside.clients.items in
    let same : to_z w32 (of_z w32 c.args.who) ≡ c.args.who = (let fits : SFits w32 c.args.who = search rules in to_z-of_z fits) in
    let along : ℤ → Type 0 = λ x. position (is_known_as x) c.args.self.now.clients ≡ Some c.in_ok-place.place in
    let e : position (is_known_as c.args.who) c.args.self.now.clients ≡ Some c.in_ok-place.place = subst along same (sym c.place_known_as.ensures ∙ c.in_ok-place.was) in
    let at : position (is_known_as c.args.who) items ≡ Some c.in_ok-place.place = ap (λ (s : Connections). position (is_known_as c.args.who) s.clients) c.self.view_is ∙ e in
    ap (λ (k : Client). Some k) c.index.ensures
    ∙ sym (found_at (is_known_as c.args.who) items c.in_ok-place.place c.index.result.now at)
    ∙ ap (λ (s : Connections). client_known_as c.args.who s) c.self.view_is
