use Rattle.std.proofs.Common.{◌≡◌, ℕ, ℤ, List, Some, None, sym, ◌∙◌, ap, to_z, of_z, to_z-of_z, w32, SFits, rules}
use Rattle.std.specs.Prelude.{position}
use Rattle.std.specs.Option.{option_copied}
use Rattle.moo_session_connection.specs.declared.client.Client.{Client}
use Rattle.moo_session_connection.specs.Clients.{has_number, is_played_by}
use Rattle.moo_session_connection.specs.Connections.{Connections}
use Rattle.moo_session_connection.specs.Players.{number_playing}
use Rattle.moo_session_connection.proofs.Known.{player_place, no_player}
use Rattle.moo_session_connection.proofs.connections.Connections.place_playing.Goals as goal

pub returns-in_err-number-clause-place : goal.returns-in_err-number-clause-place
returns-in_err-number-clause-place c =
    let items : List Client = c.self.inside.clients.items in
    let p : ℤ = to_z w32 (of_z w32 c.args.player) in
    let same : p ≡ c.args.player = (let fits : SFits w32 c.args.player = search rules in to_z-of_z fits) in
    let gone : number_playing p items ≡ None = sym (c.self.invariant.0.3 p) ∙ sym c.get.ensures.value ∙ ap option_copied c.in_err-number.was in
    c.from_residual.ensures
    ∙ sym (no_player p items gone)
    ∙ ap (λ (q : ℤ). position (is_played_by q) items) same
    ∙ ap (λ (s : Connections). position (is_played_by c.args.player) s.clients) c.self.view_is

pub returns-clause-place : goal.returns-clause-place
returns-clause-place c =
    let items : List Client = c.self.inside.clients.items in
    let p : ℤ = to_z w32 (of_z w32 c.args.player) in
    let n : ℕ = c.in_ok-number.number.now in
    let same : p ≡ c.args.player = (let fits : SFits w32 c.args.player = search rules in to_z-of_z fits) in
    let leads : number_playing p items ≡ Some n = sym (c.self.invariant.0.3 p) ∙ sym c.get.ensures.value ∙ ap option_copied c.in_ok-number.was in
    c.place_here.ensures
    ∙ sym (ap (λ (s : Connections). position (has_number n) s.clients) c.self.view_is)
    ∙ player_place p n items c.self.invariant.0.0 leads
    ∙ ap (λ (q : ℤ). position (is_played_by q) items) same
    ∙ ap (λ (s : Connections). position (is_played_by c.args.player) s.clients) c.self.view_is
