use Rattle.std.proofs.Common.{◌≡◌, ℕ, ℤ, List, Option, ◌∙◌, ap, to_z, of_z, to_z-of_z, w32, SFits, rules}
use Rattle.std.specs.Prelude.{position}
use Rattle.moo_session_connection.specs.declared.client.Client.{Client}
use Rattle.moo_session_connection.specs.Clients.{is_known_as, is_played_by}
use Rattle.moo_session_connection.specs.Players.{earlier}
use Rattle.moo_session_connection.proofs.Known.{known_place}
use Rattle.moo_session_connection.proofs.connections.Connections.place_known_as.Goals as goal

pub returns : goal.returns
returns c =
    let clients : List Client = c.args.self.now.clients in
    let p : ℤ = to_z w32 (of_z w32 c.args.who) in
    let same : p ≡ c.args.who = (let fits : SFits w32 c.args.who = search rules in to_z-of_z fits) in
    c.earlier.ensures
    ∙ ap (λ (o : Option ℕ). earlier o c.place_unplayed.result) c.place_playing.ensures.place
    ∙ ap (λ (o : Option ℕ). earlier (position (is_played_by p) clients) o) c.place_unplayed.ensures
    ∙ known_place p clients
    ∙ ap (λ (q : ℤ). position (is_known_as q) clients) same
