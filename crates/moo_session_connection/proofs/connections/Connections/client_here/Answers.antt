use Rattle.std.proofs.Common.{◌≡◌, List, Some, sym, ◌∙◌, ap}
use Rattle.std.specs.Prelude.{position}
use Rattle.std.specs.Option.{option_copied}
use Rattle.moo_session_connection.specs.declared.client.Client.{Client}
use Rattle.moo_session_connection.specs.Clients.{has_number}
use Rattle.moo_session_connection.specs.Connections.{Connections, client_here}
use Rattle.moo_session_connection.proofs.Places.{found_at, found_nowhere}
use Rattle.moo_session_connection.proofs.connections.Connections.client_here.Goals as goal

pub returns-in_err-place : goal.returns-in_err-place
returns-in_err-place c =
    ap option_copied c.from_residual.ensures
    ∙ sym (found_nowhere (has_number c.args.number) c.args.self.now.clients (sym c.place_here.ensures ∙ c.in_err-place.was))

pub returns : goal.returns
returns c =
    let items : List Client = c.self.inside.clients.items in
    let at : position (has_number c.args.number) items ≡ Some c.in_ok-place.place =
    ap (λ (s : Connections). position (has_number c.args.number) s.clients) c.self.view_is ∙ sym c.place_here.ensures ∙ c.in_ok-place.was
    in
    ap (λ (k : Client). Some k) c.index.ensures
    ∙ sym (found_at (has_number c.args.number) items c.in_ok-place.place c.index.result.now at)
    ∙ ap (λ (s : Connections). client_here c.args.number s) c.self.view_is
