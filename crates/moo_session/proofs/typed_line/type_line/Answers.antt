use Rattle.std.proofs.Common.{◌≡◌, Some, sym, ◌∙◌, ap, to_z, of_z, to_z-of_z, w32, SFits, rules}
use Rattle.std.specs.Option.{option_copied}
use Rattle.std.specs.Prelude.{is_some}
use Rattle.moo_session_connection.specs.declared.client.Client.{Client}
use Rattle.moo_session_connection.specs.Connections.{Connections, client_here}
use Rattle.moo_session.proofs.DispatchSteps.{of_client, is_some_copied}
use Rattle.moo_session.proofs.InputSteps.{typed_login, typed_as}
use Rattle.moo_session.proofs.typed_line.type_line.Goals as goal

pub unwrap-client-requires : goal.unwrap-client-requires
unwrap-client-requires c = is_some_copied c.client_here.result (ap is_some (c.client_here.ensures ∙ ap (λ (x : Connections). client_here c.args.number x) c.connections.ensures) ∙ c.requires.here)

pub returns-in-None : goal.returns-in-None
returns-in-None c =
    let client : Client = c.unwrap-client.result.now in
    let here : client_here c.args.number c.args.live.now.session.connections ≡ Some client =
    ap (λ (x : Connections). client_here c.args.number x) (sym c.connections.ensures) ∙ sym c.client_here.ensures ∙ ap option_copied c.unwrap-client.ensures in
    of_client c.log_in_by_line.result (client_here c.args.number c.args.live.now.session.connections) client _ here
    (typed_login c.log_in_by_line.result c.args.moment c.args.number client c.args.line.now c.args.live.now c.log_in_by_line.new.live c.in-None.is c.log_in_by_line.ensures)

pub returns-in-Some : goal.returns-in-Some
returns-in-Some c =
    let client : Client = c.unwrap-client.result.now in
    let here : client_here c.args.number c.args.live.now.session.connections ≡ Some client =
    ap (λ (x : Connections). client_here c.args.number x) (sym c.connections.ensures) ∙ sym c.client_here.ensures ∙ ap option_copied c.unwrap-client.ensures in
    let who : to_z w32 (of_z w32 c.in-Some.login.player) ≡ c.in-Some.login.player = (let fits : SFits w32 c.in-Some.login.player = search rules in to_z-of_z fits) in
    typed_as c.type_as.result (client_here c.args.number c.args.live.now.session.connections) c.args.moment c.args.number client c.in-Some.login (to_z w32 (of_z w32 c.in-Some.login.player)) c.args.line.now c.args.live.now c.type_as.new.live here c.in-Some.is who c.type_as.ensures
