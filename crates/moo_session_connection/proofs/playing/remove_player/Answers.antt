use Rattle.std.proofs.Common.{◌≡◌, ℤ, Some, sym, ◌∙◌, ap, to_z, of_z, to_z-of_z, w32, SFits, rules}
use Rattle.moo_session_connection.specs.Clients.{player_on}
use Rattle.moo_session_connection.proofs.Players.{without_player, without_nobody}
use Rattle.moo_session_connection.proofs.playing.remove_player.Goals as goal

pub returns-in-Some : goal.returns-in-Some
returns-in-Some c =
    let q : ℤ = to_z w32 (of_z w32 c.in-Some.player) in
    let same : q ≡ c.in-Some.player = (let fits : SFits w32 c.in-Some.player = search rules in to_z-of_z fits) in
    let on : player_on c.args.client.now ≡ Some q = sym c.player.ensures ∙ c.in-Some.is ∙ ap (λ (x : ℤ). Some x) (sym same) in
    without_player c.args.client.now q c.args.players.now c.remove-number.new.self on (λ p. c.remove-number.ensures.updates.0 p)

pub returns-in_default : goal.returns-in_default
returns-in_default c = without_nobody c.args.client.now c.args.players.now (sym c.player.ensures ∙ c.in_default.is)
