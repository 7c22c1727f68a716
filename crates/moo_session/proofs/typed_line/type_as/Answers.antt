use Rattle.std.proofs.Common.{◌≡◌, sym, ◌∙◌, to_z, of_z, to_z-of_z, w32, SFits, rules}
use Rattle.moo_session_connection.specs.Connections.{client_here}
use Rattle.moo_session.proofs.InputSteps.{line_gathered, line_played}
use Rattle.moo_session.proofs.typed_line.type_as.Goals as goal

pub gather-requires : goal.gather-requires
gather-requires c = sym c.gathers.ensures ∙ c.if-gathers.true

pub returns-then-gathers : goal.returns-then-gathers
returns-then-gathers c =
    let who : to_z w32 (of_z w32 c.args.player) ≡ c.args.player = (let fits : SFits w32 c.args.player = search rules in to_z-of_z fits) in
    line_gathered c.gather.result (client_here c.args.number c.args.live.now.session.connections) c.args.moment c.args.number c.args.player (to_z w32 (of_z w32 c.args.player)) c.args.line.now c.in_ok-line.line c.args.live.now c.gather.new.live
    (sym c.gathers.ensures ∙ c.if-gathers.true) who c.in_ok-line.ensures c.gather.ensures

pub returns : goal.returns
returns c =
    let who : to_z w32 (of_z w32 c.args.player) ≡ c.args.player = (let fits : SFits w32 c.args.player = search rules in to_z-of_z fits) in
    line_played c.player_types.result (client_here c.args.number c.args.live.now.session.connections) c.args.moment c.args.number c.args.player (to_z w32 (of_z w32 c.args.player)) c.args.line.now c.args.live.now c.player_types.new.live
    (sym c.gathers.ensures ∙ c.if-gathers.false) who c.player_types.ensures
