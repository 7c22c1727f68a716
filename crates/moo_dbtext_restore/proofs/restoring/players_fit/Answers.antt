use Rattle.std.proofs.Common.{rules, pos, subst, FitsSigned}
use Rattle.std.specs.Int.{w32}
use Rattle.std.specs.List.{All}
use Rattle.std.proofs.lemmas.List.{take_all}
use Rattle.std.proofs.lemmas.List.Elements.{All-more}
use Rattle.moo_dbtext_restore.proofs.restoring.players_fit.Goals as goal

pub loop-player-preserved : goal.loop-player-preserved
loop-player-preserved c =
    All-more (FitsSigned w32) c.args.players.now c.loop-player.player-index (pos 0) c.loop-player-test.true c.loop-player.invariant (search rules)

pub returns : goal.returns
returns c = subst (All (FitsSigned w32)) (take_all c.loop-player.player-index c.args.players.now c.loop-player-test.false) c.loop-player.invariant
