use Rattle.std.proofs.Common.{take}
use Rattle.std.specs.Prelude.{FitsSigned}
use Rattle.std.specs.Int.{w32}
use Rattle.std.specs.List.{All}
use Rattle.moo_dbtext_restore.proofs.restoring.players_fit.Given as goal

abbrev pub invariant-loop-player : goal.invariant-loop-player
invariant-loop-player l = All (FitsSigned w32) (take l.player-index l.players)
