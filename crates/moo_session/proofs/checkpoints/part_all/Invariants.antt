use Rattle.std.proofs.Common.{◌≡◌, drop}
use Rattle.moo_session.specs.Events.{all_parted}
use Rattle.moo_session.proofs.checkpoints.part_all.Given as goal

abbrev pub invariant-loop-player : goal.invariant-loop-player
invariant-loop-player l = all_parted (drop l.player-index l.players) l.session ≡ all_parted l.players l.initial.session
