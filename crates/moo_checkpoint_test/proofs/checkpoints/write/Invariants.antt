use Rattle.moo_checkpoint.specs.Checkpoint.{Continues}
use Rattle.moo_checkpoint_test.proofs.checkpoints.write.Given as goal

abbrev pub invariant-loop : goal.invariant-loop
invariant-loop g l = Continues g.D.Disk.kind l.checkpoint l.disk
