use Rattle.moo_dbtext_read.proofs.Turns.{checked_faultless}
use Rattle.moo_dbtext_read.proofs.world_reader.check.Goals as goal

pub returns-in-Ok-clause-faultless : goal.returns-in-Ok-clause-faultless
returns-in-Ok-clause-faultless c = checked_faultless c.args.objects.now c.in-Ok.ensures.placed c.in-Ok.ensures.counted
