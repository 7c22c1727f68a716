use Rattle.moo_dbtext_read.proofs.Turns.{faultless_placed, faultless_counted}
use Rattle.moo_dbtext_read.proofs.loading.world_of.Goals as goal

pub restore_checked-requires-clause-placed : goal.restore_checked-requires-clause-placed
restore_checked-requires-clause-placed c = faultless_placed c.args.objects.now c.requires.faultless

pub restore_checked-requires-clause-counted : goal.restore_checked-requires-clause-counted
restore_checked-requires-clause-counted c = faultless_counted c.args.objects.now c.requires.faultless
