use Rattle.moo_dbtext.proofs.Written.{written}
use Rattle.moo_dbtext.proofs.world.write_world.Goals as goal

pub returns-clause-writable : goal.returns-clause-writable
returns-clause-writable c = λ s few. written s c.args.world.now c.args.connected.now c.is_well_formed.ensures c.in_ok-put_world.ensures.held few
