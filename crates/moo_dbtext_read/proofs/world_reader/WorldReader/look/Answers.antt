use Rattle.std.proofs.Common.{rules}
use Rattle.moo_dbtext_read.proofs.Pieces.{looked_at}
use Rattle.moo_dbtext_read.proofs.world_reader.WorldReader.look.Goals as goal

pub returns-clause-stops : goal.returns-clause-stops
returns-clause-stops c = λ bytes read well.
    looked_at c.args.self.now.programs bytes c.dump-text.result.now read well (search rules) c.dump-text.ensures c.check.result c.deref.result.now c.deref-2.result.now c.deref.ensures.value c.deref-2.ensures.value c.check.ensures.fault
