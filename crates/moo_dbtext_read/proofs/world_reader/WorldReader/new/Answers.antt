use Rattle.std.proofs.Common.{refl}
use Rattle.moo_dbtext_read.proofs.Turns.{loading_nothing}
use Rattle.moo_dbtext_read.proofs.world_reader.WorldReader.new.Goals as goal

pub returns : goal.returns
returns c = loading_nothing (record { programs = c.new.result; is_checked = _; outcome = _ }) c.new.ensures.taken c.new.ensures.well refl
