use Rattle.moo_world_text.proofs.ReadBack as law
use Rattle.moo_world_text.proofs.laws.prop_perms_are_read_back.Goals as goal

pub returns : goal.returns
returns c = law.prop_perms_are_read_back
