use Rattle.moo_world_text.proofs.ReadBack as law
use Rattle.moo_world_text.proofs.laws.verb_perms_are_read_back.Goals as goal

pub returns : goal.returns
returns c = law.verb_perms_are_read_back
