use Rattle.moo_world_text.proofs.ReadBack as law
use Rattle.moo_world_text.proofs.laws.object_specifiers_are_read_back.Goals as goal

pub returns : goal.returns
returns c = law.object_specifiers_are_read_back
