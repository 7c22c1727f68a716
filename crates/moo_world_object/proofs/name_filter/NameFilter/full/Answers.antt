use Rattle.moo_world_object.proofs.Filter.{all_pass}
use Rattle.moo_world_object.proofs.name_filter.NameFilter.full.Goals as goal

pub returns : goal.returns
returns c = all_pass
