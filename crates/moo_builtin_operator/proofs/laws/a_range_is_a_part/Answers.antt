use Rattle.moo_builtin_operator.proofs.Ranges.{indexes_range, measures_range}
use Rattle.moo_builtin_operator.proofs.laws.a_range_is_a_part.Goals as goal

pub returns : goal.returns
returns c = record { elements = indexes_range; length = measures_range }
