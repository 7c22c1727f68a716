use Rattle.moo_builtin_operator.proofs.Stored.{unary_stored, binary_stored, index_stored, range_stored, list_stored, with_index_stored, with_range_stored}
use Rattle.moo_builtin_operator.proofs.laws.values_stay_within_the_limits.Goals as goal

pub returns : goal.returns
returns c = record {
  unary = unary_stored;
  binary = binary_stored;
  index = index_stored;
  range = range_stored;
  list = list_stored;
  with_index = with_index_stored;
  with_range = with_range_stored;
}
