use Rattle.moo_value.proofs.Ordered.{order-swapped}
use Rattle.moo_value.proofs.laws.order_is_reversed.Goals as goal

pub returns : goal.returns
returns c = order-swapped
