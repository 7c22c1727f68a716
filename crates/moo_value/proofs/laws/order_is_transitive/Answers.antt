use Rattle.moo_value.proofs.Ordered.{order-less, order-alike}
use Rattle.moo_value.proofs.laws.order_is_transitive.Goals as goal

pub returns : goal.returns
returns c = record { less = order-less; equal = order-alike }
