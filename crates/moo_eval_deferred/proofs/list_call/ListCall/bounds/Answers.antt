use Rattle.std.proofs.Common.{sym}
use Rattle.moo_value.specs.View.{trees}
use Rattle.moo_eval_deferred.proofs.ListCalls.{call_within}
use Rattle.moo_eval_deferred.proofs.list_call.ListCall.bounds.Goals as goal

pub returns : goal.returns
returns c = call_within c.bounds_of.result c.self.inside.function (trees c.self.inside.args.items) _ (sym c.self.view_is) c.self.invariant (rw c.deref.ensures.value at c.bounds_of.ensures)
