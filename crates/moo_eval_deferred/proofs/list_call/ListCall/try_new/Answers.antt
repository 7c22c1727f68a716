use Rattle.moo_value.specs.View.{trees}
use Rattle.moo_eval_deferred.proofs.ListCalls.{call_makes}
use Rattle.moo_eval_deferred.proofs.list_call.ListCall.try_new.Goals as goal

pub returns-in-Some-clause-ok : goal.returns-in-Some-clause-ok
returns-in-Some-clause-ok c =
    (c.in-Some.function, c.in-Some.is, call_makes c.in-Some.function (trees c.args.args.items) (rw c.deref.ensures.value at (c.has_list.ensures c.if-has_list.true)))
