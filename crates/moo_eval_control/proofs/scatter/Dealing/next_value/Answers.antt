use Rattle.std.proofs.Common.{sym}
use Rattle.std.proofs.lemmas.Bool.{ltb-true}
use Rattle.moo_eval_control.proofs.Rest.{next_tree}
use Rattle.moo_eval_control.proofs.scatter.Dealing.next_value.Goals as goal

pub returns-clause-some : goal.returns-clause-some
returns-clause-some c =
    rw (← c.elements.ensures.value, c.in_ok-value.ensures.value) (next_tree c.elements.result.now c.args.self.now.next c.in-Some.value.now (ltb-true _ _ (sym c.in-Some.ensures.lookup.0)) c.in-Some.ensures.lookup.1)
