use Rattle.moo_value.specs.View.{tree}
use Rattle.moo_eval_access.proofs.LettingGo.{set_after}
use Rattle.moo_eval_access.proofs.target.set_part.Goals as goal

pub returns-clause-ok : goal.returns-clause-ok
returns-clause-ok c =
    (tree c.in_ok-whole.whole, c.in_ok-whole.ensures, set_after c.args.name.now (tree c.in_ok-whole.whole) c.in_ok-let_go.ensures c.in_ok-set.ensures)
