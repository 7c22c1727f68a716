use Rattle.moo_value.specs.View.{tree}
use Rattle.moo_eval_access.specs.LetGo.{let_go}
use Rattle.moo_eval_access.proofs.LettingGo.{set_after}
use Rattle.moo_eval_deferred.proofs.place.replace_at.Goals as goal

pub returns-clause-ok : goal.returns-clause-ok
returns-clause-ok c =
    let w = tree c.in_ok-whole.whole in
    (w, c.in_ok-whole.ensures, set_after c.args.name.now w (let_go w _ c.in_ok-whole.ensures c.in_ok-set.ensures) c.in_ok-set-2.ensures)
