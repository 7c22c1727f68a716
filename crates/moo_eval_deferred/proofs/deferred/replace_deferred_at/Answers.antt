use Rattle.moo_value.specs.View.{tree}
use Rattle.moo_eval_access.specs.LetGo.{let_go}
use Rattle.moo_eval_access.proofs.LettingGo.{answered, set_after}
use Rattle.moo_eval_deferred.proofs.deferred.replace_deferred_at.Goals as goal

pub returns-clause-ok : goal.returns-clause-ok
returns-clause-ok c =
    let w = tree c.in_ok-whole.whole in
    let made = answered _ (c.in_ok-whole.ensures tt) in
    (w, made, set_after c.args.name.now w (let_go w _ made c.in_ok-set.ensures) c.in_ok-set-2.ensures)
