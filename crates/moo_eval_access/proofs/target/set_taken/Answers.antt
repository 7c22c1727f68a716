use Rattle.std.proofs.Common.{Ok, refl, sym, ap, ◌∙◌}
use Rattle.moo_value.specs.View.{tree}
use Rattle.moo_eval_frame.specs.Outcome.{answers}
use Rattle.moo_eval_access.specs.LetGo.{let_go}
use Rattle.moo_eval_access.proofs.LettingGo.{set_after}
use Rattle.moo_eval_access.proofs.target.set_taken.Goals as goal

pub returns-clause-ok : goal.returns-clause-ok
returns-clause-ok c =
    let w = tree c.in_ok-whole.whole in
    (w, ap answers (sym (c.in_ok-steps.ensures (Ok (tree c.args.value)))) ∙ c.in_ok-whole.ensures tt, set_after c.args.name.now w (let_go w _ refl c.in_ok-set.ensures) c.in_ok-set-2.ensures)
