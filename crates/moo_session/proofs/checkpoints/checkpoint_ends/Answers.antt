use Rattle.std.proofs.Common.{◌≡◌, ℤ, [], ◌∷◌, ◌∙◌, ap, to_z, of_z, to_z-of_z, w32, SFits, rules}
use Rattle.std.specs.Prelude.{codes}
use Rattle.moo_value.specs.Tree.{integer}
use Rattle.moo_session.proofs.Steps.{called_with}
use Rattle.moo_session.proofs.checkpoints.checkpoint_ends.Goals as goal

pub returns : goal.returns
returns c =
    let whole : to_z w32 (of_z w32 c.outcome.result) ≡ c.outcome.result = (let fits : SFits w32 c.outcome.result = search rules in to_z-of_z fits) in
    called_with c.call_own_hook.result c.args.moment (codes "checkpoint_finished") c.in_ok-args.args _ c.args.live.now c.call_own_hook.new.live
    (c.in_ok-args.ensures ∙ ap (λ (x : ℤ). integer x ∷ []) (whole ∙ c.outcome.ensures)) c.call_own_hook.ensures
