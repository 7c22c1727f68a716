use Rattle.std.proofs.Common.{◌++◌, ◌∷◌, [], Some, ap, ◌∙◌}
use Rattle.moo_world_tree.specs.Gapped.{present}
use Rattle.moo_world_tree.proofs.Gaps.{present-append}
use Rattle.moo_world_tree.proofs.gapped.Gapped.push.Goals as goal

pub returns-clause-ok : goal.returns-clause-ok
returns-clause-ok c = ap present c.in_ok-push.ensures.items ∙ present-append c.self.inside.slots.items (Some c.args.x ∷ []) ∙ ap (λ ys. ys ++ c.args.x ∷ []) c.self.view_is
