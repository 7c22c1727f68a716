use Rattle.std.proofs.Common.{◌++◌, Some, map, ap, ◌∙◌}
use Rattle.moo_world_tree.specs.Gapped.{present}
use Rattle.moo_world_tree.proofs.Gaps.{present-append, present_all}
use Rattle.moo_world_tree.proofs.gapped.Gapped.push_all.Goals as goal

pub returns-clause-ok : goal.returns-clause-ok
returns-clause-ok c =
    let slots = c.self.inside.slots.items in
    let xs = c.args.xs.now in
    ap present c.in_ok-push_all.ensures.ok ∙ present-append slots (map (λ x. Some x) xs) ∙ ap (λ ys. present slots ++ ys) (present_all xs) ∙ ap (λ ys. ys ++ xs) c.self.view_is
