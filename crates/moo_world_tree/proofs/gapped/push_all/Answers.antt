use Rattle.std.proofs.Common.{◌++◌, Some, map, ap, ◌∙◌}
use Rattle.std.proofs.lemmas.List.{take_all}
use Rattle.moo_world_tree.proofs.gapped.push_all.Goals as goal

pub returns-clause-ok : goal.returns-clause-ok
returns-clause-ok c =
    c.loop-x.invariant ∙ ap (λ xs. c.args.slots.now.items ++ map (λ x. Some x) xs) (take_all c.loop-x.x-index c.args.xs.now c.loop-x-test.false)
