use Rattle.std.proofs.Common.{◌-◌, length, take, drop, ap, ◌∙◌}
use Rattle.moo_world_tree.specs.Gapped.{present}
use Rattle.moo_world_tree.proofs.Fronts.{all_after}
use Rattle.moo_world_tree.proofs.gapped.Gapped.below.Goals as goal

pub returns : goal.returns
returns c =
    let front = c.self.inside.front in
    c.new.ensures ∙ ap (λ slots. present (take (length slots - front) (drop front slots))) c.deref.ensures.value ∙ all_after front c.self.inside.slots.items c.self.invariant.1 ∙ c.self.view_is
