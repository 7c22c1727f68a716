use Rattle.std.proofs.Common.{sym, ◌∙◌, ap, subst, ◌≡◌, ◌-◌, length, get_or, take}
use Rattle.moo_world_tree.specs.Forest.{alone}
use Rattle.moo_world_tree.proofs.Climbing.{forest_removed}
use Rattle.moo_world_tree.proofs.Forest.remove_last.Goals as goal

pub invariant_of-self : goal.invariant_of-self
invariant_of-self c =
    let nodes = c.self.inside.nodes.items in
    let last = subst (λ ns. get_or ns (length ns - 1) alone ≡ alone) (sym c.self.view_is) c.requires in
    let is = c.pop-last.ensures.rest ∙ ap (λ n. take (n - 1) nodes) c.self.inside.nodes.ok.0 in
    rw is (forest_removed nodes last c.self.invariant)
