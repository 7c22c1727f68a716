use Rattle.std.proofs.Common.{sym, ◌∙◌, ap, subst, ◌≡◌, ◌<◌, ◌++◌, ◌∷◌, [], length, false}
use Rattle.moo_world_tree.specs.Forest.{alone, is_within}
use Rattle.moo_world_tree.proofs.Climbing.{new_is_apart}
use Rattle.moo_world_tree.proofs.Forest.add_below.Goals as goal

pub move_to-requires-clause-apart : goal.move_to-requires-clause-apart
move_to-requires-clause-apart c up is =
    let nodes = c.self.inside.nodes.items in
    let within = subst (λ ns. up < length ns) (sym c.self.view_is) (c.requires up is) in
    let apart = new_is_apart nodes c.self.invariant up within in
    let all = ap (λ ns. ns ++ alone ∷ []) c.self.view_is ∙ sym c.in_ok-add.ensures.ok in
    let number = c.self.inside.nodes.ok.0 in
    subst (λ ns. is_within ns up c.len-x.result ≡ false) all (subst (λ x. is_within (nodes ++ alone ∷ []) up x ≡ false) (sym (c.len-x.ensures ∙ number)) apart)
