use Rattle.std.proofs.Common.{◌≡◌, ◌≤◌, Some, None, eqb, sym, ◌∙◌, ap, get_or}
use Rattle.std.specs.List.{count_by}
use Rattle.moo_world_tree.specs.Forest.{without}
use Rattle.moo_world_tree.specs.Gapped.{present}
use Rattle.moo_world_tree.proofs.Counting.{without_absent}
use Rattle.moo_world_tree.proofs.Gaps.{cleared}
use Rattle.moo_world_tree.proofs.Fronts.{begins_with_gap}
use Rattle.moo_world_tree.proofs.gapped.Gapped.remove.Goals as goal

pub returns-in-Some : goal.returns-in-Some
returns-in-Some c =
    let slots = c.self.inside.slots.items in
    let once : count_by (eqb c.args.x) (present slots) ≤ 1 = rw c.self.view_is c.requires in
    let is : get_or slots c.in-Some.place None ≡ Some c.args.x = ap (λ s. get_or s c.in-Some.place None) (sym c.deref.ensures.value) ∙ c.in-Some.ensures.1 in
    cleared slots c.in-Some.place c.args.x is once ∙ ap (without c.args.x) c.self.view_is

pub returns-in_default : goal.returns-in_default
returns-in_default c =
    sym (without_absent c.args.x c.args.self.now (ap (count_by (eqb c.args.x)) (sym c.self.view_is) ∙ ap (λ s. count_by (eqb c.args.x) (present s)) (sym c.deref.ensures.value) ∙ c.in_default.ensures))

pub empty_at_front-self-inside-requires : goal.empty_at_front-self-inside-requires
empty_at_front-self-inside-requires c = rw c.deref-in-Some.ensures.value (begins_with_gap c.self.inside.front c.in-Some.place c.self.inside.slots.items c.self.invariant)
