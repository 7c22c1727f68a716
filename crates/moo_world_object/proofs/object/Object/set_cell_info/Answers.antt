use Rattle.std.proofs.Common.{◌≡◌, ◌∙◌, ℤ, List, ap, subst, map}
use Rattle.std.proofs.lemmas.Int.{to_z-of_z}
use Rattle.std.specs.Int.{w32}
use Rattle.moo_value.specs.Compare.{folded}
use Rattle.moo_world_object.specs.Cells.{Cell, at_key, with_info}
use Rattle.moo_world_object.specs.Objects.{Object as Contents}
use Rattle.moo_world_object.proofs.object.Object.set_cell_info.Goals as goal

pub returns : goal.returns
returns c =
    let F = λ (owner : ℤ). at_key (c.args.definer, folded c.args.name.now) (with_info owner c.args.perms) in
    let P : ℤ → Type 0 = λ owner. c.set_info.new.self ≡ map (F owner) c.self.inside.cells in
    let changed = subst P (to_z-of_z w32 c.args.owner c.ranges.owner) c.set_info.ensures in
    let G : Contents → Contents = λ v. record v { cells = map (F c.args.owner) v.cells } in
    ap (λ (cells : List Cell). record { name = c.self.inside.name; owner = c.self.inside.owner; flags = c.self.inside.flags; verbs = c.self.inside.verbs; defined = c.self.inside.defined.items; cells = cells }) changed
    ∙ ap G c.self.view_is
