use Rattle.std.proofs.Common.{◌≡◌, ◌∙◌, ℤ, ap, subst, map}
use Rattle.std.proofs.lemmas.Int.{to_z-of_z}
use Rattle.std.specs.Int.{w32}
use Rattle.moo_value.specs.Compare.{folded}
use Rattle.moo_world_object.specs.Cells.{at_key, with_info}
use Rattle.moo_world_object.proofs.row.Row.set_info.Goals as goal

pub returns : goal.returns
returns c =
    let F = λ (owner : ℤ). at_key (c.args.definer, folded c.args.name.now) (with_info owner c.args.perms) in
    let P : ℤ → Type 0 = λ owner. c.set_cell_info.new.cells.items ≡ map (F owner) c.self.inside.cells.items in
    subst P (to_z-of_z w32 c.args.owner c.ranges.owner) c.set_cell_info.ensures ∙ ap (map (F c.args.owner)) c.self.view_is
