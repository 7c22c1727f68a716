use Rattle.std.proofs.Common.{◌≡◌, ℤ, Some, sym, ◌∙◌, ap, subst, w32}
use Rattle.std.specs.Option.{option_map}
use Rattle.std.proofs.lemmas.Int.{to_z-of_z}
use Rattle.moo_value.specs.Compare.{folded}
use Rattle.moo_world_table.specs.Edits.{with_cell_info}
use Rattle.moo_world_table.proofs.editing.set_info_in.Goals as goal

pub returns-in-Some : goal.returns-in-Some
returns-in-Some c =
    let P : ℤ → Type 0 = λ owner. c.set_cell_info.new.self ≡ with_cell_info (c.args.definer, folded c.args.name.now) owner c.args.perms c.in-Some.object in
    let set = subst P (to_z-of_z w32 c.args.owner c.ranges.owner) c.set_cell_info.ensures in
    ap (λ o. Some o) set ∙ ap (option_map (with_cell_info (c.args.definer, folded c.args.name.now) c.args.owner c.args.perms)) (sym c.in-Some.is)
