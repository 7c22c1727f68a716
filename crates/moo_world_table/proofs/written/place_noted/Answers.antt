use Rattle.std.proofs.Common.{sym, ◌∙◌}
use Rattle.moo_value.specs.Compare.{folded}
use Rattle.moo_world_table.proofs.Distances.{place_of_definition}
use Rattle.moo_world_table.proofs.written.place_noted.Goals as goal

pub returns-then-definer : goal.returns-then-definer
returns-then-definer c =
    place_of_definition c.args.definer (folded c.args.name.now) c.args.cells.now c.in_ok-place.place c.index-cells-place.result c.requires c.in_ok-place.ensures.0 c.index-cells-place.is c.in_ok-place.ensures.1 (sym c.definer.ensures ∙ c.if-definer.true)
