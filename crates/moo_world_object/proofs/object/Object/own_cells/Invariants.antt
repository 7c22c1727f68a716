use Rattle.std.proofs.Common.{◌≡◌, take, eqb}
use Rattle.std.specs.List.{filter}
use Rattle.moo_world_object.specs.Cells.{Cell}
use Rattle.moo_world_object.proofs.object.Object.own_cells.Given as goal

abbrev pub invariant-loop-cell : goal.invariant-loop-cell
invariant-loop-cell l = l.row.items ≡ filter (λ (c : Cell). eqb c.definer l.number) (take l.cell-index l.self.cells)
