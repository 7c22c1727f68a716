use Rattle.std.proofs.Common.{◌≡◌, ◌++◌, take, map, eqb, false}
use Rattle.std.specs.List.{list_any}
use Rattle.std.specs.Option.{ForSome}
use Rattle.moo_world_object.specs.Cells.{Cell}
use Rattle.moo_world_object.specs.Objects.{fitted_cell}
use Rattle.moo_world_object.proofs.object.Object.push_fitted.Given as goal

-- the fitted cells so far, and no cell of the definer that is absent
abbrev pub invariant-loop-other : goal.invariant-loop-other
invariant-loop-other l = record {
  fitted : l.row.items ≡ l.initial.row.items ++ map (fitted_cell l.self) (take l.other-index l.above);
  absent : ForSome l.absent (λ d. list_any (λ (c : Cell). eqb c.definer d) l.self.cells ≡ false);
}
