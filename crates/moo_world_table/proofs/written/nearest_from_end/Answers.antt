use Rattle.std.proofs.Common.{◌∙◌, sym, arith, refl}
use Rattle.moo_world_table.proofs.Distances.{nothing_here}
use Rattle.moo_world_table.proofs.written.nearest_from_end.Goals as goal

pub loop-preserved : goal.loop-preserved
loop-preserved c = record {
  within = omega (arith, c.in-Some-above.ensures.within c.in-Some-above.up refl, c.requires.many);
  rest = c.loop.invariant.rest ∙ nothing_here c.args.objects.now c.args.parents.now c.args.distance _ _ c.loop.at c.in-Some-above.up c.index-objects-at.result (omega arith)
      (sym c.in-Some-above.ensures.value) (omega (arith, c.in-Some-above.ensures.within c.in-Some-above.up refl, c.requires.many)) c.index-objects-at.is c.in_default-value_from_end.ensures;
}
