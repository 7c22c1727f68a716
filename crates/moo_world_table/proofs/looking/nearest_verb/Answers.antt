use Rattle.std.proofs.Common.{◌∙◌, sym, arith, refl}
use Rattle.moo_world_table.proofs.LookingUp.{no_verb_here}
use Rattle.moo_world_table.proofs.looking.nearest_verb.Goals as goal

pub loop-preserved : goal.loop-preserved
loop-preserved c = record {
  within = omega (arith, c.in-Some-above.ensures.within c.in-Some-above.up refl, c.requires.many);
  rest = c.loop.invariant.rest ∙ no_verb_here c.args.objects.now c.args.tree.now c.args.need c.args.name.now _ _ c.loop.at c.in-Some-above.up c.index-objects-at.result (omega arith)
      (sym c.in-Some-above.ensures.value) (omega (arith, c.in-Some-above.ensures.within c.in-Some-above.up refl, c.requires.many)) c.index-objects-at.is c.in_default-verb_in.ensures;
}
