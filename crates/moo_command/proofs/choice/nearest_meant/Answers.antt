use Rattle.std.proofs.Common.{◌∙◌, sym, refl, arith}
use Rattle.moo_command.specs.Seen.{command_of}
use Rattle.moo_command.proofs.Choosing.{meant_here, step_up}
use Rattle.moo_command.proofs.choice.nearest_meant.Goals as goal

pub loop-preserved : goal.loop-preserved
loop-preserved c = record {
  within = omega (arith, c.in-Some-above.ensures.within c.in-Some-above.up refl, c.requires.many);
  rest = c.loop.invariant.rest ∙ step_up _ c.args.tree.now _ _ c.loop.at c.in-Some-above.up (omega arith) (sym c.in-Some-above.ensures.value)
      (sym (meant_here c.args.objects.now (command_of c.args.wanted.now.command.now) c.args.wanted.now.looked_on c.in-Some-above.up c.index-objects-at.result _
      (omega (arith, c.in-Some-above.ensures.within c.in-Some-above.up refl, c.requires.many)) c.index-objects-at.is c.in_default-meant_in.ensures));
}
