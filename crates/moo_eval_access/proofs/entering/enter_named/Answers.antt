use Rattle.std.proofs.Common.{None, ap, ◌∙◌, w32}
use Rattle.std.proofs.lemmas.Int.{to_z-of_z}
use Rattle.moo_eval_frame.specs.Outcome.{answers}
use Rattle.moo_eval_frame.specs.Seen.{context_of, variables_of}
use Rattle.moo_eval_access.specs.Entering.{entered_found}
use Rattle.moo_eval_access.proofs.entering.enter_named.Goals as goal

pub returns : goal.returns
returns c =
    let this = to_z-of_z w32 c.args.this c.ranges.this in
    λ k. ap (λ x. answers (entered_found c.args.world.now (context_of c.args.stack.now None) (variables_of c.args.active.now.variables) c.args.active.now.programmer c.args.this c.args.name.now c.args.args x)) (simp this at c.in_ok-found.ensures.ok) ∙ simp (this, c.text.ensures) at (c.enter_found.ensures k)
