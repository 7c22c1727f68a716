use Rattle.std.proofs.Common.{None, List, ap, ◌∙◌, w32}
use Rattle.std.proofs.lemmas.Int.{to_z-of_z}
use Rattle.moo_value.specs.Tree.{Tree}
use Rattle.moo_value.specs.View.{trees}
use Rattle.moo_eval_frame.specs.Outcome.{answers}
use Rattle.moo_eval_frame.specs.Seen.{context_of, variables_of, seen_by}
use Rattle.moo_eval_access.specs.SeenCalled.{entered_of}
use Rattle.moo_eval_access.specs.Entering.{entered_found, found_verb}
use Rattle.moo_eval_access.proofs.Entered.{listed}
use Rattle.moo_eval_access.proofs.entering.enter_verb_from.Goals as goal

pub returns : goal.returns
returns c =
    let from = to_z-of_z w32 c.args.from c.ranges.from in
    let this = to_z-of_z w32 c.args.this c.ranges.this in
    let enters = λ (vs : List Tree). entered_found c.args.world.now (context_of c.args.stack.now None) (variables_of c.args.active.now.variables) c.args.active.now.programmer c.args.this c.args.name.now vs (found_verb c.args.world.now c.args.from c.args.name.now) in
    λ k. listed (trees c.args.args.items) _ enters (seen_by entered_of c.enter_found.result) c.in_ok-args.ensures.ok c.in_ok-args.ensures.same (ap (λ x. answers (entered_found c.args.world.now (context_of c.args.stack.now None) (variables_of c.args.active.now.variables) c.args.active.now.programmer c.args.this c.args.name.now c.in_ok-args.args x)) (simp (from, c.new-2.ensures) at c.in_ok-found.ensures.ok) ∙ simp this at (c.enter_found.ensures k))
