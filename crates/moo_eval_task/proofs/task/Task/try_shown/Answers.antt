use Rattle.std.proofs.Common.{refl, sym, rules, w32}
use Rattle.std.proofs.lemmas.Int.{to_z-of_z}
use mir.Val.{SFits}
use Rattle.moo_value.specs.View.{tree}
use Rattle.moo_syntax_node.specs.Source.{source}
use Rattle.moo_eval_frame.specs.Seen.{variables_of}
use Rattle.moo_eval_task.specs.Seen.{state_of}
use Rattle.moo_eval_task.proofs.Looking.{shown_computes}
use Rattle.moo_eval_task.proofs.task.Task.try_shown.Goals as goal

pub returns-clause-some : goal.returns-clause-some
returns-clause-some c =
    let taken = c.if-not-take.ensures.taken refl in
    let object : SFits w32 c.in_ok-object.object = search rules in
    let shows = rw (to_z-of_z w32 c.in_ok-object.object object) at c.in_ok-value.ensures in
    λ k. rw taken.1 (shown_computes (variables_of c.args.active.now.variables) c.in_ok-function.function c.args.name.now (source c.args.node.now) c.in_ok-object.object (tree c.in_ok-value.value) k (state_of c.args.self.now c.args.world.now c.args.active.now) (sym c.in_ok-function.ensures) c.in_ok-object.ensures shows refl taken.0)
