use Rattle.std.proofs.Common.{w32, rules, sym}
use Rattle.std.proofs.lemmas.Int.{to_z-of_z}
use mir.Val.{SFits}
use Rattle.moo_eval_frame.specs.Seen.{variables_of}
use Rattle.moo_syntax_node.proofs.Items.{map_some}
use Rattle.moo_eval_integer.proofs.Given.{element_gives}
use Rattle.moo_eval_integer.proofs.element.element_of.Goals as goal

pub returns-clause-value : goal.returns-clause-value
returns-clause-value c =
    let place : SFits w32 c.in_ok-place.place = search rules in
    map_some c.element_at.result (λ v h. element_gives (variables_of c.args.active.now.variables) c.in_ok-take.ensures.taken c.in_ok-take-2.ensures.taken (sym c.in_ok-base.ensures) c.in_ok-place.ensures.value h) (rw (to_z-of_z w32 c.in_ok-place.place place) at c.element_at.ensures.value)
