use Rattle.std.proofs.Common.{◌<◌, sym, refl, rules, arith, w32}
use Rattle.std.proofs.lemmas.Int.{to_z-of_z}
use mir.Val.{SFits}
use Rattle.moo_value.specs.View.{tree}
use Rattle.moo_eval_frame.specs.Seen.{variables_of}
use Rattle.moo_eval_task.proofs.Properties.{property_read, readable}
use Rattle.moo_eval_task.proofs.Ticks.{ticks_seen}
use Rattle.moo_eval_task.proofs.task.Task.try_property_test.Goals as goal

pub returns-clause-some : goal.returns-clause-some
returns-clause-some c =
    let fits : SFits w32 c.left-left.result = search rules in
    let ticks = ticks_seen c.left-left.result c.args.self.now.ticks_left fits c.left-left.ensures in
    let object : SFits w32 c.in_ok-object.object = search rules in
    let programmer : SFits w32 c.args.active.now.programmer = search rules in
    let z : 2 < c.args.self.now.ticks_left = omega (arith, ticks, c.if-left-lt3.false) in
    let p = c.in_ok-object.ensures in
    let read = readable (rw (to_z-of_z w32 c.in_ok-object.object object, to_z-of_z w32 c.args.active.now.programmer programmer) at c.in_ok-readable_known.ensures) in
    λ k. (tree c.in_ok-readable_known.field-0.now, rw (p.1, c.leave.ensures, ticks) (property_read (variables_of c.args.active.now.variables) c.in_ok-object.name.now p.2 read refl z), sym c.is_true-passes.ensures)
