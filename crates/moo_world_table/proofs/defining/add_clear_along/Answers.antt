use Rattle.std.proofs.Common.{◌∙◌, arith}
use Rattle.moo_world_tree.specs.Walk.{step_at}
use Rattle.moo_world_table.specs.Steps.{with_clear_cell}
use Rattle.moo_world_table.proofs.Placing.{step_along, slot_stays}
use Rattle.moo_world_table.proofs.defining.add_clear_along.Goals as goal

pub returns-in-Err-clause-err : goal.returns-in-Err-clause-err
returns-in-Err-clause-err c =
    let i = c.loop-i.i in
    let inside = c.requires i c.loop-i-test.true in
    c.take_along.ensures.back c.args.cell.now c.args.objects.now.items
    (slot_stays c.loop-i.objects.items (step_at c.args.walk.now i).node c.index_mut.result.now c.add_clear_in.new.slot (omega (arith, inside, c.loop-i.invariant.many, c.loop-i.objects.ok.0)) c.index_mut.ensures.value c.in-Err.ensures.err ∙ c.loop-i.invariant.done)

pub returns-in-Err-clause-many : goal.returns-in-Err-clause-many
returns-in-Err-clause-many c = c.take_along.ensures.many ∙ c.loop-i.invariant.many

pub loop-i-preserved : goal.loop-i-preserved
loop-i-preserved c =
    let i = c.loop-i.i in
    let inside = c.requires i c.loop-i-test.true in
    record {
      done = step_along (with_clear_cell c.args.following c.args.cell.now) c.args.objects.now.items c.loop-i.objects.items c.args.walk.now i c.index_mut.result.now c.add_clear_in.new.slot c.loop-i-test.true
          (omega (arith, inside, c.loop-i.invariant.many, c.loop-i.objects.ok.0)) c.loop-i.invariant.done c.index_mut.ensures.value c.in_default.ensures.ok;
      many = c.loop-i.invariant.many;
    }
