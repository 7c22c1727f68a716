use Rattle.std.proofs.Common.{◌≡◌, ◌+◌, ◌-◌, ◌∙◌, ap, arith, take}
use Rattle.moo_world_tree.specs.Walk.{met}
use Rattle.moo_world_table.specs.Steps.{changed_along, with_clear_cell, without_cell_before}
use Rattle.moo_world_table.proofs.Placing.{cell_taken_again, step_back}
use Rattle.moo_world_table.proofs.defining.take_along.Goals as goal

pub loop-left-preserved : goal.loop-left-preserved
loop-left-preserved c =
    let walk = c.args.walk.now in
    let left = c.loop-left.left in
    let one_more : left - 1 + 1 ≡ left = omega (arith, c.loop-left-test.true) in
    let inside = c.requires (left - 1) (omega (arith, c.loop-left-test.true, c.loop-left.invariant.few)) in
    record {
      back = λ cell before is. step_back (with_clear_cell c.args.following cell) (without_cell_before c.args.following) (cell_taken_again c.args.following cell) before c.loop-left.objects.items walk left (left - 1) c.index_mut.result.now c.take_in.new.slot
          one_more (omega (arith, c.loop-left-test.true, c.loop-left.invariant.few)) (omega (arith, inside, c.loop-left.invariant.many, c.loop-left.objects.ok.0))
          (c.loop-left.invariant.back cell before is) c.index_mut.ensures.value c.take_in.ensures;
      few = omega (arith, c.loop-left.invariant.few);
      many = c.loop-left.invariant.many;
    }

pub returns-clause-back : goal.returns-clause-back
returns-clause-back c = λ cell before is.
    let ended : c.loop-left.left ≡ 0 = omega (arith, c.loop-left-test.false) in
    c.loop-left.invariant.back cell before is ∙ ap (λ n. changed_along (with_clear_cell c.args.following cell) before (met (take n c.args.walk.now))) ended
