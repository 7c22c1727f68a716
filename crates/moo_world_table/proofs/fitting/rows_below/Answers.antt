use Rattle.std.proofs.Common.{◌≡◌, [], ◌∙◌, sym, ap, subst, arith, length, get_or, None}
use Rattle.std.proofs.lemmas.List.{get_or_read}
use Rattle.moo_world_tree.specs.Walk.{step_at}
use Rattle.std.specs.Option.{unwrap_or}
use Rattle.moo_world_object.specs.Cells.{AreDistinct}
use Rattle.moo_world_table.specs.World.{nothing, fitted_over, object_of, cells_of}
use Rattle.moo_world_table.specs.Steps.{AreFitted}
use Rattle.moo_world_table.proofs.Changing.{valid_within}
use Rattle.moo_world_table.proofs.Joining.{fitted_begun, fitted_more}
use Rattle.moo_world_table.proofs.fitting.rows_below.Goals as goal

pub loop-i-init : goal.loop-i-init
loop-i-init c =
    let objects = c.args.objects.now in
    let node = (step_at c.args.walk.now 0).node in
    let low = valid_within objects node (c.requires.valid 0 c.requires.begins) in
    let top = c.in_ok-row_over.ensures ∙ ap (λ above. fitted_over node c.index-objects-first.result above) c.cells_of.ensures ∙
    ap (λ o. fitted_over node o (cells_of objects c.args.p)) (get_or_read objects node c.index-objects-first.result low c.index-objects-first.is None) in
    record {
      begun = omega arith;
      upto = omega (arith, c.requires.begins);
      so_far = rw (c.in_ok-push.ensures.items, c.new-rows.ensures.items) (fitted_begun objects c.args.walk.now (fitted_over node (object_of objects node) (cells_of objects c.args.p)) c.in_ok-row_over.field-0 top);
    }

pub row_over-requires-in-loop-i-clause-distinct : goal.row_over-requires-in-loop-i-clause-distinct
row_over-requires-in-loop-i-clause-distinct c =
    let objects = c.args.objects.now in
    let node = (step_at c.args.walk.now c.loop-i.i).node in
    let low = valid_within objects node (c.requires.valid c.loop-i.i c.loop-i-test.true) in
    subst (λ o. AreDistinct (unwrap_or o nothing).cells) (sym (get_or_read objects node c.index-objects-step.result low c.index-objects-step.is None)) (c.requires.distinct c.loop-i.i c.loop-i-test.true)

pub index-requires : goal.index-requires
index-requires c =
    let before = c.requires.follows c.loop-i.i (omega (arith, c.loop-i.invariant.begun)) c.loop-i-test.true in
    omega (arith, before, c.loop-i.invariant.so_far.many, c.loop-i.rows.ok.0)

pub loop-i-preserved : goal.loop-i-preserved
loop-i-preserved c =
    let objects = c.args.objects.now in
    let step = step_at c.args.walk.now c.loop-i.i in
    let before = c.requires.follows c.loop-i.i (omega (arith, c.loop-i.invariant.begun)) c.loop-i-test.true in
    let low = valid_within objects step.node (c.requires.valid c.loop-i.i c.loop-i-test.true) in
    let above = c.as_slice.ensures ∙ get_or_read c.loop-i.rows.items step.from c.index.result.now (omega (arith, before, c.loop-i.invariant.so_far.many)) c.index.ensures [] in
    let row = c.in_ok-row.ensures ∙ ap (λ over. fitted_over step.node c.index-objects-step.result over) above ∙
    ap (λ o. fitted_over step.node o (get_or c.loop-i.rows.items step.from [])) (get_or_read objects step.node c.index-objects-step.result low c.index-objects-step.is None) in
    record {
      begun = omega arith;
      upto = omega (arith, c.loop-i-test.true);
      so_far = rw c.in_ok-push-2.ensures.items (fitted_more objects c.args.walk.now _ c.loop-i.i c.loop-i.rows.items c.in_ok-row.row c.loop-i.invariant.begun c.requires.follows c.loop-i-test.true c.loop-i.invariant.so_far row);
    }

pub returns : goal.returns
returns c =
    let ended : c.loop-i.i ≡ length c.args.walk.now = omega (arith, c.loop-i-test.false, c.loop-i.invariant.upto) in
    subst (λ n. AreFitted c.args.objects.now c.args.walk.now (fitted_over (step_at c.args.walk.now 0).node (object_of c.args.objects.now (step_at c.args.walk.now 0).node) (cells_of c.args.objects.now c.args.p)) n c.loop-i.rows.items) ended c.loop-i.invariant.so_far
