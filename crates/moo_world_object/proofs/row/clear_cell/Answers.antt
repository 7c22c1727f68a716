use Rattle.std.proofs.Common.{◌∙◌, ap, arith, set}
use Rattle.std.proofs.lemmas.List.Edits.{map_over_more}
use Rattle.moo_value.specs.Compare.{folded}
use Rattle.moo_world_object.specs.Cells.{at_key, emptied}
use Rattle.moo_world_object.proofs.row.clear_cell.Goals as goal

pub loop-i-preserved : goal.loop-i-preserved
loop-i-preserved c =
    ap (set c.loop-i.cells.items c.loop-i.i) c.clear_if_for.ensures ∙
    map_over_more (at_key (c.args.definer, folded c.args.name.now) emptied) c.args.cells.now.items c.loop-i.cells.items c.loop-i.i c.index_mut.result.now
    (omega (arith, c.loop-i-test.true, c.len-i-end.ensures, c.args.cells.now.ok.0)) c.loop-i.invariant c.index_mut.ensures.value
