use Rattle.std.proofs.Common.{◌<◌, ◌∙◌, sym, ap, arith, length}
use Rattle.std.proofs.lemmas.List.{get_or_read}
use Rattle.moo_value.specs.Compare.{folded}
use Rattle.moo_world_object.specs.Cells.{Key, is_key}
use Rattle.moo_world_object.specs.Rows.{with_new_name}
use Rattle.moo_world_object.proofs.Rows.{name_here}
use Rattle.moo_world_object.proofs.row.rename_cell.Goals as goal

pub returns-then-is_for : goal.returns-then-is_for
returns-then-is_for c =
    let cells = c.loop-i.cells.items in
    let k : Key = (c.args.definer, folded c.args.name.now) in
    let within : c.loop-i.i < length cells = omega (arith, ap length c.loop-i.invariant.same, c.loop-i.cells.ok.0, c.args.cells.now.ok.0) in
    let one = get_or_read cells c.loop-i.i c.index.result.now within c.index.ensures c.index_mut.result.now ∙ sym c.index_mut.ensures.value in
    name_here k (folded c.args.new_name) cells c.loop-i.i c.index_mut.result.now c.set_name.new.self within c.index_mut.ensures.value
    (ap (is_key k) (sym one) ∙ sym c.is_for.ensures ∙ c.if-is_for.true) c.set_name.ensures c.loop-i.invariant.none_yet
    ∙ ap (with_new_name k (folded c.args.new_name)) c.loop-i.invariant.same
