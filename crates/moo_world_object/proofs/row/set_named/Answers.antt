use Rattle.std.proofs.Common.{◌<◌, ◌∙◌, sym, ap, arith, length}
use Rattle.std.proofs.lemmas.List.{get_or_read}
use Rattle.moo_value.specs.Compare.{folded}
use Rattle.moo_value.specs.View.{tree}
use Rattle.moo_world_object.specs.Cells.{with_value, is_named}
use Rattle.moo_world_object.proofs.Rows.{set_here}
use Rattle.moo_world_object.proofs.row.set_named.Goals as goal

pub returns-then-is_named : goal.returns-then-is_named
returns-then-is_named c =
    let cells = c.loop-i.cells.items in
    let name = folded c.args.name.now in
    let within : c.loop-i.i < length cells = omega (arith, ap length c.loop-i.invariant.same, c.loop-i.cells.ok.0, c.args.cells.now.ok.0) in
    let one = get_or_read cells c.loop-i.i c.index.result.now within c.index.ensures c.index_mut.result.now ∙ sym c.index_mut.ensures.value in
    set_here name (tree c.args.value) cells c.loop-i.i c.index_mut.result.now c.set_value.new.self within c.index_mut.ensures.value
    (ap (is_named name) (sym one) ∙ sym c.is_named.ensures ∙ c.if-is_named.true) c.set_value.ensures c.loop-i.invariant.none_yet
    ∙ ap (with_value name (tree c.args.value)) c.loop-i.invariant.same
