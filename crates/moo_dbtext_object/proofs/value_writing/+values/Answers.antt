use Rattle.std.proofs.Common.{◌≡◌, ◌++◌, length, arith, ap, sym, ◌∙◌}
use Rattle.moo_value.specs.Tree.{Tree, list_of}
use Rattle.moo_dbtext_object.specs.Lines.{unlines}
use Rattle.moo_dbtext_object.specs.ValueLines.{value_lines}
use Rattle.moo_value.specs.Size.{list_depth, depth}
use Rattle.moo_value.specs.declared.value.Value.{Value}
use Rattle.moo_value.specs.View.{tree, trees}
use Rattle.moo_value.proofs.Descent.{within_deepest}
use Rattle.moo_dbtext_object.proofs.WritingLaws.{values_more, list_written}
use Rattle.moo_dbtext_object.proofs.value_writing.+values.Goals as goal

pub put_value-put_values-requires : goal.put_value-put_values-requires
put_value-put_values-requires t c = (omega (arith, ap list_depth c.elements.ensures.value, ap (λ (v : Value). depth (tree v)) c.in-List.is, c.decreases), tt)

pub put_values-put_value-requires : goal.put_values-put_value-requires
put_values-put_value-requires t c = (omega (arith, within_deepest c.args.values.now c.loop-value.value-index c.value-item.result c.loop-value-test.true c.value-item.is), tt)

pub put_values-loop-value-preserved : goal.put_values-loop-value-preserved
put_values-loop-value-preserved t c =
    values_more c.args.values.now c.loop-value.value-index c.value-item.result c.args.out.now.items c.loop-value.out.items c.put_value.new.out.items c.loop-value-test.true c.value-item.is c.loop-value.invariant c.in_ok-put_value.ensures

pub put_value-returns-in_ok-put_values-in-List : goal.put_value-returns-in_ok-put_values-in-List
put_value-returns-in_ok-put_values-in-List t c =
    let ts = trees c.elements.result.now in
    let o0 = c.args.out.now.items in
    let whole : list_of ts ≡ tree c.args.value.now = ap list_of c.elements.ensures.value ∙ ap tree (sym c.in-List.is) in
    let count : c.len.result ≡ length ts = c.len.ensures ∙ ap length (sym c.elements.ensures.value) in
    list_written ts c.len.result o0 c.put_byte-in-List.new.out.items c.put_count-in-List.new.out.items c.put_values.new.out.items count
    (c.in_ok-put_byte-in-List.ensures) (c.in_ok-put_count-in-List.ensures) (c.in_ok-put_values-in-List.ensures)
    ∙ ap (λ (t : Tree). o0 ++ unlines (value_lines t)) whole
