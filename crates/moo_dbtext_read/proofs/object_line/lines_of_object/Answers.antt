use Rattle.std.proofs.Common.{◌≡◌, List, length, arith, ap, ◌∙◌}
use Rattle.std.specs.Prelude.{map}
use Rattle.std.specs.List.{flat_map}
use Rattle.std.proofs.lemmas.List.{length-map}
use Rattle.moo_dbtext_object.specs.Objects.{object_of, verb_of, cell_of, cell_lines}
use Rattle.moo_dbtext_object.specs.declared.object_record.PropertyRecord.{PropertyRecord}
use Rattle.moo_dbtext_read.proofs.Lengths.{object_length}
use Rattle.moo_dbtext_read.proofs.object_line.lines_of_object.Goals as goal

pub returns : goal.returns
returns c = λ note.
    let o = c.args.object.now in
    let e = object_length (object_of o) note in
    let verbs = length-map o.verbs.items verb_of in
    let cells : c.in_ok-cells.cells ≡ length (flat_map cell_lines (map cell_of o.cells.items)) = c.in_ok-cells.ensures ∙ ap (λ (ps : List PropertyRecord). length (flat_map cell_lines (map cell_of ps))) c.deref.ensures.value in
    omega (arith, c.in_ok-lines.ensures, c.in_ok-checked_add.ensures, c.in_ok-checked_add-2.ensures, c.in_ok-verbs.ensures, c.len.ensures, c.len-names.ensures, o.verbs.ok.0, o.names.ok.0)
