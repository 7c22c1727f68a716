use Rattle.std.proofs.Common.{◌≡◌, List, Option, length, take, arith, ap, sym, ◌∙◌}
use Rattle.std.specs.Prelude.{map, option_map}
use Rattle.std.proofs.lemmas.List.{take-map}
use Rattle.moo_dbtext_object.specs.Objects.{Object, object_of}
use Rattle.moo_dbtext_record.specs.Texts.{objects_lines}
use Rattle.moo_dbtext_record.specs.Writing.{no_notes}
use Rattle.moo_dbtext_read.proofs.object_line.line_of_object.Goals as goal

pub returns : goal.returns
returns c =
    let before : c.in_ok-lines_of_entries.field-0 ≡ length (objects_lines 0 (take c.args.x (map (option_map object_of) c.args.objects.now)) no_notes) =
    c.in_ok-lines_of_entries.ensures ∙ ap (λ (es : List (Option Object)). length (objects_lines 0 es no_notes)) (sym (take-map (option_map object_of) c.args.x c.args.objects.now)) in
    omega (arith, c.in_ok-lines.ensures, c.in_ok-checked_add.ensures)
