use Rattle.std.proofs.Common.{◌≡◌, Option, Some, [], arith, ap, sym, ◌∙◌}
use Rattle.std.specs.Prelude.{option_map}
use Rattle.moo_dbtext_object.specs.Objects.{object_of}
use Rattle.moo_dbtext_object.specs.declared.object_record.ObjectRecord.{ObjectRecord}
use Rattle.moo_dbtext_read.specs.Objects.{entry_length}
use Rattle.moo_dbtext_read.proofs.object_line.lines_of_entry.Goals as goal

pub returns-in_ok-lines-in-Some : goal.returns-in_ok-lines-in-Some
returns-in_ok-lines-in-Some c =
    let some : c.in_ok-lines-in-Some.lines ≡ entry_length (Some (object_of c.in-Some.object)) = omega (arith, c.in_ok-lines-in-Some.ensures, c.in_ok-lines_of_object-in-Some.ensures []) in
    some ∙ ap (λ (e : Option ObjectRecord). entry_length (option_map object_of e)) (sym c.in-Some.is)
