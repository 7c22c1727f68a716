use Rattle.std.proofs.Common.{◌≡◌, List, Option, Some, map, ap, sym, ◌∙◌}
use Rattle.std.specs.Global.{Vec}
use Rattle.moo_dbtext_object.specs.Lines.{Line}
use Rattle.moo_dbtext_record.specs.Sparing.{marks_of}
use Rattle.moo_dbtext_record.specs.Programs.{entry_at, row_of, table_of}
use Rattle.moo_dbtext_record.proofs.Sparing.{marks_kept}
use Rattle.moo_dbtext_record.proofs.program_table.drop_source.Goals as goal

pub returns : goal.returns
returns c =
    let table = table_of c.args.table.now in
    let there : entry_at table c.args.object c.args.verb ≡ Some c.in-Some.field-0.now =
    ap (λ (rows : List (Vec (Option (Vec Line)))). entry_at (map row_of rows) c.args.object c.args.verb) (sym c.deref.ensures.value) ∙ c.in-Some.ensures in
    ap marks_of c.put_source.ensures ∙ marks_kept table c.args.object c.args.verb c.new.result.items c.in-Some.field-0.now there
