use Rattle.std.proofs.Common.{ap, ◌∙◌, map, List, Option}
use Rattle.std.specs.Global.{Vec}
use Rattle.moo_dbtext_object.specs.Lines.{Line}
use Rattle.moo_dbtext_record.specs.Programs.{source_of, is_open_in}
use Rattle.moo_dbtext_record.proofs.TableLaws.{table_past, table_at}
use Rattle.moo_dbtext_record.proofs.program_table.is_open.Goals as goal

pub returns-then-object-table : goal.returns-then-object-table
returns-then-object-table c = table_past c.args.table.now c.args.object c.args.verb c.if-object-table.true

pub returns : goal.returns
returns c =
    c.is_open_in.ensures ∙ ap (λ (r : List (Option (Vec Line))). is_open_in c.args.verb (map source_of r)) c.deref.ensures.value
    ∙ ap (λ (r : Vec (Option (Vec Line))). is_open_in c.args.verb (map source_of r.items)) c.index-table-object.is
    ∙ table_at c.args.table.now c.args.object c.args.verb c.index-table-object.result c.if-object-table.false
