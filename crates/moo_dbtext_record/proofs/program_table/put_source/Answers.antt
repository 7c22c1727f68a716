use Rattle.std.proofs.Common.{arith, ap, ◌∙◌, Option}
use Rattle.std.specs.Global.{Vec}
use Rattle.moo_dbtext_object.specs.Lines.{Line}
use Rattle.moo_dbtext_record.specs.Programs.{row_of, with_source_in}
use Rattle.moo_dbtext_record.proofs.TableLaws.{put_past_table, put_in_table}
use Rattle.moo_dbtext_record.proofs.program_table.put_source.Goals as goal

pub returns-then-object-len : goal.returns-then-object-len
returns-then-object-len c = put_past_table c.args.table.now.items c.args.object c.args.verb c.args.source.items (omega (arith, c.args.table.now.ok.0, c.if-object-len.true))

pub returns : goal.returns
returns c =
    put_in_table c.args.table.now.items c.args.object c.args.verb c.args.source.items c.index_mut.result.now c.put_source_in.new.row (omega (arith, c.args.table.now.ok.0, c.if-object-len.false))
    (c.put_source_in.ensures ∙ ap (λ (r : Vec (Option (Vec Line))). with_source_in c.args.verb c.args.source.items (row_of r)) c.index_mut.ensures.value)
