use Rattle.std.proofs.Common.{arith}
use Rattle.moo_dbtext_record.proofs.TableLaws.{put_past, put_at}
use Rattle.moo_dbtext_record.proofs.program_table.put_source_in.Goals as goal

pub returns-then-verb-len : goal.returns-then-verb-len
returns-then-verb-len c = put_past c.args.row.now.items c.args.verb c.args.source.items (omega (arith, c.args.row.now.ok.0, c.if-verb-len.true))

pub returns : goal.returns
returns c = put_at c.args.row.now.items c.args.verb c.args.source
