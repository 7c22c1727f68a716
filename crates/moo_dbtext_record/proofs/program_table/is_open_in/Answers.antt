use Rattle.std.proofs.Common.{ap, ◌∙◌}
use Rattle.std.specs.Option.{is_none}
use Rattle.moo_dbtext_record.proofs.TableLaws.{open_past, open_at, none_told}
use Rattle.moo_dbtext_record.proofs.program_table.is_open_in.Goals as goal

pub returns-then-verb-row : goal.returns-then-verb-row
returns-then-verb-row c = open_past c.args.row.now c.args.verb c.if-verb-row.true

pub returns : goal.returns
returns c = none_told c.index-row-verb.result c.is_none.result c.is_none.ensures ∙ ap is_none c.index-row-verb.is ∙ open_at c.args.row.now c.args.verb c.index-row-verb.result c.if-verb-row.false
