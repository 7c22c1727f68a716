use Rattle.std.proofs.Common.{◌-◌, [], length, arith}
use Rattle.std.proofs.lemmas.List.{get_or_read}
use Rattle.moo_dbtext_restore.proofs.Keying.{row_more}
use Rattle.moo_dbtext_restore.proofs.rows.make_row.Goals as goal

pub loop-i-preserved : goal.loop-i-preserved
loop-i-preserved c =
    let cells = c.args.cells.now in
    let way = c.args.way.now in
    let i = c.loop-i.i in
    let low = c.loop-i-test.true in
    let many = c.requires in
    let d = get_or_read way (length way - 1 - i) c.index-way-way.result (omega (arith, low, many)) c.index-way-way.is (0, []) in
    let cell = get_or_read cells i c.index-cells-i.result low c.index-cells-i.is c.index-cells-i.result in
    rw (c.in_ok-push.ensures.items, c.in_ok-make_cell.ensures)
    (row_more way cells c.loop-i.row.items i c.index-way-way.result (0, []) c.index-cells-i.result c.index-cells-i.result many low d cell c.loop-i.invariant)
