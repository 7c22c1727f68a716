use Rattle.std.proofs.Common.{rules, ◌≡◌, length}
use Rattle.moo_cli_io.proofs.AtEnd.{at_end}
use Rattle.moo_cli_io.proofs.part.next_part.Goals as goal

pub returns-then-is_empty-clause-part : goal.returns-then-is_empty-clause-part
returns-then-is_empty-clause-part g c =
    let none : length c.in-Ok.shown.now ≡ 0 = search rules in
    (c.new-then-is_empty.ensures.items, at_end (g.I.Read.remaining c.args.input.now) c.in-Ok.shown.now none c.in-Ok.ensures.end, c.fill_buf.follows.holds-at-none.0)
