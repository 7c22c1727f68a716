use Rattle.std.proofs.Common.{sym, ◌∙◌}
use Rattle.moo_cli_expr.proofs.FirstLine.{first_part, last_part}
use Rattle.moo_cli_expr.proofs.HeldSoFar.{held_last, held_bad, held_more}
use Rattle.moo_cli_expr.proofs.first_line.read_first_line.Goals as goal

pub returns-then-is_last-clause-line : goal.returns-then-is_last-clause-line
returns-then-is_last-clause-line g c =
    let last = last_part (g.I.Read.remaining c.loop-held.input) (g.I.Read.remaining c.next_part.new.input) c.in_ok-part.part.bytes.items c.in_ok-part.part.end c.in_ok-part.ensures.part c.in_ok-part.ensures.no_end (sym c.is_last.ensures ∙ c.if-is_last.true) in
    held_last _ _ _ c.in_ok-part.part.bytes.items _ c.is_text-is_good.result c.loop-held.invariant last
    (rw c.as_slice-in-loop-held.ensures.value at c.in-Ok.ensures) (rw c.as_slice.ensures.value at c.is_text-is_good.ensures)

pub returns-then-not-is_good-clause-line : goal.returns-then-not-is_good-clause-line
returns-then-not-is_good-clause-line g c =
    let goes = first_part (g.I.Read.remaining c.loop-held.input) (g.I.Read.remaining c.next_part.new.input) c.in_ok-part.part.bytes.items c.in_ok-part.part.end c.in_ok-part.ensures.part (sym c.is_last.ensures ∙ c.if-is_last.false) in
    held_bad _ _ _ _ c.in_ok-part.part.bytes.items _ c.is_text-is_good.result c.loop-held.invariant goes c.in_ok-part.ensures.no_end
    (rw c.as_slice-in-loop-held.ensures.value at c.in-Ok.ensures) (rw c.as_slice.ensures.value at c.is_text-is_good.ensures) c.if-not-is_good.true

pub loop-held-preserved : goal.loop-held-preserved
loop-held-preserved g c =
    let goes = first_part (g.I.Read.remaining c.loop-held.input) (g.I.Read.remaining c.next_part.new.input) c.in_ok-part.part.bytes.items c.in_ok-part.part.end c.in_ok-part.ensures.part (sym c.is_last.ensures ∙ c.if-is_last.false) in
    held_more _ _ _ _ c.in_ok-part.part.bytes.items _ c.is_text-is_good.result c.loop-held.invariant goes c.in_ok-part.ensures.no_end
    (rw c.as_slice-in-loop-held.ensures.value at c.in-Ok.ensures) (rw c.as_slice.ensures.value at c.is_text-is_good.ensures) c.if-not-is_good.false
