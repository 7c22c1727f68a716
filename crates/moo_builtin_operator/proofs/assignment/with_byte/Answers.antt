use Rattle.std.proofs.Common.{arith}
use Rattle.moo_builtin_operator.proofs.Replaced.{replaced_byte}
use Rattle.moo_builtin_operator.proofs.assignment.with_byte.Goals as goal

pub overflow_add-before : goal.overflow_add-before
overflow_add-before c = record { fits = omega (arith, c.in-Ok.ensures.bound, c.in-Ok.ensures.string.fits) }

pub returns-in-Ok : goal.returns-in-Ok
returns-in-Ok c =
    let found = c.in-Ok.ensures in
    rw found.ok (rw (replaced_byte c.args.string.now c.in-Ok.byte.now c.in-Ok.before found.bound found.one found.string.fits) at c.spliced_text.ensures)
