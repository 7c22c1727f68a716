-- The strings so far with the lines that are left are the lines.
use Rattle.std.proofs.Common.{◌≡◌, ◌++◌}
use Rattle.moo_unparse.proofs.listing.strings.Given as goal

abbrev pub invariant-loop-line : goal.invariant-loop-line
invariant-loop-line l = l.strings.items ++ l.line-iterator.rest.items ≡ l.fn.lines.items
