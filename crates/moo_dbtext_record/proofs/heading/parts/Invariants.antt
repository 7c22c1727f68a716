use Rattle.std.proofs.Common.{◌≡◌, take, drop}
use Rattle.moo_dbtext_record.specs.Headings.{parts_of}
use Rattle.moo_dbtext_record.proofs.HeadingLaws.{led}
use Rattle.moo_dbtext_record.proofs.heading.parts.Given as goal

abbrev pub invariant-loop-i : goal.invariant-loop-i
invariant-loop-i l = led (take l.i l.line) (parts_of l.at (drop l.i l.line)) ≡ parts_of l.at l.line
