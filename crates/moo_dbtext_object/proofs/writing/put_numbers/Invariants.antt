use Rattle.std.proofs.Common.{◌≡◌, ◌++◌, map, take}
use Rattle.std.specs.Fmt.{signed_decimal}
use Rattle.moo_dbtext_object.specs.Lines.{unlines}
use Rattle.moo_dbtext_object.proofs.writing.put_numbers.Given as goal

abbrev pub invariant-loop-number : goal.invariant-loop-number
invariant-loop-number l = l.out.items ≡ l.initial.out.items ++ unlines (map signed_decimal (take l.number-index l.numbers))
