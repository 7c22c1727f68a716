use Rattle.std.proofs.Common.{get_or, refl}
use Rattle.moo_cli_script.proofs.Numbers.{too_large}
use Rattle.moo_cli_script.proofs.number.number.Goals as goal

pub returns-in_default-appended : goal.returns-in_default-appended
returns-in_default-appended c =
    too_large c.args.most c.args.digits.now c.loop-byte.byte-index c.loop-byte.value (get_or c.args.digits.now c.loop-byte.byte-index 0) c.in-Some.digit
    c.loop-byte-test.true refl c.in-Some.ensures.0 c.in_default-appended.ensures c.loop-byte.invariant
