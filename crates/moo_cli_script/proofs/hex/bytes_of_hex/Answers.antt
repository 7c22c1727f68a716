use Rattle.std.proofs.Common.{arith}
use Rattle.moo_cli_script.proofs.Hexes.{not_odd, pair_read_at, no_pair_at, all_read_at}
use Rattle.moo_cli_script.proofs.hex.bytes_of_hex.Goals as goal

pub returns-then-digits-eq1 : goal.returns-then-digits-eq1
returns-then-digits-eq1 c = not_odd c.args.digits.now c.if-digits-eq1.true

pub returns-in_default : goal.returns-in_default
returns-in_default c =
    no_pair_at c.args.digits.now c.loop-i.bytes.items c.loop-i.i (omega (arith, c.loop-i-test.true)) c.in_default.ensures c.loop-i.invariant

pub loop-i-preserved : goal.loop-i-preserved
loop-i-preserved c =
    pair_read_at c.args.digits.now c.loop-i.bytes.items c.push.new.self.items c.loop-i.i c.in-Some.byte (omega (arith, c.loop-i-test.true)) c.in-Some.ensures.1 c.in-Some.ensures.2
    c.in-Some.ensures.0 c.in_ok-push.ensures.items c.loop-i.invariant

pub returns : goal.returns
returns c = all_read_at c.args.digits.now c.loop-i.bytes.items c.loop-i.i (omega (arith, c.loop-i-test.false, c.if-digits-eq1.false)) c.loop-i.invariant
