use Rattle.std.proofs.Common.{arith}
use Rattle.moo_dbtext_object.proofs.Naturals.{no_zeros, not_empty, not_long, all_digits, one_more, all_read}
use Rattle.moo_dbtext_object.proofs.line.natural.Goals.{then-digits-gt1, else-digits-gt1}
use Rattle.moo_dbtext_object.proofs.line.natural.Goals.{then-has_zeros-via-then-has_zeros, then-has_zeros-via-else-has_zeros+then-is_empty, then-has_zeros-via-else-has_zeros+else-is_empty+then-digits-gt10}
use Rattle.moo_dbtext_object.proofs.line.natural.Goals.{then-digit-lt48-via-then-digit-lt48, then-digit-lt48-via-else-digit-lt48+then-digit-gt57}
use Rattle.moo_dbtext_object.proofs.line.natural.Goals as goal

pub returns-then-has_zeros : goal.returns-then-has_zeros
returns-then-has_zeros c = λ n lt e.
    let ds = c.args.digits.now in
    elim c.then-has_zeros.branch [
      | then-has_zeros-via-then-has_zeros w ↦ elim c.if-digits-gt1.branch [
        | then-digits-gt1 v ↦ no_zeros ds n lt e (search arith) (search arith)
        | else-digits-gt1 v ↦ absurd (search arith)
      ]
      | then-has_zeros-via-else-has_zeros+then-is_empty w ↦ not_empty ds n lt e (search arith)
      | then-has_zeros-via-else-has_zeros+else-is_empty+then-digits-gt10 w ↦ not_long ds n lt e (search arith)
    ]

pub returns-then-digit-lt48 : goal.returns-then-digit-lt48
returns-then-digit-lt48 c = λ n lt e.
    let range = all_digits c.args.digits.now n c.loop-digit.digit-index lt e c.loop-digit-test.true in
    elim c.then-digit-lt48.branch [
      | then-digit-lt48-via-then-digit-lt48 w ↦ omega (arith, range, w.if-digit-lt48.true)
      | then-digit-lt48-via-else-digit-lt48+then-digit-gt57 w ↦ omega (arith, range, w.if-digit-gt57.true)
    ]

pub loop-digit-preserved : goal.loop-digit-preserved
loop-digit-preserved c =
    one_more c.args.digits.now c.loop-digit.digit-index c.loop-digit.value (search arith) c.loop-digit-test.true
    (omega (arith, c.if-digit-lt48.false), omega (arith, c.if-digit-gt57.false)) c.loop-digit.invariant

pub returns : goal.returns
returns c = (c.loop-digit.invariant.small, all_read c.args.digits.now c.loop-digit.digit-index c.loop-digit.value (search arith) (search arith) (search arith) c.loop-digit.invariant)
