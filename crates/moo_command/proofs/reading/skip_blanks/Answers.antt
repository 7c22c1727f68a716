use Rattle.std.proofs.Common.{arith, refl}
use Rattle.moo_command.proofs.Going.{blank_passed, no_blank_here, blanks_alone}
use Rattle.moo_command.proofs.reading.skip_blanks.Goals as goal

pub loop-at-init : goal.loop-at-init
loop-at-init c = record { begins = omega arith; inside = c.requires; rest = refl }

pub loop-at-preserved : goal.loop-at-preserved
loop-at-preserved c = record {
  begins = omega arith;
  inside = omega arith;
  rest = blank_passed c.args.line.now c.args.«from» c.loop-at.at c.loop-at.invariant.rest c.loop-at-test.true c.if-line-at-eq-BLANK.true;
}

pub returns-else-line-at-eq-BLANK-clause-rest : goal.returns-else-line-at-eq-BLANK-clause-rest
returns-else-line-at-eq-BLANK-clause-rest c =
    no_blank_here c.args.line.now c.args.«from» c.loop-at.at c.loop-at.invariant.rest c.loop-at-test.true c.if-line-at-eq-BLANK.false

pub returns-after-loop-at-clause-rest : goal.returns-after-loop-at-clause-rest
returns-after-loop-at-clause-rest c = blanks_alone c.args.line.now c.args.«from» c.loop-at.at c.loop-at.invariant.rest c.loop-at-test.false
