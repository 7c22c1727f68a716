use Rattle.std.proofs.Common.{rules, arith, sym, subst}
use Rattle.std.proofs.lemmas.Grind.{common_steps}
use Rattle.moo_value.specs.Tree.{IsText}
use Rattle.moo_value.proofs.Quoting.{quote_pushed}
use Rattle.moo_value.proofs.text.write_quoted.Goals as goal

pub returns-in_err-write_escaped-clause-kept : goal.returns-in_err-write_escaped-clause-kept
returns-in_err-write_escaped-clause-kept c =
    λ h b. c.write_escaped.ensures.kept (c.loop-byte.invariant.kept (quote_pushed _ c.in_ok-push.ensures.items h) b) (b c.loop-byte.byte-index _ c.loop-byte-test.true)

pub loop-byte-preserved : goal.loop-byte-preserved
loop-byte-preserved c = record {
  written = first_of (search rules, grind (arith, common_steps));
  kept = λ h b. c.write_escaped.ensures.kept (c.loop-byte.invariant.kept h b) (b c.loop-byte.byte-index _ c.loop-byte-test.true);
}

pub returns-in_err-push-2-clause-kept : goal.returns-in_err-push-2-clause-kept
returns-in_err-push-2-clause-kept c =
    λ h b. subst IsText (sym c.in_err-push-2.ensures.items) (c.loop-byte.invariant.kept (quote_pushed _ c.in_ok-push.ensures.items h) b)

pub returns-clause-kept : goal.returns-clause-kept
returns-clause-kept c =
    λ h b. quote_pushed _ c.in_ok-push-2.ensures.items (c.loop-byte.invariant.kept (quote_pushed _ c.in_ok-push.ensures.items h) b)
