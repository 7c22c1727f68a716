use Rattle.std.proofs.Common.{sym, ◌∙◌}
use Rattle.moo_command.proofs.Going.{quote_read, plain_read, escape_read, last_escape_read, word_at_end, word_at_blank}
use Rattle.moo_command.proofs.reading.read_word.Goals.{then-loop-following-test+else-goes_on, else-loop-following-test}
use Rattle.moo_command.proofs.reading.read_word.Goals as goal

pub loop-following-preserved-then-byte-eq-QUOTE : goal.loop-following-preserved-then-byte-eq-QUOTE
loop-following-preserved-then-byte-eq-QUOTE c =
    quote_read c.args.line.now c.args.at c.loop-following.following c.loop-following.grouped c.loop-following.word.items c.loop-following.invariant c.loop-following-test.true c.if-byte-eq-QUOTE.true

pub loop-following-preserved-in-Continue-1 : goal.loop-following-preserved-in-Continue-1
loop-following-preserved-in-Continue-1 c =
    rw c.in_ok-push.ensures.items (
    plain_read c.args.line.now c.args.at c.loop-following.following c.loop-following.grouped c.loop-following.word.items c.requires.string.text c.loop-following.invariant
    c.loop-following-test.true (sym c.goes_on.ensures ∙ c.if-goes_on.true) c.if-byte-eq-QUOTE.false c.if-byte-ne-BACKSLASH.true
    )

pub loop-following-preserved-then-following-line : goal.loop-following-preserved-then-following-line
loop-following-preserved-then-following-line c =
    rw c.in_ok-push-2.ensures.items (
    escape_read c.args.line.now c.args.at c.loop-following.following c.loop-following.grouped c.loop-following.word.items c.requires.string.text c.loop-following.invariant
    c.loop-following-test.true c.if-byte-ne-BACKSLASH.false c.if-following-line.true
    )

pub loop-following-preserved : goal.loop-following-preserved
loop-following-preserved c =
    last_escape_read c.args.line.now c.args.at c.loop-following.following c.loop-following.grouped c.loop-following.word.items c.loop-following.invariant c.loop-following-test.true
    c.if-byte-ne-BACKSLASH.false c.if-following-line.false

pub returns-clause-word : goal.returns-clause-word
returns-clause-word c =
    rw c.in_ok-word.ensures (
    elim c.loop-following-test.branch [
      | then-loop-following-test+else-goes_on w ↦
          word_at_blank c.args.line.now c.args.at c.loop-following.following c.loop-following.grouped c.loop-following.word.items c.loop-following.invariant
          w.loop-following-test.true (sym w.goes_on.ensures ∙ w.if-goes_on.false)
      | else-loop-following-test w ↦
          word_at_end c.args.line.now c.args.at c.loop-following.following c.loop-following.grouped c.loop-following.word.items c.loop-following.invariant
          w.loop-following-test.false
    ]
    )
