use Rattle.moo_command.proofs.Going.{listing_begins, word_listed, all_listed}
use Rattle.moo_command.proofs.reading.read_words.Goals as goal

pub loop-at-init : goal.loop-at-init
loop-at-init c =
    rw c.new-words.ensures.items (
    listing_begins c.args.line.now c.args.«from» c.skip_blanks-at.result c.skip_blanks-at.ensures.rest c.skip_blanks-at.ensures.inside
    )

pub loop-at-preserved : goal.loop-at-preserved
loop-at-preserved c =
    rw c.in_ok-push.ensures.items (
    word_listed c.args.line.now c.args.«from» c.loop-at.at c.in_ok-word.following c.skip_blanks-at-in-loop-at.result c.loop-at.words.items c.in_ok-word.word
    c.loop-at.invariant c.loop-at-test.true c.in_ok-word.ensures.word c.skip_blanks-at-in-loop-at.ensures.rest c.skip_blanks-at-in-loop-at.ensures.inside
    )

pub returns : goal.returns
returns c = all_listed c.args.line.now c.args.«from» c.loop-at.at c.loop-at.words.items c.loop-at.invariant c.loop-at-test.false
