use Rattle.std.proofs.Common.{sym, ◌∙◌}
use Rattle.moo_syntax.proofs.Whole.{bad_at, words_left}
use Rattle.moo_syntax.proofs.Passing.{sound_up_to}
use Rattle.moo_syntax.proofs.reader.unexpected.Goals as goal

pub returns-then-is_at_bad : goal.returns-then-is_at_bad
returns-then-is_at_bad c = λ names. rw c.line_at-line.ensures (bad_at c.args.lines.now c.args.spots.now c.args.at c.requires.reading (sym c.is_at_bad.ensures ∙ c.if-is_at_bad.true))

pub returns : goal.returns
returns c =
    let spots = c.args.spots.now in
    let stuck = c.requires.stuck in
    λ names. record {
      spots = spots;
      reading = c.requires.reading;
      at = c.args.at;
      line = c.line_at-line.ensures;
      begins = stuck.begins;
      none = stuck.none;
      sound = sound_up_to c.args.at stuck.passes (words_left c.args.at spots) stuck.none.0 (sym c.is_at_bad.ensures ∙ c.if-is_at_bad.false);
    }
