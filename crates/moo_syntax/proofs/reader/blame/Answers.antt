use Rattle.moo_syntax.proofs.Exceeding.{too_deep}
use Rattle.moo_syntax.proofs.reader.blame.Goals as goal

pub returns-in-BadTarget : goal.returns-in-BadTarget
returns-in-BadTarget c =
    let stopped = rw c.in-BadTarget.is at c.requires.stopped in
    record {
      spots = c.args.spots.now;
      reading = c.requires.reading;
      at = c.args.stop.at;
      line = c.line_at-line.ensures;
      assigned = stopped.assigned;
      none = stopped.none;
      begins = stopped.begins;
    }

pub returns-in-BadLoopName : goal.returns-in-BadLoopName
returns-in-BadLoopName c =
    let stopped = rw c.in-BadLoopName.is at c.requires.stopped in
    record {
      spots = c.args.spots.now;
      reading = c.requires.reading;
      at = c.args.stop.at;
      line = c.line_at-line.ensures;
      jumps = stopped.jumps;
      none = stopped.none;
      begins = stopped.begins;
    }

pub returns-in-TooDeep : goal.returns-in-TooDeep
returns-in-TooDeep c = too_deep c.args.names c.args.lines.now c.args.spots.now c.args.stop.at _ c.requires.reading (rw c.in-TooDeep.is at c.requires.stopped) c.line_at-line.ensures

pub returns-in-Unexpected : goal.returns-in-Unexpected
returns-in-Unexpected c = c.unexpected.ensures c.args.names
