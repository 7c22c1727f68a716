use Rattle.std.proofs.Common.{◌++◌}
use Rattle.moo_cli_check.proofs.Answered.{piece_ends}
use Rattle.moo_cli_check.proofs.readers.Readers.feed.Goals as goal

pub returns-in-Err-feed-clause-stops : goal.returns-in-Err-feed-clause-stops
returns-in-Err-feed-clause-stops c = λ bytes h.
    piece_ends c.check_piece.new.check (bytes ++ c.args.piece.now) c.feed.new.self.faults.items c.in-Err-feed.fault (c.in_default.ensures.fed bytes h.check) (c.in_default.ensures.goes bytes h.check) (c.in-Err-feed.ensures.stops bytes h.survey)

pub returns-clause-goes : goal.returns-clause-goes
returns-clause-goes c = λ bytes h. record { check = c.in_default.ensures.fed bytes h.check; survey = c.in_default-feed.ensures.goes bytes h.survey }
