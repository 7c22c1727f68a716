use Rattle.std.proofs.Common.{◌≡◌, ◌++◌, true, inl, refl, rules}
use Rattle.std.proofs.lemmas.Result.{err_from_is_err_and}
use Rattle.moo_dbtext_read.proofs.Turns.{line_is_part, piece_refused, loading_line, loading_on}
use Rattle.moo_dbtext_read.proofs.world_reader.WorldReaderLineSink.take_line.Goals as goal

pub returns-in_ok-look : goal.returns-in_ok-look
returns-in_ok-look c = λ bytes h. loading_line _ (bytes ++ c.args.line.now) (c.in_ok-feed_line.ensures.taken bytes h.read) c.in_ok-feed_line.ensures.ok c.has_objects-self.ensures c.in_ok-look.ensures.faultless

pub returns-else-not-self : goal.returns-else-not-self
returns-else-not-self c = λ bytes h.
    let checked : c.args.self.now.is_checked ≡ true = search rules in
    loading_on c.args.self.now _ bytes c.args.line.now h refl (c.in_ok-feed_line.ensures.taken bytes h.read) c.in_ok-feed_line.ensures.ok (inl checked)

pub returns-in_err-feed_line : goal.returns-in_err-feed_line
returns-in_err-feed_line c = λ bytes h.
    let p = err_from_is_err_and c.from_residual.result c.from_residual.ensures.1 in
    rw (p.1, p.2) (piece_refused c.args.self.now c.feed_line.new.self bytes c.args.line.now c.in_err-feed_line.field-0.0 h (line_is_part c.args.line.now c.requires) c.in_err-feed_line.ensures.failed (c.in_err-feed_line.ensures.taken bytes h.read))

pub returns-in_err-look : goal.returns-in_err-look
returns-in_err-look c = λ bytes h.
    let p = err_from_is_err_and c.from_residual-in_err-look.result c.from_residual-in_err-look.ensures.1 in
    rw (p.1, p.2) (c.in_err-look.ensures.stops (bytes ++ c.args.line.now) (c.in_ok-feed_line.ensures.taken bytes h.read) c.in_ok-feed_line.ensures.ok)
