use Rattle.std.proofs.Common.{refl, inr}
use Rattle.moo_dbtext_read.proofs.Cases.{ok_then, err_then, match_of}
use Rattle.moo_dbtext_read.proofs.Turns.{clean_is_part, piece_refused, loading_on}
use Rattle.moo_dbtext_read.proofs.world_reader.WorldReaderLineSink.take_part.Goals as goal

pub returns : goal.returns
returns c = λ bytes h.
    match_of c.feed.result _ _
    (ok_then c.feed.result _ _ c.feed.ensures.ok (λ well. loading_on c.args.self.now _ bytes c.args.part.now h refl (c.feed.ensures.taken bytes h.read) well (inr c.requires)))
    (err_then c.feed.result _ _ c.feed.ensures.failed (λ e failed. piece_refused c.args.self.now c.feed.new.self bytes c.args.part.now e h (clean_is_part c.args.part.now c.requires) failed (c.feed.ensures.taken bytes h.read)))
