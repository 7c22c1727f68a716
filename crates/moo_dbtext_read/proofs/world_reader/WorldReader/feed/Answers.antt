use Rattle.std.proofs.Common.{◌≡◌, Err}
use Rattle.std.proofs.lemmas.Result.{err_from_is_err_and}
use Rattle.moo_dbtext_record.proofs.CuttingLaws.{fed_whole}
use Rattle.moo_dbtext_read.specs.Taking.{LoadsOn}
use Rattle.moo_dbtext_read.proofs.Cases.{err_of}
use Rattle.moo_dbtext_read.proofs.Pieces.{taken_failed, taken_going, taken_kept, loads_join, loads_stop, refused_on}
use Rattle.moo_dbtext_read.proofs.world_reader.WorldReader.feed.Goals as goal

pub returns-in_err-self-clause-taken : goal.returns-in_err-self-clause-taken
returns-in_err-self-clause-taken c = λ bytes h.
    let failed : c.args.self.now.outcome ≡ Err c.in_err-self.field-0.0 = c.in_err-self.was in
    rw failed (refused_on bytes c.args.piece.now c.in_err-self.field-0.0 (taken_failed c.args.self.now c.in_err-self.field-0.0 bytes failed h))

pub returns-in_err-self-clause-refused : goal.returns-in_err-self-clause-refused
returns-in_err-self-clause-refused c = λ bytes h.
    let p = err_from_is_err_and c.from_residual.result c.from_residual.ensures.1 in
    rw (p.1, p.2) (refused_on bytes c.args.piece.now c.in_err-self.field-0.0 (taken_failed c.args.self.now c.in_err-self.field-0.0 bytes c.in_err-self.was h))

pub returns-clause-taken : goal.returns-clause-taken
returns-clause-taken c = λ bytes h.
    taken_kept c.feed_lines-self.result c.feed_lines-self.new.sink _ (fed_whole LoadsOn loads_join loads_stop c.args.self.now c.feed_lines-self.new.sink c.args.piece.now c.feed_lines-self.result c.feed_lines-self.ensures bytes (taken_going c.args.self.now bytes c.in_ok-self.was h))

pub returns-clause-refused : goal.returns-clause-refused
returns-clause-refused c = λ bytes h.
    err_of c.feed_lines-self.result _ _ (fed_whole LoadsOn loads_join loads_stop c.args.self.now c.feed_lines-self.new.sink c.args.piece.now c.feed_lines-self.result c.feed_lines-self.ensures bytes (taken_going c.args.self.now bytes c.in_ok-self.was h))
