use Rattle.std.proofs.Common.{◌+◌, ◌≤◌, List, ℕ, length, take, sym, subst}
use Rattle.std.proofs.lemmas.Result.{err_from_is_err_and}
use Rattle.moo_dbtext_read.specs.Feeding.{HasFed}
use Rattle.moo_dbtext_read.specs.Loading.{IsRefusedFrom}
use Rattle.moo_checkpoint.proofs.Answered.{front_then, front_tells, place_in}
use Rattle.moo_checkpoint.proofs.recovery.feed_at.Goals as goal

pub returns-in_err-feed-clause-told : goal.returns-in_err-feed-clause-told
returns-in_err-feed-clause-told g c = λ honest fed.
    let text = (g.D.Disk.kind.view c.args.disk.now).main_text in
    let at = c.args.at in
    let count = c.in_ok-count.count in
    let front = front_then text c.read_at.new.buffer at count (c.in_ok-count.ensures.read honest) in
    let p = err_from_is_err_and c.from_residual-in_err-feed.result c.from_residual-in_err-feed.ensures.1 in
    let f = c.in_err-feed.field-0.0 in
    rw p.1 (front_tells text (at + count) f p.0 p.2 (subst (λ (b : List ℕ). IsRefusedFrom b f) front (c.in_err-feed.ensures.refused (take at text) fed)))

pub returns-clause-within : goal.returns-clause-within
returns-clause-within g c = λ honest.
    let text = (g.D.Disk.kind.view c.args.disk.now).main_text in
    subst (λ (n : ℕ). n ≤ length text) (sym c.in_ok-after.ensures.place.0)
    (place_in text c.read_at.new.buffer c.args.at c.in_ok-count.count (c.in_ok-count.ensures.read honest) c.if-count-eq0.false)

pub returns-clause-fed : goal.returns-clause-fed
returns-clause-fed g c = λ honest fed.
    let text = (g.D.Disk.kind.view c.args.disk.now).main_text in
    let at = c.args.at in
    let front = front_then text c.read_at.new.buffer at c.in_ok-count.count (c.in_ok-count.ensures.read honest) in
    rw c.in_ok-after.ensures.place.0 (subst (λ (b : List ℕ). HasFed c.feed.new.self b) front (c.in_ok-feed.ensures.taken (take at text) fed))
