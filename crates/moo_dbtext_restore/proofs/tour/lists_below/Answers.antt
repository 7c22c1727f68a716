use Rattle.std.proofs.Common.{sym, subst, ◌+◌, arith}
use Rattle.moo_dbtext_restore.proofs.Touring.{AreListedTo, listed_more, all_listed}
use Rattle.moo_dbtext_restore.proofs.tour.lists_below.Goals as goal

pub loop-y-preserved : goal.loop-y-preserved
loop-y-preserved c =
    let links = c.args.links.now in
    subst (λ n. AreListedTo links n (c.loop-y.y + 1)) (sym c.in_ok-put_below.ensures)
    (listed_more links c.loop-y.nodes.items c.loop-y.y c.loop-y.invariant c.above_in.result (sym c.above_in.ensures.value)
    (λ up e. let low = c.above_in.ensures.within up e in let many = c.loop-y.invariant.many in omega (arith, low, many)))

pub returns-clause-lists : goal.returns-clause-lists
returns-clause-lists c = all_listed c.args.links.now c.loop-y.nodes.items c.loop-y.y c.loop-y.invariant (let end = c.loop-y-test.false in omega (arith, end))
