use Rattle.std.proofs.Common.{subst, sym, ◌∙◌, ◌≡◌, to_z, of_z, w32, FitsSigned, rules, arith}
use Rattle.std.proofs.lemmas.Int.{to_z-of_z}
use Rattle.moo_dbtext_restore.specs.Lists.{IsFollowed}
use Rattle.moo_dbtext_restore.proofs.Chains.{follow_goes_on, follow_stops, follow_ends, follow_breaks, unmarked-set}
use Rattle.moo_dbtext_restore.proofs.lists.list_below.Goals.{then-not-is_end+in_ok-push-2, else-not-is_end}
use Rattle.moo_dbtext_restore.proofs.lists.list_below.Goals as goal

pub returns-then-not-is_fresh-clause-list : goal.returns-then-not-is_fresh-clause-list
returns-then-not-is_fresh-clause-list c =
    subst (IsFollowed c.args.links.now c.args.x) (sym c.in_ok-push.ensures.items)
    (follow_stops c.args.links.now c.loop-y.taken c.args.x c.loop-y.list.items (to_z w32 c.loop-y.at-bits) c.loop-y.invariant c.in-Some.y c.in-Some.ensures c.if-not-is_fresh.ensures)

pub loop-y-smaller : goal.loop-y-smaller
loop-y-smaller c = unmarked-set c.loop-y.taken c.in-Some.y (let low = c.if-not-is_fresh.ensures.0 in let len = c.loop-y.invariant.len in omega (arith, low, len)) c.if-not-is_fresh.ensures.2

pub loop-y-preserved : goal.loop-y-preserved
loop-y-preserved c =
    let fits : FitsSigned w32 c.next_of-at.result = search rules in
    let same : to_z w32 (of_z w32 c.next_of-at.result) ≡ c.next_of-at.result = to_z-of_z w32 c.next_of-at.result fits in
    let next = same ∙ c.next_of-at.ensures in
    rw (next, c.in_ok-push.ensures.items)
    (follow_goes_on c.args.links.now c.loop-y.taken c.args.x c.loop-y.list.items (to_z w32 c.loop-y.at-bits) c.loop-y.invariant c.in-Some.y c.in-Some.ensures c.if-not-is_fresh.ensures.0 c.if-not-is_fresh.ensures.1)

pub returns-clause-list : goal.returns-clause-list
returns-clause-list c = elim c.if-not-is_end.branch [
  | then-not-is_end+in_ok-push-2 w ↦ (
      let l = w.list-is in
      let p = w.in_ok-push-2.ensures.items in
      let ends = c.is_end.ensures in
      let test = w.if-not-is_end.true in
      rw (l, p) (follow_breaks c.args.links.now c.loop-y.taken c.args.x c.loop-y.list.items (to_z w32 c.loop-y.at-bits) c.loop-y.invariant c.in_default.ensures (λ e. let on = ends.1 e in absurd cc)))
  | else-not-is_end w ↦ (
      let l = w.list-is in
      let ends = c.is_end.ensures in
      rw l (follow_ends c.args.links.now c.loop-y.taken c.args.x c.loop-y.list.items (to_z w32 c.loop-y.at-bits) c.loop-y.invariant (ends.0 w.if-not-is_end.false)))
]
