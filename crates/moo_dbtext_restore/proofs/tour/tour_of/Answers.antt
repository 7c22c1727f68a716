use Rattle.std.proofs.Common.{◌++◌, ◌∷◌, [], sym, ap, subst, ◌∙◌, length, map, arith}
use Rattle.std.proofs.lemmas.List.{get_or_read, length-append, length-map}
use Rattle.moo_world_tree.specs.Forest.{Links, alone}
use Rattle.moo_dbtext_restore.specs.declared.tour.Visit.TheVariants.{Enter, Leave}
use Rattle.moo_dbtext_restore.specs.Links.{AreBelow}
use Rattle.moo_dbtext_restore.proofs.Touring.{IsUnderWay, walk_skips, walk_goes, walk_enters, walk_done, unmet_set}
use Rattle.moo_dbtext_restore.proofs.tour.tour_of.Goals.{in-Enter+else-not-mark+in_ok-add_visits, in_default-visit}
use Rattle.moo_dbtext_restore.proofs.tour.tour_of.Goals as goal

pub loop-visit-preserved-then-not-mark : goal.loop-visit-preserved-then-not-mark
loop-visit-preserved-then-not-mark c =
    let links = c.args.links.now in
    let rest = c.pop.new.self.items in
    let taken = c.in-Some.ensures.items ∙ ap (λ v. rest ++ v ∷ []) c.in-Enter.is in
    rw c.if-not-mark.ensures.1
    (walk_skips links c.loop-visit.seen.items rest c.loop-visit.tour.items c.in-Enter.x
    (subst (λ l. IsUnderWay links c.loop-visit.seen.items l c.loop-visit.tour.items) taken c.loop-visit.invariant) c.if-not-mark.ensures.0)

pub loop-visit-preserved : goal.loop-visit-preserved
loop-visit-preserved c =
    let links = c.args.links.now in
    let seen = c.loop-visit.seen.items in
    let tour = c.loop-visit.tour.items in
    let rest = c.pop.new.self.items in
    rw c.in_ok-push.ensures.items (elim c.match-visit.branch [
      | in-Enter+else-not-mark+in_ok-add_visits w ↦ (
          let x = w.in-Enter.x in
          let taken = c.in-Some.ensures.items ∙ ap (λ v. rest ++ v ∷ []) w.in-Enter.is in
          let e = w.if-not-mark.ensures in
          let below = w.below.ensures ∙ ap (λ (n : Links). n.below) (get_or_read c.in_ok-nodes.nodes.items x w.index.result.now (let low = e.0 in let many = c.loop-visit.invariant.many in let len = c.in_ok-nodes.ensures.len in omega (arith, low, many, len)) w.index.ensures alone) in
          rw (w.seen-is, w.todo-is, w.visit-is, e.2, w.in_ok-add_visits.ensures)
          (walk_enters links seen rest tour x w.below.result
          (subst (λ l. IsUnderWay links seen l tour) taken c.loop-visit.invariant) e.0 e.1
          (subst (AreBelow links x) (sym below) (c.in_ok-nodes.ensures.lists x))))
      | in_default-visit w ↦ (
          rw (w.seen-is, w.todo-is, w.visit-is)
          (walk_goes links seen rest tour c.in-Some.visit w.in_default-visit.not-Enter
          (subst (λ l. IsUnderWay links seen l tour) c.in-Some.ensures.items c.loop-visit.invariant)))
    ])

pub loop-visit-smaller : goal.loop-visit-smaller
loop-visit-smaller c =
    let rest = c.pop.new.self.items in
    elim c.match-visit.branch [
      | in-Enter+else-not-mark+in_ok-add_visits w ↦ (
          let x = w.in-Enter.x in
          let taken = ap length c.in-Some.ensures.items ∙ length-append rest (c.in-Some.visit ∷ []) in
          let e = w.if-not-mark.ensures in
          let below = w.below.ensures ∙ ap (λ (n : Links). n.below) (get_or_read c.in_ok-nodes.nodes.items x w.index.result.now (let low = e.0 in let many = c.loop-visit.invariant.many in let len = c.in_ok-nodes.ensures.len in omega (arith, low, many, len)) w.index.ensures alone) in
          let same = ap length below in
          let less = unmet_set c.in_ok-nodes.nodes.items c.loop-visit.seen.items x e.0 e.1 in
          let all = length-append (rest ++ Leave x ∷ []) (map Enter w.below.result) in
          let front = length-append rest (Leave x ∷ []) in
          let back = length-map w.below.result Enter in
          rw (w.seen-is, w.todo-is, e.2, w.in_ok-add_visits.ensures) (omega (arith, taken, same, less, all, front, back)))
      | in_default-visit w ↦ (
          let taken = ap length c.in-Some.ensures.items ∙ length-append rest (c.in-Some.visit ∷ []) in
          rw (w.seen-is, w.todo-is) (omega (arith, taken)))
    ]

pub returns : goal.returns
returns c = walk_done c.args.links.now c.loop-visit.seen.items c.loop-visit.todo.items c.loop-visit.tour.items
    (let none = c.in_default.ensures.cases.0 in omega (arith, none, c.loop-visit.todo.ok.0)) c.loop-visit.invariant
