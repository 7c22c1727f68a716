use Rattle.std.proofs.Common.{◌≡◌, ◌∙◌, length, take, refl, sym, ap, subst, arith}
use Rattle.std.proofs.lemmas.List.{length-map, take_all}
use Rattle.std.specs.Option.{option_map}
use Rattle.moo_dbtext_object.specs.Objects.{object_of}
use Rattle.moo_dbtext_restore.specs.First.{IsFirst}
use Rattle.moo_dbtext_restore.specs.Faults.{HasItsCells}
use Rattle.moo_dbtext_restore.specs.Records.{parent_link, parent_links, names_in, cells_in}
use Rattle.moo_dbtext_restore.specs.Names.{with_objects, WhereEnded}
use Rattle.moo_dbtext_restore.specs.declared.tour.Visit.TheVariants.{Enter}
use Rattle.moo_dbtext_restore.proofs.Counting.{object_read, counting_enters_wrong, counting_enters_right, counting_leaves, its_cells_past}
use Rattle.moo_dbtext_restore.proofs.Passing.{IsFoundAmong, found_in_all}
use Rattle.moo_dbtext_restore.proofs.counts.first_miscounted.Goals.{in-Enter+then-definitions-cell_count, in-Enter+else-definitions-cell_count, in-Leave}
use Rattle.moo_dbtext_restore.proofs.counts.first_miscounted.Goals as goal

pub loop-visit-preserved : goal.loop-visit-preserved
loop-visit-preserved c =
    let objects = c.args.objects.now in
    let r = with_objects objects in
    let tour = c.args.tour.now in
    let i = c.loop-visit.visit-index in
    elim c.match-visit.branch [
      | in-Enter+then-definitions-cell_count w ↦ (
          let x = w.in-Enter.x in
          let own = w.name_count.ensures ∙ ap (λ b. length (names_in b)) (sym (object_read objects x)) in
          let cells = w.cell_count.ensures ∙ ap (λ b. length (cells_in b)) (sym (object_read objects x)) in
          rw (w.definitions-is, w.first-is, w.least_of-first.ensures)
          (counting_enters_wrong r tour i c.loop-visit.definitions _ c.loop-visit.first x w.name_count.result
          c.loop-visit-test.true (Enter 0) own c.loop-visit.invariant w.in-Enter.is w.cell_count.result cells refl (search arith) w.if-definitions-cell_count.true))
      | in-Enter+else-definitions-cell_count w ↦ (
          let x = w.in-Enter.x in
          let own = w.name_count.ensures ∙ ap (λ b. length (names_in b)) (sym (object_read objects x)) in
          let cells = w.cell_count.ensures ∙ ap (λ b. length (cells_in b)) (sym (object_read objects x)) in
          rw (w.definitions-is, w.first-is)
          (counting_enters_right r tour i c.loop-visit.definitions _ c.loop-visit.first x w.name_count.result
          c.loop-visit-test.true (Enter 0) own c.loop-visit.invariant w.in-Enter.is w.cell_count.result cells refl (search arith) w.if-definitions-cell_count.false))
      | in-Leave w ↦ (
          let x = w.in-Leave.x in
          let own = w.name_count-in-Leave.ensures ∙ ap (λ b. length (names_in b)) (sym (object_read objects x)) in
          rw (w.definitions-is, w.first-is)
          (counting_leaves r tour i c.loop-visit.definitions _ c.loop-visit.first x w.name_count-in-Leave.result
          c.loop-visit-test.true (Enter 0) own c.loop-visit.invariant w.in-Leave.is refl))
    ]

pub returns : goal.returns
returns c =
    let r = with_objects c.args.objects.now in
    let tour = c.args.tour.now in
    let many = length-map c.args.objects.now (option_map object_of) in
    let links = length-map r.objects (option_map parent_link) ∙ many in
    let i = c.loop-visit.visit-index in
    let whole : take i tour ≡ tour = take_all i tour (let end = c.loop-visit-test.false in omega (arith, end)) in
    subst (λ n. IsFirst (WhereEnded r (HasItsCells r)) n c.loop-visit.first) links
    (found_in_all (parent_links r) (HasItsCells r) tour c.loop-visit.first c.requires (λ x past. its_cells_past r x (omega (arith, past, links, many)))
    (subst (λ l. IsFoundAmong (parent_links r) (HasItsCells r) l c.loop-visit.first) whole c.loop-visit.invariant.found))
