use Rattle.std.proofs.Common.{◌≡◌, [], ◌∙◌, take, ap, subst, arith, get_or}
use Rattle.std.proofs.lemmas.List.{length-map, take_all}
use Rattle.std.specs.Option.{option_map}
use Rattle.moo_dbtext_object.specs.Objects.{object_of}
use Rattle.moo_dbtext_restore.specs.First.{IsFirst}
use Rattle.moo_dbtext_restore.specs.Faults.{HasOwnNames}
use Rattle.moo_dbtext_restore.specs.Records.{parent_link, parent_links}
use Rattle.moo_dbtext_restore.specs.Names.{with_objects, WhereEnded, rows_of}
use Rattle.moo_dbtext_restore.specs.declared.tour.Visit.TheVariants.{Enter}
use Rattle.moo_dbtext_restore.proofs.Naming.{row_read, naming_enters_wrong, naming_enters_right, naming_leaves, own_names_past}
use Rattle.moo_dbtext_restore.proofs.Passing.{IsFoundAmong, found_in_all}
use Rattle.moo_dbtext_restore.proofs.names.first_misnamed.Goals.{in-Enter+in_ok-meet_all-in-Enter+then-branch, in-Enter+in_ok-meet_all-in-Enter+else-branch, in-Leave}
use Rattle.moo_dbtext_restore.proofs.names.first_misnamed.Goals as goal

pub loop-visit-preserved : goal.loop-visit-preserved
loop-visit-preserved c =
    let r = with_objects c.args.objects.now in
    let tour = c.args.tour.now in
    let i = c.loop-visit.visit-index in
    let rows = c.in_ok-names.ensures in
    elim c.match-visit.branch [
      | in-Enter+in_ok-meet_all-in-Enter+then-branch w ↦ (
          let x = w.in-Enter.x in
          let row = w.row_at.ensures ∙ (ap (λ l. get_or (rows_of l) x []) w.deref.ensures.value ∙ (ap (λ l. get_or l x []) rows ∙ row_read r.objects x)) in
          rw (w.met-is, w.fresh-is, w.first-is, w.least_of-first.ensures)
          (naming_enters_wrong r tour i c.loop-visit.met w.meet_all.new.met c.loop-visit.fresh.items w.meet_all.new.fresh.items c.loop-visit.first x w.row_at.result.now
          c.loop-visit-test.true (Enter 0) w.in-Enter.is row w.in_ok-meet_all-in-Enter.field-0 w.in_ok-meet_all-in-Enter.ensures c.loop-visit.invariant w.if-branch.true))
      | in-Enter+in_ok-meet_all-in-Enter+else-branch w ↦ (
          let x = w.in-Enter.x in
          let row = w.row_at.ensures ∙ (ap (λ l. get_or (rows_of l) x []) w.deref.ensures.value ∙ (ap (λ l. get_or l x []) rows ∙ row_read r.objects x)) in
          rw (w.met-is, w.fresh-is, w.first-is)
          (naming_enters_right r tour i c.loop-visit.met w.meet_all.new.met c.loop-visit.fresh.items w.meet_all.new.fresh.items c.loop-visit.first x w.row_at.result.now
          c.loop-visit-test.true (Enter 0) w.in-Enter.is row w.in_ok-meet_all-in-Enter.field-0 w.in_ok-meet_all-in-Enter.ensures c.loop-visit.invariant w.if-branch.false))
      | in-Leave w ↦ (
          let x = w.in-Leave.x in
          let row = w.row_at-in-Leave.ensures ∙ (ap (λ l. get_or (rows_of l) x []) w.deref-in-Leave.ensures.value ∙ (ap (λ l. get_or l x []) rows ∙ row_read r.objects x)) in
          rw (w.met-is, w.fresh-is, w.first-is)
          (naming_leaves r tour i c.loop-visit.met w.forget_all.new.met c.loop-visit.fresh.items w.forget_all.new.fresh.items c.loop-visit.first x w.row_at-in-Leave.result.now
          c.loop-visit-test.true (Enter 0) w.in-Leave.is row w.forget_all.ensures c.loop-visit.invariant))
    ]

pub returns : goal.returns
returns c =
    let r = with_objects c.args.objects.now in
    let tour = c.args.tour.now in
    let many = length-map c.args.objects.now (option_map object_of) in
    let links = length-map r.objects (option_map parent_link) ∙ many in
    let i = c.loop-visit.visit-index in
    let whole : take i tour ≡ tour = take_all i tour (let end = c.loop-visit-test.false in omega (arith, end)) in
    subst (λ n. IsFirst (WhereEnded r (HasOwnNames r)) n c.loop-visit.first) links
    (found_in_all (parent_links r) (HasOwnNames r) tour c.loop-visit.first c.requires (λ x past. own_names_past r x (omega (arith, past, links, many)))
    (subst (λ l. IsFoundAmong (parent_links r) (HasOwnNames r) l c.loop-visit.first) whole c.loop-visit.invariant.found))
