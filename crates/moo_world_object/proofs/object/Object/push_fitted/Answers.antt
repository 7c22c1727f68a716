use Rattle.std.proofs.Common.{◌≡◌, false, eqb, sym, ◌∙◌, ap, subst}
use Rattle.std.specs.List.{list_any}
use Rattle.moo_world_object.specs.Objects.{Object as Contents, fitted_cell}
use Rattle.moo_world_object.proofs.Seeking.{one_more}
use Rattle.moo_world_object.proofs.object.Object.push_fitted.Goals.{in-Some, in-None}
use Rattle.moo_world_object.proofs.object.Object.push_fitted.Goals as goal

pub place_for-place-requires-clause-absent : goal.place_for-place-requires-clause-absent
place_for-place-requires-clause-absent c = λ d is. subst (λ cs. list_any (λ o. eqb o.definer d) cs ≡ false) (sym (c.as_slice-cells.ensures ∙ ap (λ (o : Contents). o.cells) c.self.view_is)) (c.loop-other.invariant.absent d is)

pub absent_definer-absent-requires : goal.absent_definer-absent-requires
absent_definer-absent-requires c = λ d is. subst (λ cs. list_any (λ o. eqb o.definer d) cs ≡ false) (sym (c.as_slice-cells.ensures ∙ ap (λ (o : Contents). o.cells) c.self.view_is)) (c.loop-other.invariant.absent d is)

pub loop-other-preserved : goal.loop-other-preserved
loop-other-preserved c = record {
  fitted = one_more (fitted_cell c.args.self.now) c.args.row.now.items c.loop-other.row.items c.push.new.self.items c.args.above.now c.loop-other.other-index c.other-item.result c.in_ok-fitted_cell.field-0
      c.loop-other.invariant.fitted c.in_ok-push.ensures.items c.in_ok-fitted_cell.ensures c.other-item.is c.loop-other-test.true;
  absent = elim c.match-place.branch [
    | in-Some w ↦ (λ d is. c.loop-other.invariant.absent d (sym w.absent-is ∙ is))
    | in-None w ↦ (λ d is. subst (λ cs. list_any (λ o. eqb o.definer d) cs ≡ false) (c.as_slice-cells.ensures ∙ ap (λ (o : Contents). o.cells) c.self.view_is) (w.absent_definer-absent.ensures d (sym w.absent-is ∙ is)))
  ];
}
