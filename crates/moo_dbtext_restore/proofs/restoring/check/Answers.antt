use Rattle.std.proofs.Common.{None, length, subst}
use Rattle.moo_dbtext_restore.specs.First.{IsFirst}
use Rattle.moo_dbtext_restore.specs.Faults.{IsWellPlaced, HasItsCells}
use Rattle.moo_dbtext_restore.specs.Names.{with_objects, WhereEnded}
use Rattle.moo_dbtext_restore.proofs.Checked.{not_some, count_fault, first_of_counts}
use Rattle.moo_dbtext_restore.proofs.restoring.check.Goals as goal

pub returns-in-Some-first_miscounted-clause-fault : goal.returns-in-Some-first_miscounted-clause-fault
returns-in-Some-first_miscounted-clause-fault c =
    let objects = c.args.objects.now in
    let r = with_objects objects in
    count_fault objects c.in-Some-first_miscounted.x
    (subst (IsFirst (IsWellPlaced r) (length objects)) (not_some c.in_ok-x.field-0 c.in_default.not-Some) c.in_ok-x.ensures)
    (subst (IsFirst (WhereEnded r (HasItsCells r)) (length objects)) c.in-Some-first_miscounted.is c.first_miscounted.ensures)

pub returns-in-None-clause-counted : goal.returns-in-None-clause-counted
returns-in-None-clause-counted c =
    let objects = c.args.objects.now in
    let r = with_objects objects in
    first_of_counts r (length objects) None
    (subst (IsFirst (IsWellPlaced r) (length objects)) (not_some c.in_ok-x.field-0 c.in_default.not-Some) c.in_ok-x.ensures)
    (subst (IsFirst (WhereEnded r (HasItsCells r)) (length objects)) c.in-None.is c.first_miscounted.ensures)
