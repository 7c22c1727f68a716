use Rattle.std.proofs.Common.{length}
use Rattle.moo_dbtext_restore.specs.Names.{with_objects}
use Rattle.moo_dbtext_restore.proofs.Checked.{first_in_both}
use Rattle.moo_dbtext_restore.proofs.restoring.first_in_hierarchy.Goals as goal

pub returns : goal.returns
returns c =
    let objects = c.args.objects.now in
    rw c.least_of.ensures
    (first_in_both (with_objects objects) (length objects) c.in_ok-misjoined.misjoined c.in_ok-misnamed.misnamed c.in_ok-misjoined.ensures c.in_ok-misnamed.ensures)
