use Rattle.moo_dbtext_restore.specs.Names.{with_objects}
use Rattle.moo_dbtext_restore.proofs.Naming.{IsNaming}
use Rattle.moo_dbtext_restore.proofs.names.first_misnamed.Given as goal

abbrev pub invariant-loop-visit : goal.invariant-loop-visit
invariant-loop-visit l = IsNaming (with_objects l.fn.objects) l.tour l.visit-index l.met l.fresh.items l.first
