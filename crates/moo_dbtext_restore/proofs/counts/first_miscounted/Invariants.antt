use Rattle.moo_dbtext_restore.specs.Names.{with_objects}
use Rattle.moo_dbtext_restore.proofs.Counting.{IsCounting}
use Rattle.moo_dbtext_restore.proofs.counts.first_miscounted.Given as goal

abbrev pub invariant-loop-visit : goal.invariant-loop-visit
invariant-loop-visit l = IsCounting (with_objects l.objects) l.tour l.visit-index l.definitions l.first
