use Rattle.moo_dbtext_restore.specs.Plain.{programs_by_object}
use Rattle.moo_dbtext_restore.proofs.Keying.{IsKeying}
use Rattle.moo_dbtext_restore.proofs.objects.make_objects.Given as goal

abbrev pub invariant-loop-visit : goal.invariant-loop-visit
invariant-loop-visit l = IsKeying l.objects (programs_by_object l.programs) l.tour l.visit-index l.way.items l.made.items
