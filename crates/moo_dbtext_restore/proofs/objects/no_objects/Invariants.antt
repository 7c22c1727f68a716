use Rattle.std.proofs.Common.{◌≡◌, length}
use Rattle.moo_dbtext_restore.proofs.objects.no_objects.Given as goal

abbrev pub invariant-loop : goal.invariant-loop
invariant-loop l = length l.made.items ≡ l.counter
