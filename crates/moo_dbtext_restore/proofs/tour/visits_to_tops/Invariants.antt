use Rattle.std.proofs.Common.{◌≡◌, ◌<◌, ℕ, [], None, reverse}
use Rattle.moo_dbtext_restore.specs.Links.{above_in}
use Rattle.moo_dbtext_restore.specs.Tours.{Awaits, times_entered}
use Rattle.moo_dbtext_restore.proofs.tour.visits_to_tops.Given as goal

abbrev pub invariant-loop-y : goal.invariant-loop-y
invariant-loop-y l = record {
  lead : Awaits l.links [] (reverse l.todo.items);
  whole : (z : ℕ) → z < l.y → above_in l.links z ≡ None → 0 < times_entered z l.todo.items;
}
