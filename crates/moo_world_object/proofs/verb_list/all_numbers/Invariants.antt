use Rattle.std.proofs.Common.{◌≡◌, length}
use Rattle.moo_world_object.specs.Letters.{AreNumbers}
use Rattle.moo_world_object.proofs.verb_list.all_numbers.Given as goal

abbrev pub invariant-loop-i : goal.invariant-loop-i
invariant-loop-i l = record {
  many : length l.numbers.items ≡ l.i;
  known : AreNumbers l.numbers.items l.verbs;
}
