use Rattle.std.proofs.Common.{◌≡◌, length}
use Rattle.moo_world_object.specs.Letters.{AreLetters}
use Rattle.moo_world_object.proofs.verb_list.all_letters.Given as goal

abbrev pub invariant-loop-i : goal.invariant-loop-i
invariant-loop-i l = record {
  many : length l.letters.items ≡ l.i;
  tell : AreLetters l.letters.items l.verbs;
}
