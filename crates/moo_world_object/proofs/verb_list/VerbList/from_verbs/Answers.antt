use Rattle.moo_world_object.proofs.verb_list.VerbList.from_verbs.Goals as goal

pub invariant_of-result : goal.invariant_of-result
invariant_of-result c = (rw c.deref.ensures.value at c.letters_of-letters.ensures, rw c.deref-3.ensures.value at c.numbers_of-numbers.ensures, rw c.deref-2.ensures.value at c.from_verbs-index.ensures)
