use Rattle.moo_world_object.proofs.Letters.{less_letters}
use Rattle.moo_world_object.proofs.VerbNumbers.{less_numbers}
use Rattle.moo_world_object.proofs.verb_list.VerbList.remove.Goals as goal

pub invariant_of-self : goal.invariant_of-self
invariant_of-self c =
    let letters = less_letters c.args.index c.self.inside.letters.items c.self.inside.verbs.items c.self.invariant.0 in
    let numbers = less_numbers c.args.index c.self.inside.numbers.items c.self.inside.verbs.items c.self.invariant.1 in
    (rw (c.remove_letter.ensures, c.remove-verb.ensures.items) letters, rw (c.remove_number.ensures, c.remove-verb.ensures.items) numbers, rw c.deref.ensures.value at c.from_verbs.ensures)
