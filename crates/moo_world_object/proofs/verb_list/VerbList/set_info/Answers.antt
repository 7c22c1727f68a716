use Rattle.std.proofs.Common.{subst}
use Rattle.std.proofs.lemmas.Int.{to_z-of_z}
use Rattle.std.specs.Int.{w32}
use Rattle.moo_world_object.specs.Letters.{IsLetter, IsNumberOf}
use Rattle.moo_world_object.specs.Verbs.{with_verb_info}
use Rattle.moo_world_object.proofs.Letters.{other_letter}
use Rattle.moo_world_object.proofs.VerbNumbers.{other_number}
use Rattle.moo_world_object.proofs.verb_list.VerbList.set_info.Goals as goal

pub invariant_of-self : goal.invariant_of-self
invariant_of-self c =
    let changed = rw (to_z-of_z w32 c.args.owner c.ranges.owner) at c.change_info.ensures in
    let tells = subst (λ names. IsLetter c.letter_of-letter.result names) c.as_bytes.ensures.value c.letter_of-letter.ensures in
    let letters = other_letter c.args.index c.letter_of-letter.result (with_verb_info c.args.names c.args.owner c.args.perms) c.self.inside.letters.items c.self.inside.verbs.items (λ v. tells) c.self.invariant.0 in
    let is = subst (λ names. IsNumberOf c.number_of.result names) c.as_bytes-2.ensures.value c.number_of.ensures in
    let numbers = other_number c.args.index c.number_of.result (with_verb_info c.args.names c.args.owner c.args.perms) c.self.inside.numbers.items c.self.inside.verbs.items (λ v. is) c.self.invariant.1 in
    (rw (c.set_letter.ensures, changed) letters, rw (c.set_number.ensures, changed) numbers, rw c.deref.ensures.value at c.from_verbs.ensures)
