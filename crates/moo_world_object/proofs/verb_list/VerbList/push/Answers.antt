use Rattle.std.proofs.Common.{◌≡◌, ◌∙◌, arith, length, subst}
use Rattle.moo_world_object.specs.Letters.{IsLetter, IsNumberOf}
use Rattle.moo_world_object.proofs.Letters.{pushed}
use Rattle.moo_world_object.proofs.VerbNumbers.{pushed as number_pushed}
use Rattle.moo_world_object.proofs.verb_list.VerbList.push.Goals as goal

pub invariant_of-self-2 : goal.invariant_of-self-2
invariant_of-self-2 c =
    let tells = subst (λ names. IsLetter c.letter_of-letter.result names) c.as_bytes.ensures.value c.letter_of-letter.ensures in
    let same : c.len-many.result ≡ length c.self.inside.verbs.items = omega (arith, c.len-many.ensures, c.self.inside.verbs.ok.0) in
    let letters = pushed c.self.inside.letters.items c.push_letter.new.letters.items c.self.inside.verbs.items c.len-many.result c.letter_of-letter.result c.args.verb c.self.invariant.0 same tells c.push_letter.ensures in
    let is = subst (λ names. IsNumberOf c.number_of-number.result names) c.as_bytes-2.ensures.value c.number_of-number.ensures in
    let numbers = number_pushed c.self.inside.numbers.items c.push_number.new.numbers.items c.self.inside.verbs.items c.len-many.result c.number_of-number.result c.args.verb c.self.invariant.1 same is c.push_number.ensures in
    let now = c.deref.ensures.value in
    (rw c.in_ok-push.ensures.items letters, rw c.in_ok-push.ensures.items numbers, rw now at (c.add_last.ensures c.self.inside.verbs.items c.args.verb (now ∙ c.in_ok-push.ensures.items) c.self.invariant.2))

pub invariant_of-self : goal.invariant_of-self
invariant_of-self c = rw c.in_err-push.ensures.items c.self.invariant
