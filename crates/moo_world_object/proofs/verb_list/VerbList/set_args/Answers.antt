use Rattle.std.proofs.Common.{refl}
use Rattle.moo_world_object.specs.Verbs.{with_args}
use Rattle.moo_world_object.proofs.Letters.{same_letters}
use Rattle.moo_world_object.proofs.VerbNumbers.{same_numbers}
use Rattle.moo_world_object.proofs.Index.{same_index}
use Rattle.moo_world_object.proofs.verb_list.VerbList.set_args.Goals as goal

pub invariant_of-self : goal.invariant_of-self
invariant_of-self c =
    let f = with_args c.args.args in
    let verbs = c.self.inside.verbs.items in
    rw c.change_args.ensures (same_letters c.args.index f c.self.inside.letters.items verbs (λ v. refl) c.self.invariant.0, same_numbers c.args.index f c.self.inside.numbers.items verbs (λ v. refl) c.self.invariant.1, same_index c.self.inside.index c.args.index f verbs (λ v. refl) c.self.invariant.2)
