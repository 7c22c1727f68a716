use Rattle.std.proofs.Common.{◌∙◌}
use Rattle.moo_world_object.proofs.Index.{both_list}
use Rattle.moo_world_object.proofs.verb_index.VerbIndex.add_to_all.Goals as goal

pub returns-clause-grows : goal.returns-clause-grows
returns-clause-grows c =
    let one = c.add.ensures.grows in
    let two = c.add-2.ensures.grows in
    (two.0 ∙ one.0, two.1 ∙ one.1, λ j i holds. two.2 j i (one.2 j i holds), λ first hash passed. two.3 first hash (one.3 first hash (c.full-self.ensures first hash)))

pub returns-clause-all : goal.returns-clause-all
returns-clause-all c =
    let one = c.add.ensures.grows in
    let two = c.add-2.ensures.grows in
    both_list c.add-2.new.self c.args.place (λ first hash. two.3 first hash (one.3 first hash (c.full-self.ensures first hash))) (two.2 0 c.args.place c.add.ensures.holds) c.add-2.ensures.holds
