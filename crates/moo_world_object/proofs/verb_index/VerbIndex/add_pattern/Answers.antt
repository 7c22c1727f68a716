use Rattle.std.proofs.Common.{◌∙◌, sym}
use Rattle.moo_world_object.proofs.Index.{star_test}
use Rattle.moo_world_object.proofs.verb_index.VerbIndex.add_pattern.Goals as goal

pub returns-clause-covers : goal.returns-clause-covers
returns-clause-covers c = c.in_ok-add_prefixes.ensures.covers (sym (star_test c.args.pattern.now c.ends_in_star.result c.ends_in_star.ensures) ∙ c.if-ends_in_star.false)
