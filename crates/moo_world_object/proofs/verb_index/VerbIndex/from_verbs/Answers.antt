use Rattle.moo_world_object.proofs.verb_index.VerbIndex.from_verbs.Goals as goal

pub returns-in-Err : goal.returns-in-Err
returns-in-Err c = c.full.ensures c.args.verbs.now
