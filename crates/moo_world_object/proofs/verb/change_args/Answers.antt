use Rattle.moo_world_object.specs.Verbs.{with_args}
use Rattle.moo_world_object.proofs.Verbs.{set_changed}
use Rattle.moo_world_object.proofs.verb.change_args.Goals as goal

pub returns : goal.returns
returns c =
    set_changed (with_args c.args.args) c.args.verbs.now.items c.args.index c.index_mut.result.now c.set_args.new.self c.requires c.index_mut.ensures.value c.set_args.ensures
