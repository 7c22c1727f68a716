use Rattle.moo_world_object.specs.Verbs.{with_program}
use Rattle.moo_world_object.proofs.Verbs.{set_changed}
use Rattle.moo_world_object.proofs.verb.change_program.Goals as goal

pub returns : goal.returns
returns c =
    set_changed (with_program c.args.program) c.args.verbs.now.items c.args.index c.index_mut.result.now c.set_program.new.self c.requires c.index_mut.ensures.value c.set_program.ensures
