use Rattle.moo_value.specs.View.{tree}
use Rattle.moo_world_object.specs.Cells.{valued}
use Rattle.moo_world_object.proofs.Verbs.{set_changed}
use Rattle.moo_world_object.proofs.row.put_value.Goals as goal

pub returns : goal.returns
returns c =
    set_changed (valued (tree c.args.value)) c.args.cells.now.items c.args.place c.index_mut.result.now c.set_value.new.self c.requires c.index_mut.ensures.value c.set_value.ensures
