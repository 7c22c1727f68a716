use Rattle.moo_value.specs.Compare.{folded}
use Rattle.moo_world.proofs.Spelled.{spelled_anew, rename_allowed}
use Rattle.moo_world.proofs.laws.a_renamed_property_reads_as_before.Goals as goal

pub returns : goal.returns
returns c =
    let w = c.args.world.now in
    let name = folded c.args.name.now in
    let other = c.args.new_name.now in
    spelled_anew w c.args.x name other c.is_well_formed.ensures c.requires.object
    (record { free = rename_allowed w c.args.x name (folded other) c.requires.allowed; string = c.as_bytes-bytes.ensures.string })
