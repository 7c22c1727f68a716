use Rattle.moo_server_core.specs.Calls.{lent}
use Rattle.moo_server_core.proofs.Calling.{chain_handed, chain_of}
use Rattle.moo_server_core.proofs.laws.all_output_is_handed_out.Goals as goal

pub returns : goal.returns
returns g c before after old new calls entries chain =
    chain_handed g.S.Application.layer (lent g.D.Disk.kind g.E.Disk.kind) calls before after old new entries
    (chain_of g.S.Application.layer g.D.Disk.kind g.E.Disk.kind calls before after old new entries chain)
