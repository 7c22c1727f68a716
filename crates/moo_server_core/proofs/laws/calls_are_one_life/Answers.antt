use Rattle.moo_server_core.specs.Calls.{lent}
use Rattle.moo_server_core.proofs.Calling.{chain_lived, chain_of}
use Rattle.moo_server_core.proofs.laws.calls_are_one_life.Goals as goal

pub returns : goal.returns
returns g c before after old new calls entries chain =
    chain_lived g.S.Application.layer (lent g.D.Disk.kind g.E.Disk.kind) calls before after old new entries
    (chain_of g.S.Application.layer g.D.Disk.kind g.E.Disk.kind calls before after old new entries chain)
