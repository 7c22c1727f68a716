use Rattle.moo_server_core.specs.Calls.{One, lent}
use Rattle.moo_server_core.proofs.Calling.{kept, chain_of, only_now}
use Rattle.moo_server_core.proofs.laws.a_start_reads_a_prefix.Goals as goal

pub returns : goal.returns
returns g c start server end first opened disk last before after entries later saved moment h opening spells chain chain' =
    kept g.S.Application.layer (lent g.D.Disk.kind g.E.Disk.kind) start server end (g.D.Disk.kind.view first) (One opened) disk last before after entries later saved
    opening.no_checkpoint (opening.main h) (opening.honest_still h) spells
    (only_now g.D.Disk.kind g.E.Disk.kind g.met.D.Disk.only_now g.met.E.Disk.only_now disk)
    (chain_of g.S.Application.layer g.D.Disk.kind g.E.Disk.kind before start server (One opened) disk entries chain)
    (chain_of g.S.Application.layer g.D.Disk.kind g.E.Disk.kind after server end disk last later chain')
