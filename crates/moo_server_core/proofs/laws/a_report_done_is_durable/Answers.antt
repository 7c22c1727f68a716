use Rattle.std.proofs.Common.{[], ◌∷◌}
use Rattle.moo_server_core.specs.Calls.{One, lent}
use Rattle.moo_server_core.proofs.Calling.{done_alone, chain_of}
use Rattle.moo_server_core.proofs.laws.a_report_done_is_durable.Goals as goal

pub returns : goal.returns
returns g c start server end first opened disk last before call entries later saved moment h opening chain chain' alive entry single is_done f left =
    done_alone g.S.Application.layer (lent g.D.Disk.kind g.E.Disk.kind) start server end (g.D.Disk.kind.view first) (One opened) disk last before call entries later
    opening.no_checkpoint (opening.main h) (opening.honest_still h)
    (chain_of g.S.Application.layer g.D.Disk.kind g.E.Disk.kind before start server (One opened) disk entries chain)
    (chain_of g.S.Application.layer g.D.Disk.kind g.E.Disk.kind (call ∷ []) server end disk last later chain')
    alive entry single is_done f left
