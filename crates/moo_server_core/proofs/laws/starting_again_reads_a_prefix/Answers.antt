use Rattle.moo_server_core.specs.Server.{state_of}
use Rattle.moo_server_core.specs.Calls.{One, lent}
use Rattle.moo_server_core.proofs.Calling.{kept, chain_of, only_now, starts_again}
use Rattle.moo_server_core.proofs.laws.starting_again_reads_a_prefix.Goals as goal

pub returns : goal.returns
returns g c start server end first opened disk last before after entries later saved moment h opening spells chain chain' found h' left =
    starts_again g.S.Application.layer g.F.Disk.kind (state_of g.S.Application.layer start) saved entries later found h'
    (λ s. (g.met.S.StartApplication.spells_is (g.F.Disk.kind.view found).main_text s).0)
    (kept g.S.Application.layer (lent g.D.Disk.kind g.E.Disk.kind) start server end (g.D.Disk.kind.view first) (One opened) disk last before after entries later saved
    opening.no_checkpoint (opening.main h) (opening.honest_still h) (λ t left'. (g.met.S.StartApplication.spells_is t saved).1 (spells t left'))
    (only_now g.D.Disk.kind g.E.Disk.kind g.met.D.Disk.only_now g.met.E.Disk.only_now disk)
    (chain_of g.S.Application.layer g.D.Disk.kind g.E.Disk.kind before start server (One opened) disk entries chain)
    (chain_of g.S.Application.layer g.D.Disk.kind g.E.Disk.kind after server end disk last later chain')
    (g.F.Disk.kind.view found).main_text left)
