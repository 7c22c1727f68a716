use Rattle.std.proofs.Common.{[]}
use Rattle.moo_server_core.specs.Server.{state_of}
use Rattle.moo_server_core.specs.Calls.{One, lent}
use Rattle.moo_server_core.proofs.Calling.{kept_since_open, chain_of, starts_again}
use Rattle.moo_server_core.proofs.laws.starting_again_reads_a_prefix_since_the_start.Goals as goal

pub returns : goal.returns
returns g c start end first opened last calls entries saved moment h opening spells chain found h' left =
    starts_again g.S.Application.layer g.F.Disk.kind (state_of g.S.Application.layer start) saved [] entries found h'
    (λ s. (g.met.S.StartApplication.spells_is (g.F.Disk.kind.view found).main_text s).0)
    (kept_since_open g.S.Application.layer (lent g.D.Disk.kind g.E.Disk.kind) start end (g.D.Disk.kind.view first) (One opened) last calls entries saved
    opening.no_checkpoint (opening.main h) (opening.honest_still h) (λ t left'. (g.met.S.StartApplication.spells_is t saved).1 (spells t left'))
    (λ f left'. g.met.D.Disk.only_now first f h left')
    (chain_of g.S.Application.layer g.D.Disk.kind g.E.Disk.kind calls start end (One opened) last entries chain)
    (g.F.Disk.kind.view found).main_text left)
