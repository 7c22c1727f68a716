use Rattle.moo_server_core.specs.Calls.{One, lent}
use Rattle.moo_server_core.proofs.Calling.{kept_since_open, chain_of}
use Rattle.moo_server_core.proofs.laws.a_start_reads_a_prefix_since_the_start.Goals as goal

pub returns : goal.returns
returns g c start end first opened last calls entries saved moment h opening spells chain =
    kept_since_open g.S.Application.layer (lent g.D.Disk.kind g.E.Disk.kind) start end (g.D.Disk.kind.view first) (One opened) last calls entries saved
    opening.no_checkpoint (opening.main h) (opening.honest_still h) spells
    (λ f left. g.met.D.Disk.only_now first f h left)
    (chain_of g.S.Application.layer g.D.Disk.kind g.E.Disk.kind calls start end (One opened) last entries chain)
