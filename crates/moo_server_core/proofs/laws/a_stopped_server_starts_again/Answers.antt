use Rattle.std.proofs.Common.{List, ℕ, subst, sym}
use Rattle.moo_server_core.specs.Server.{state_of}
use Rattle.moo_server_core.specs.Calls.{One, lent}
use Rattle.moo_server_core.proofs.Calling.{kept, chain_of, only_now, starts_again}
use Rattle.moo_server_core.proofs.laws.a_stopped_server_starts_again.Goals as goal

pub returns : goal.returns
returns g c s found h is =
    let l = g.S.Application.layer in
    let kind = lent g.D.Disk.kind g.E.Disk.kind in
    starts_again l g.F.Disk.kind (state_of l s.start) s.saved s.entries s.later found h
    (λ world. (g.met.S.StartApplication.spells_is (g.F.Disk.kind.view found).main_text world).0)
    (kept l kind s.start s.server s.end (g.D.Disk.kind.view s.first) (One s.opened_disk) s.disk s.last s.returned s.further s.entries s.later s.saved
    s.opened.no_checkpoint (s.opened.main s.honest_first) (s.opened.honest_still s.honest_first) (λ t left. (g.met.S.StartApplication.spells_is t s.saved).1 (s.spelled t left))
    (only_now g.D.Disk.kind g.E.Disk.kind g.met.D.Disk.only_now g.met.E.Disk.only_now s.disk)
    (chain_of l g.D.Disk.kind g.E.Disk.kind s.returned s.start s.server (One s.opened_disk) s.disk s.entries s.before)
    (chain_of l g.D.Disk.kind g.E.Disk.kind s.further s.server s.end s.disk s.last s.later s.after)
    (g.F.Disk.kind.view found).main_text (subst (λ (t : List ℕ). (kind.view s.last).left_since (kind.view s.disk).clock t) (sym is) s.leaves))
