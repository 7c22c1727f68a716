use Rattle.std.proofs.Common.{◌≡◌, ◌∙◌, subst, sym}
use Rattle.moo_disk.specs.Disk.{Gains, IsBroughtBy}
use Rattle.moo_disk.specs.Memory.{view_of}
use Rattle.moo_disk.specs.StopAt.{inner_of}
use Rattle.moo_disk.specs.declared.memory.MemoryDisk.{MemoryDisk}
use Rattle.moo_disk.proofs.GainsLemmas.{gains_none}
use Rattle.moo_disk.proofs.stop_at.StopAtDisk.rename.Goals as goal

pub returns-in_ok-stop_in_rename-in-CutShort-clause-crash : goal.returns-in_ok-stop_in_rename-in-CutShort-clause-crash
returns-in_ok-stop_in_rename-in-CutShort-clause-crash c =
    let cut = c.stop_in_rename.new.self in
    let from_old = subst (λ (d : MemoryDisk). Gains (IsBroughtBy (view_of d)) (view_of d) (view_of cut)) c.count.ensures.inner c.stop_in_rename.ensures.crash in
    subst (λ (d : MemoryDisk). Gains (IsBroughtBy (view_of (inner_of c.args.self.now))) (view_of (inner_of c.args.self.now)) (view_of d)) (sym c.refuse.ensures.inner) from_old

pub returns-in-Refused-clause-crash : goal.returns-in-Refused-clause-crash
returns-in-Refused-clause-crash c =
    let old = inner_of c.args.self.now in
    let same : inner_of c.refuse-in-Refused.new.self ≡ old = c.refuse-in-Refused.ensures.inner ∙ c.count.ensures.inner in
    subst (λ (d : MemoryDisk). Gains (IsBroughtBy (view_of old)) (view_of old) (view_of d)) (sym same) (gains_none (IsBroughtBy (view_of old)) (view_of old))

pub returns-in_err-stop_in_rename-in-CutShort-clause-crash : goal.returns-in_err-stop_in_rename-in-CutShort-clause-crash
returns-in_err-stop_in_rename-in-CutShort-clause-crash c =
    let cut = c.stop_in_rename.new.self in
    subst (λ (d : MemoryDisk). Gains (IsBroughtBy (view_of d)) (view_of d) (view_of cut)) c.count.ensures.inner c.stop_in_rename.ensures.crash
