use Rattle.std.proofs.Common.{◌≡◌, Some}
use Rattle.moo_disk.proofs.MemoryLemmas.{shown_gains, shown_spare}
use Rattle.moo_disk.proofs.memory.MemoryDisk.stop_in_rename.Goals as goal

pub returns-in-Ok-clause-crash : goal.returns-in-Ok-clause-crash
returns-in-Ok-clause-crash c =
    let d = c.args.self.now in
    let spare_is : d.spare ≡ Some c.in-Some.spare = cc in
    shown_gains _ _ d.set c.bring.new.set _ _ _ _ _ _ (λ t brought stable. shown_spare d.spare c.in-Some.spare t spare_is brought stable) c.bring.ensures.gains

pub returns-in-Err-clause-crash : goal.returns-in-Err-clause-crash
returns-in-Err-clause-crash c =
    let d = c.args.self.now in
    let spare_is : d.spare ≡ Some c.in-Some.spare = cc in
    shown_gains _ _ d.set c.bring.new.set _ _ _ _ _ _ (λ t brought stable. shown_spare d.spare c.in-Some.spare t spare_is brought stable) c.bring.ensures.gains
