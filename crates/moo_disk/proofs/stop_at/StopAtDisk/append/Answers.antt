use Rattle.std.proofs.Common.{subst, sym}
use Rattle.moo_disk.specs.Disk.{KeepsMain}
use Rattle.moo_disk.specs.Memory.{view_of}
use Rattle.moo_disk.specs.StopAt.{inner_of}
use Rattle.moo_disk.specs.declared.memory.MemoryDisk.{MemoryDisk}
use Rattle.moo_disk.proofs.stop_at.StopAtDisk.append.Goals as goal

pub returns-in-Passes-clause-main : goal.returns-in-Passes-clause-main
returns-in-Passes-clause-main c =
    let grown = c.append.new.self in
    subst (λ (d : MemoryDisk). KeepsMain (view_of d) (view_of grown)) c.count.ensures.inner c.append.ensures.main

pub returns-in_ok-append-in-CutShort-clause-main : goal.returns-in_ok-append-in-CutShort-clause-main
returns-in_ok-append-in-CutShort-clause-main c =
    let cut = c.append-in-CutShort.new.self in
    let from_old = subst (λ (d : MemoryDisk). KeepsMain (view_of d) (view_of cut)) c.count.ensures.inner c.append-in-CutShort.ensures.main in
    subst (λ (d : MemoryDisk). KeepsMain (view_of (inner_of c.args.self.now)) (view_of d)) (sym c.refuse.ensures.inner) from_old

pub returns-in_err-append-in-CutShort-clause-main : goal.returns-in_err-append-in-CutShort-clause-main
returns-in_err-append-in-CutShort-clause-main c =
    let cut = c.append-in-CutShort.new.self in
    subst (λ (d : MemoryDisk). KeepsMain (view_of d) (view_of cut)) c.count.ensures.inner c.append-in-CutShort.ensures.main
