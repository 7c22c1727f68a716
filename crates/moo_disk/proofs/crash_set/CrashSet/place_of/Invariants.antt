use Rattle.std.proofs.Common.{◌≢◌, ℕ, ◌<◌, get_or, Vec}
use Rattle.std.specs.declared.alloc.Global.{Global}
use Rattle.moo_disk.proofs.crash_set.CrashSet.place_of.Given as goal

abbrev pub invariant-loop-i : goal.invariant-loop-i
invariant-loop-i l = (k : ℕ) (d : Vec ℕ Global) → k < l.i → (get_or l.one-items k d).items ≢ l.text
