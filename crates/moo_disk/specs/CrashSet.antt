-- A crash set, now and at earlier moments.
use Rattle.std.specs.Prelude.{ℕ, ◌-◌, List, [], length, Contains, Option, None, Bool, false, Vec, vec_len, vec_capacity}
use Rattle.std.specs.declared.alloc.Global.{Global}
use Rattle.moo_disk.specs.Disk.{DiskView}
use Rattle.moo_disk.specs.Texts.{texts_from, first_at}
use Rattle.moo_disk.specs.declared.crash_set.CrashSet.{CrashSet}

-- the texts that a crash now may leave
abbrev pub texts_of : CrashSet → List (List ℕ)
texts_of set = texts_from set.base.items set.later.items set.first

-- how many texts may enter without a growth
abbrev pub room_of : CrashSet → ℕ
room_of set = vec_capacity set.later - vec_len set.later

-- a disk with this main, this spare, and these texts
abbrev pub view_with : List ℕ → Option (List ℕ) → Bool → List ℕ → List (Vec ℕ Global) → List ℕ → ℕ → DiskView
view_with main spare stable base later starts first = record {
  main_text = main;
  spare = spare;
  stable = stable;
  may_leave = Contains (texts_from base later first);
  clock = length starts;
  left_since = λ moment. Contains (texts_from base later (first_at starts first moment));
}

-- these texts, whatever main and the spare are
abbrev pub crash_view_of : List ℕ → List (Vec ℕ Global) → List ℕ → ℕ → DiskView
crash_view_of = view_with [] None false

abbrev pub crash_view : CrashSet → DiskView
crash_view set = crash_view_of set.base.items set.later.items set.starts.items set.first
