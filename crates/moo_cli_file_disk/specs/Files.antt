-- The state of the disk over files, which says nothing of what files hold.
use Rattle.std.specs.Prelude.{◌≡◌, [], None, Bool, true, false, IsNone, IsSome}
use Rattle.moo_disk.specs.Disk.{DiskKind, DiskView}
use Rattle.moo_cli_file_disk.specs.News.{CountsLast}
use Rattle.moo_cli_file_disk.specs.declared.file_disk.FileDisk.{FileDisk}
use Rattle.moo_cli_file_disk.specs.declared.file_disk.Last.{Last}
use Rattle.moo_cli_file_disk.specs.declared.file_disk.Last.TheVariants.{Failed}

-- a view on which nobody may rely, since such a disk isn't honest
abbrev pub no_view : DiskView
no_view = record {
  main_text = [];
  spare = None;
  stable = false;
  may_leave = λ _. ⊥;
  clock = 0;
  left_since = λ _ _. ⊥;
}

abbrev pub is_fault : Last → Bool
is_fault (Failed place error) = true
is_fault last = false

module _ {F File Dir : Type 0} where
  -- the last call failed
  abbrev pub has_failed : FileDisk F File Dir → Bool
  has_failed disk = is_fault disk.last

  -- It has made no call since it was opened, and it writes no spare.
  pub record IsUntouched (disk : FileDisk F File Dir) : Type 0 where
    pub calls : disk.calls ≡ 0
    pub spare : IsNone disk.writing

-- Of such a disk nothing is promised but its count of failed calls, whether the last call was one of these, and that its spare exists while
-- it writes one.
abbrev pub file_kind : {F File Dir : Type 0} → DiskKind (FileDisk F File Dir)
file_kind = record {
  view = λ disk. no_view;
  honest = λ disk. ⊥;
  has_spare = λ disk. IsSome disk.writing;
  failures = λ disk. disk.failures;
  made = λ call old new. CountsLast (has_failed new) old.failures new.failures;
}
