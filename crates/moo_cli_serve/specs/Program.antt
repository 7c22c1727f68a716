-- What `moo serve` does over a file, what it prints, and the status that it answers.
use Rattle.std.specs.Prelude.{◌≡◌, ◌⊎◌, ◌↔◌, ℕ, ◌+◌, ◌^◌, ◌<◌, List, ◌++◌, Option, Some, Bool, IsTrue, not, ◌&&◌, if◌then◌else◌}
use Rattle.std.specs.declared.net.socket_addr.SocketAddr.{SocketAddr}
use Rattle.moo_disk.specs.Disk.{DiskKind}
use Rattle.moo_cli_file_disk.specs.Files.{IsUntouched, file_kind}
use Rattle.moo_cli_file_disk.specs.declared.file_disk.FileDisk.{FileDisk}
use Rattle.moo_checkpoint.specs.declared.open_fault.OpenFault.TheVariants as opening
use Rattle.moo_cli_io.specs.declared.watch.Watch.{Watch}
use Rattle.moo_server_core.specs.Application.{Layer}
use Rattle.moo_server_core.specs.Traces.{Done}
use Rattle.moo_dbtext_read.specs.Saved.{Saved}
use Rattle.moo_cli_serve.specs.Course.{last_report}
use Rattle.moo_cli_serve.specs.Printed.{MayListen, Prints, end_line, line_of, listening_line}
use Rattle.moo_cli_serve.specs.Rounds.{IsClosed}
use Rattle.moo_cli_serve.specs.Service.{Fails, Serves}
use Rattle.moo_cli_serve.specs.Status.{fault_status}
use Rattle.moo_cli_serve.specs.declared.fault.ServeFault.{ServeFault}
use Rattle.moo_cli_serve.specs.declared.fault.ServeFault.TheVariants as the
use Rattle.moo_cli_serve.specs.declared.limits.Limits.{Limits}

module _ {S Application D : Type 0} (l : Layer S Application Saved) (kind : DiskKind D) {disk : D} {limits : Limits} {rounds : ℕ} where
  -- A server that was served to its end is saved: it is closed, and the last report of a checkpoint said done.
  abbrev pub IsSaved : Serves l kind disk limits rounds → Type 0
  IsSaved serves = IsClosed serves.end.server × (last_report serves.course.entries ≡ Some Done)

  -- The answer is whether it is saved. At the limit of the disk's count of failures it may be either.
  abbrev pub TellsSaved : Serves l kind disk limits rounds → Bool → Type 0
  TellsSaved serves saved = kind.failures serves.end.disk + 1 < 2 ^ 64 → IsTrue saved ↔ IsSaved serves

-- The status of a server that was served to its end: 0, or 3 if it must be saved and isn't.
abbrev pub end_status : Bool → Bool → ℕ
end_status must saved = if must && not saved then 3 else 0

-- There is no disk: the file's name leads to none, or memory ran out for it.
abbrev pub NoDisk : ServeFault → Type 0
NoDisk fault = (fault ≡ the.Open opening.Device) ⊎ (fault ≡ the.Memory)

module _ {S Application : Type 0} (l : Layer S Application Saved) (F File Dir : Type 0) (limits : Limits) where
  -- The disk over a file, which had made no call, was served to the end. This is whether it is saved.
  abbrev pub ServesFile : ℕ → Bool → Type 0
  ServesFile rounds saved =
      (disk : FileDisk F File Dir) × IsUntouched disk × (serves : Serves l file_kind disk limits rounds) × TellsSaved l file_kind serves saved

  -- or it wasn't, or not to the end
  abbrev pub FailsFile : ℕ → ServeFault → Type 0
  FailsFile rounds fault = NoDisk fault ⊎ ((disk : FileDisk F File Dir) × IsUntouched disk × Fails l file_kind disk limits rounds fault)

  -- If the file was served to the end, the status is that of such an end, and these lines were printed. Else it is that of the fault, whose line
  -- comes last. If memory ran out for the line of a database that is refused, that is the fault.
  abbrev pub ShowsService : ℕ → Bool → Option (List ℕ) → Option (List ℕ) → Watch → ℕ → Type 0
  ShowsService rounds must old new watch status =
      ((saved : Bool) × ServesFile rounds saved × (status ≡ end_status must saved)
      × (address : SocketAddr) × Prints old new watch (listening_line address ++ end_line must saved))
      ⊎ ((fault : ServeFault) × FailsFile rounds fault × (status ≡ fault_status fault)
      × (first : List ℕ) × MayListen first × Prints old new watch (first ++ line_of fault))
