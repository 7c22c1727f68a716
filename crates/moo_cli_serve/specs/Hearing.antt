-- When a connection was heard in the rounds of a server.
use Rattle.std.specs.Prelude.{◌≡◌, ◌⊎◌, ℕ, zero, suc, true, false}
use Rattle.moo_disk.specs.Disk.{DiskKind}
use Rattle.moo_dbtext_read.specs.Saved.{Saved}
use Rattle.moo_server_core.specs.Application.{Layer}
use Rattle.moo_cli_serve.specs.Service.{Makes}
use Rattle.moo_cli_serve.specs.Silence.{heard_in, is_heard}
use Rattle.moo_cli_serve.specs.declared.serving.Serving.{Serving}

module _ {S Application D : Type 0} (l : Layer S Application Saved) (kind : DiskKind D) where
  -- The last of these rounds in which connection c was opened or sent bytes was of this second, or of that which was noted before them.
  abbrev pub IsHeardLast : (c second rounds : ℕ) (old new : Serving S D) → Makes l kind rounds old new → Type 0
  IsHeardLast c second zero old new makes = heard_in old.timeouts.silence c ≡ second
  IsHeardLast c second (suc n) old new (mid, makes, steps) =
      ((is_heard steps.1.rounds.first c ≡ true) × (steps.1.rounds.second ≡ second))
      ⊎ ((is_heard steps.1.rounds.first c ≡ false) × IsHeardLast c second n old mid makes)
