-- The outcome of the last call of a disk, and what it says of the count of failures.
use Rattle.std.specs.Prelude.{◌≡◌, ℕ, Bool, true, false}
use Rattle.moo_disk.specs.Disk.{HasRisen}
use Rattle.moo_cli_file_disk.specs.declared.news.News.{News}
use Rattle.moo_cli_file_disk.specs.declared.news.News.TheVariants.{Failed}

abbrev pub is_failure : News → Bool
is_failure (Failed name error) = true
is_failure news = false

-- A call that failed has raised the count of failures, and one that didn't has left it.
abbrev pub CountsLast : Bool → ℕ → ℕ → Type 0
CountsLast true before now = HasRisen before now
CountsLast false before now = now ≡ before
