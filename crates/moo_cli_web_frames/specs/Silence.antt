-- The silence of the other side.
use Rattle.std.specs.Prelude.{ℕ, false}
use Rattle.moo_cli_web_frames.specs.declared.silence.Silence.{Silence}

-- the silence that begins at this second
abbrev pub silence_from : ℕ → Silence
silence_from second = record { since = second; asked = second; has_heard = false }
