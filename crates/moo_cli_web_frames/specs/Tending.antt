-- What a look at a silent side does.
use Rattle.std.specs.Prelude.{◌≡◌, ◌⊎◌, ℕ, ◌+◌, ◌≤◌, ◌<◌, [], true, false, IsErr, IsTrue}
use Rattle.websocket.specs.Connection.{write_step}
use Rattle.websocket.specs.Content.{ping}
use Rattle.websocket.specs.View.{Leaves}
use Rattle.moo_cli_web_frames.specs.Silence.{silence_from}
use Rattle.moo_cli_web_frames.specs.declared.channel.Channel.{Channel}

-- An empty ping was appended to the frames, or the state of the connection allows none.
abbrev pub Asks : Channel → Channel → Type 0
Asks old new =
    (new.is_over ≡ old.is_over) × (new.endpoint ≡ old.endpoint)
    × (Leaves (write_step old.endpoint.context (ping [])) new.endpoint.context old.frames.items new.frames.items
    ⊎ (IsErr (write_step old.endpoint.context (ping [])) × (new.frames.items ≡ old.frames.items)))

-- nothing was appended to the frames
abbrev pub Rests : Channel → Channel → Type 0
Rests old new = (new.is_over ≡ old.is_over) × (new.endpoint ≡ old.endpoint) × (new.frames.items ≡ old.frames.items)

-- A look at this second. If something came since the last one, the silence begins anew. Else the channel ends after 90 seconds, and a
-- ping is due 30 after the last.
pub record Tends (now : ℕ) (old new : Channel) : Type 0 where
  pub heard : old.silence.has_heard ≡ true → (new.silence ≡ silence_from now) × Rests old new
  pub gone : old.silence.has_heard ≡ false → old.silence.since + 90 ≤ now → IsTrue new.is_over
  pub asks : old.silence.has_heard ≡ false → now < old.silence.since + 90 → old.silence.asked + 30 ≤ now → (new.silence ≡ record old.silence { asked = now }) × Asks old new
  pub rests : old.silence.has_heard ≡ false → now < old.silence.since + 90 → now < old.silence.asked + 30 → (new.silence ≡ old.silence) × Rests old new
