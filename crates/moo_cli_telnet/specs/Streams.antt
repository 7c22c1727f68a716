-- A whole stream of telnet in the words of RFC 854, and its text.
use Rattle.std.specs.Prelude.{◌≡◌, ◌≢◌, ℕ, ◌≤◌, ◌<◌, List, [], ◌∷◌}
use Rattle.moo_cli_telnet.specs.Commands.{text_from}
use Rattle.moo_cli_telnet.specs.declared.filter.State.TheVariants as state

-- The bytes of a subnegotiation up to 255 240, which end it, and what follows. In it a byte 255 comes before one of
-- another value than 240, as in 255 255.
pub data Ends : List ℕ → List ℕ → Type 0 where
  ends_here : {rest : List ℕ} → Ends (255 ∷ 240 ∷ rest) rest
  inner_byte : {b : ℕ} {bytes rest : List ℕ} → b ≢ 255 → Ends bytes rest → Ends (b ∷ bytes) rest
  inner_pair : {b : ℕ} {bytes rest : List ℕ} → b ≢ 240 → Ends bytes rest → Ends (255 ∷ b ∷ bytes) rest

-- A stream, and its text: bytes of text; 255 255, which is the byte 255; commands, those of options with the option; and
-- subnegotiations.
pub data Stream : List ℕ → List ℕ → Type 0 where
  no_bytes : Stream [] []
  text_byte : {b : ℕ} {bytes text : List ℕ} → b ≢ 255 → Stream bytes text → Stream (b ∷ bytes) (b ∷ text)
  doubled_byte : {bytes text : List ℕ} → Stream bytes text → Stream (255 ∷ 255 ∷ bytes) (255 ∷ text)
  command : {c : ℕ} {bytes text : List ℕ} → c < 250 → Stream bytes text → Stream (255 ∷ c ∷ bytes) text
  option_command : {c option : ℕ} {bytes text : List ℕ} → 251 ≤ c → c ≤ 254 → Stream bytes text → Stream (255 ∷ c ∷ option ∷ bytes) text
  subnegotiation : {bytes rest text : List ℕ} → Ends bytes rest → Stream rest text → Stream (255 ∷ 250 ∷ bytes) text

-- The text of a stream is what is kept of its bytes.
abbrev pub TextOfStreams : Type 0
TextOfStreams = (bytes text : List ℕ) → Stream bytes text → text_from state.Text bytes ≡ text
