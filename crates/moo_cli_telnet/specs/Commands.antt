-- The commands of telnet (RFC 854) in a stream of bytes: 255 and a command; four of them with an option after it; and a
-- subnegotiation, which goes on up to 255 240. The bytes 255 255 are one byte of text.
use Rattle.std.specs.Prelude.{ℕ, ◌==◌, ◌&&◌, nat_le, List, [], ◌∷◌, ◌++◌, Bool, false, not, if◌then◌else◌}
use Rattle.moo_cli_telnet.specs.declared.filter.State.{State}
use Rattle.moo_cli_telnet.specs.declared.filter.State.TheVariants as state

-- the four commands that have an option after them
abbrev pub has_option : ℕ → Bool
has_option command = nat_le 251 command && nat_le command 254

-- what a byte begins, goes on with or ends
abbrev pub next : State → ℕ → State
next state.Text b = if b == 255 then state.Command else state.Text
next state.Command b = if b == 250 then state.Inside else if has_option b then state.Option else state.Text
next state.Option b = state.Text
next state.Inside b = if b == 255 then state.CommandInside else state.Inside
next state.CommandInside b = if b == 240 then state.Text else state.Inside

-- a byte of no command
abbrev pub is_text : State → ℕ → Bool
is_text state.Text b = not (b == 255)
is_text state.Command b = b == 255
is_text other b = false

abbrev pub text_of_byte : State → ℕ → List ℕ
text_of_byte s b = if is_text s b then b ∷ [] else []

-- the text of these bytes, which come in this state
abbrev pub text_from : State → List ℕ → List ℕ
text_from s [] = []
text_from s (b ∷ bs) = text_of_byte s b ++ text_from (next s b) bs

-- the state after these bytes
abbrev pub state_after : State → List ℕ → State
state_after s [] = s
state_after s (b ∷ bs) = state_after (next s b) bs
