-- Pieces of a stream.
use Rattle.std.specs.Prelude.{◌≡◌, ℕ, List, ◌++◌}
use Rattle.moo_cli_telnet.specs.Commands.{state_after, text_from}
use Rattle.moo_cli_telnet.specs.declared.filter.State.{State}

-- However a stream is cut, the text of its pieces is the text of the whole.
abbrev pub TextUnderAnyCutting : Type 0
TextUnderAnyCutting = (s : State) (first second : List ℕ) → text_from s (first ++ second) ≡ text_from s first ++ text_from (state_after s first) second
