-- What a line of a connection does.
use Rattle.std.specs.Prelude.{◌≡◌, ℕ, ℤ, Bool, ◌||◌, List, [], ◌∷◌, codes, Some, None, if◌then◌else◌}
use Rattle.std.specs.Str.{bytes_eq}
use Rattle.moo_builtin.specs.Telling.{Telling}
use Rattle.moo_eval_frame.specs.declared.surroundings.Login.{Login}
use Rattle.moo_session_connection.specs.declared.client.Client.{Client}
use Rattle.moo_session_connection.specs.Gathering.{Gathering}
use Rattle.moo_session_connection.specs.Connections.{client_here}
use Rattle.moo_session_connection.specs.Changes.{with_changed, with_prefix, with_suffix}
use Rattle.moo_session_task.specs.declared.world_state.WorldState.{WorldState}
use Rattle.moo_session_task.specs.Session.{in_connections}
use Rattle.moo_session_task.specs.State.{in_session}
use Rattle.moo_command.specs.Words.{Words}
use Rattle.moo_command.specs.FirstWord.{IsTyped}
use Rattle.moo_session_task.specs.Hooks.{HooksRun}
use Rattle.moo_session.specs.Login.{LogsIn}
use Rattle.moo_session.specs.DotProgram.{Gathers, programming_begun}
use Rattle.moo_session.specs.Dispatch.{Commanded}
use Rattle.moo_session.specs.declared.player_line.LineKind.{LineKind}
use Rattle.moo_session.specs.declared.player_line.LineKind.TheVariants.{Prefix, Suffix, Program, Command}

-- the words, in capitals, that a line begins with to say what goes before or after the output of commands
abbrev pub sets_prefix : List ℕ → Bool
sets_prefix word = bytes_eq word (codes "PREFIX") || bytes_eq word (codes "OUTPUTPREFIX")

abbrev pub sets_suffix : List ℕ → Bool
sets_suffix word = bytes_eq word (codes "SUFFIX") || bytes_eq word (codes "OUTPUTSUFFIX")

abbrev pub begins_program : List ℕ → Bool
begins_program word = bytes_eq word (codes ".program")

-- what a player's line is, by its first word
abbrev pub kind_of : List ℕ → LineKind
kind_of word = if sets_prefix word then Prefix else (if sets_suffix word then Suffix else (if begins_program word then Program else Command))

-- A player's line that isn't gathered, on connection n.
pub data PlayerTypes (T : Telling) (moment : ℕ) (n : ℕ) (client : Client) (player : ℤ) (line : List ℕ) (s : WorldState) : WorldState → Type 0 where
  no_word : Words line [] → PlayerTypes T moment n client player line s s
  prefix : {word rest : List ℕ} {args : List (List ℕ)} → IsTyped line word rest args → kind_of word ≡ Prefix →
      PlayerTypes T moment n client player line s (in_session (in_connections (with_changed n (with_prefix rest))) s)
  suffix : {word rest : List ℕ} {args : List (List ℕ)} → IsTyped line word rest args → kind_of word ≡ Suffix →
      PlayerTypes T moment n client player line s (in_session (in_connections (with_changed n (with_suffix rest))) s)
  program : {word rest : List ℕ} {args : List (List ℕ)} → IsTyped line word rest args → kind_of word ≡ Program →
      PlayerTypes T moment n client player line s (in_session (programming_begun s.world n player args) s)
  command : {word rest : List ℕ} {args : List (List ℕ)} {s' : WorldState} → IsTyped line word rest args → kind_of word ≡ Command →
      Commanded T moment n client player (word ∷ args) line s s' → PlayerTypes T moment n client player line s s'

-- A line of connection n, which isn't leaving: a login line while nobody is connected on it, else the player's.
pub data Types (T : Telling) (moment : ℕ) (n : ℕ) (client : Client) (line : List ℕ) (s : WorldState) : WorldState → Type 0 where
  logs_in : {words : List (List ℕ)} {s' : WorldState} → client.connection.login ≡ None → Words line words → LogsIn T moment n words line s s' →
      Types T moment n client line s s'
  gathers : {login : Login} {g : Gathering} {s' : WorldState} → client.connection.login ≡ Some login → client.gathering ≡ Some g →
      Gathers T n login.player g line s s' → Types T moment n client line s s'
  plays : {login : Login} {s' : WorldState} → client.connection.login ≡ Some login → client.gathering ≡ None →
      PlayerTypes T moment n client login.player line s s' → Types T moment n client line s s'

-- One line, and then the hooks that it causes.
pub record MeetsLine (T : Telling) (moment : ℕ) (n : ℕ) (client : Client) (line : List ℕ) (s s' : WorldState) : Type 0 where
  pub typed : WorldState
  pub types : Types T moment n client line s typed
  pub hooks : HooksRun T moment typed s'

-- The lines of an event, each with its hooks before the next. Those of a connection that isn't here, or is leaving, are
-- dropped.
pub data MeetsLines (T : Telling) (moment : ℕ) (n : ℕ) : List (List ℕ) → WorldState → WorldState → Type 0 where
  no_line_more : {s : WorldState} → MeetsLines T moment n [] s s
  dropped : {lines : List (List ℕ)} {s : WorldState} → client_here n s.session.connections ≡ None → MeetsLines T moment n lines s s
  one_line_more : {client : Client} {line : List ℕ} {lines : List (List ℕ)} {s s' s'' : WorldState} → client_here n s.session.connections ≡ Some client →
      MeetsLine T moment n client line s s' → MeetsLines T moment n lines s' s'' → MeetsLines T moment n (line ∷ lines) s s''
