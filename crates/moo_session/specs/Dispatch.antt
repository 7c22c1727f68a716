-- What a player's command does.
use Rattle.std.specs.Prelude.{◌≡◌, ℕ, ℤ, Bool, true, false, List, [], ◌∷◌, codes, Option, Some, None}
use Rattle.std.specs.Option.{option_map, option_map_or, option_and_then}
use Rattle.moo_value.specs.Tree.{Tree}
use Rattle.moo_builtin_operator.specs.Truth.{is_true}
use Rattle.moo_world_object.specs.declared.verb.Verb.{Verb}
use Rattle.moo_world_table.specs.World.{World}
use Rattle.moo_world.specs.VerbCalls.{verb_there}
use Rattle.moo_eval_access.specs.Entering.{called_verb}
use Rattle.moo_builtin.specs.Telling.{Telling}
use Rattle.moo_session_connection.specs.declared.client.Client.{Client}
use Rattle.moo_session_task.specs.declared.world_state.WorldState.{WorldState}
use Rattle.moo_session_task.specs.Session.{Session}
use Rattle.moo_session_task.specs.Sending.{sent}
use Rattle.moo_session_task.specs.State.{in_session}
use Rattle.moo_session_task.specs.WordList.{strings_of}
use Rattle.moo_command.specs.declared.choice.Chosen.{Chosen}
use Rattle.moo_command.specs.Objects.{room_of}
use Rattle.moo_command.specs.Commands.{Command, Commands}
use Rattle.moo_command.specs.Choice.{chosen}
use Rattle.moo_session_task.specs.Tasks.{RunsTask, CallsServerVerb}
use Rattle.moo_session.specs.Frames.{command_frame}

-- a line that goes before or after the output of commands, if there is one
abbrev pub sent_unless_empty : ℕ → List ℕ → Session → Session
sent_unless_empty n [] s = s
sent_unless_empty n (b ∷ bs) s = sent n (b ∷ bs) s

abbrev pub is_true_answer : Option Tree → Bool
is_true_answer answer = option_map_or is_true answer false

-- the verb of a choice, with the object that was looked on and the object that has it
abbrev pub verb_of_choice : World → Chosen → Option (ℤ × (ℤ × Verb))
verb_of_choice w o = option_map (λ found. (o.this, found)) (verb_there w o.found)

abbrev pub chosen_verb : World → ℤ → Command → Option (ℤ × (ℤ × Verb))
chosen_verb w player c = option_and_then (verb_of_choice w) (chosen w player c)

-- the verb `huh` of the player's room, if it has one that can be executed
abbrev pub huh_verb : World → ℤ → Option (ℤ × (ℤ × Verb))
huh_verb w player = option_map (λ found. (room_of w player, found)) (called_verb w (room_of w player) (codes "huh"))

abbrev pub or_else : Option (ℤ × (ℤ × Verb)) → Option (ℤ × (ℤ × Verb)) → Option (ℤ × (ℤ × Verb))
or_else None other = other
or_else (Some meant) other = Some meant

-- what a command runs, and on which object: the verb that is chosen, else the room's `huh`
abbrev pub verb_to_run : World → ℤ → Command → Option (ℤ × (ℤ × Verb))
verb_to_run w player c = or_else (chosen_verb w player c) (huh_verb w player)

-- That verb runs with the command, or a line says that there is none.
pub data RunsVerb (T : Telling) (moment : ℕ) (n : ℕ) (player : ℤ) (c : Command) (s : WorldState) : WorldState → Type 0 where
  runs : {this : ℤ} {found : ℤ × Verb} {v : Option Tree} {s' : WorldState} → verb_to_run s.world player c ≡ Some (this, found) →
      RunsTask T moment (command_frame found this player c) s v s' → RunsVerb T moment n player c s s'
  nothing_runs : verb_to_run s.world player c ≡ None → RunsVerb T moment n player c s (in_session (sent n (codes "I couldn't understand that.")) s)

-- What comes after `do_command`: nothing if it gave a true value, else the command is read in the world that it left.
pub data FollowsDoCommand (T : Telling) (moment : ℕ) (n : ℕ) (player : ℤ) (line : List ℕ) (answer : Option Tree) (s : WorldState) : WorldState → Type 0 where
  is_done : is_true_answer answer ≡ true → FollowsDoCommand T moment n player line answer s s
  goes_on : {c : Command} {s' : WorldState} → is_true_answer answer ≡ false → Commands s.world player line c → RunsVerb T moment n player c s s' → FollowsDoCommand T moment n player line answer s s'

-- A player's command on connection n: the prefix, `do_command` with all its words, what follows it, and the suffix.
pub record Commanded (T : Telling) (moment : ℕ) (n : ℕ) (client : Client) (player : ℤ) (words : List (List ℕ)) (line : List ℕ) (s s' : WorldState) : Type 0 where
  pub answer : Option Tree
  pub asked : WorldState
  pub done : WorldState
  pub asks : CallsServerVerb T moment (codes "do_command") player (strings_of words) line (in_session (sent_unless_empty n client.prefix) s) answer asked
  pub follows : FollowsDoCommand T moment n player line answer asked done
  pub leaves : in_session (sent_unless_empty n client.suffix) done ≡ s'
