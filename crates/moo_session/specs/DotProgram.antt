-- `.program`: lines that a player types become the program of a verb.
use Rattle.std.specs.Prelude.{◌≡◌, ℕ, ◌+◌, ℤ, ◌==◌, Bool, true, false, List, [], ◌∷◌, ◌++◌, codes, take, drop, Option, Some, None, position, if◌then◌else◌}
use Rattle.std.specs.Option.{unwrap_or, option_and_then}
use Rattle.std.specs.Str.{bytes_eq}
use Rattle.moo_value.specs.declared.error_code.ErrorCode.{ErrorCode}
use Rattle.moo_value.specs.Tree.{object}
use Rattle.moo_value.specs.Text.{literal}
use Rattle.moo_syntax_ast.specs.Tree.{Block}
use Rattle.moo_syntax_grammar.specs.declared.names.Names.TheVariants.{Known}
use Rattle.moo_syntax_grammar.specs.Texts.{IsParsed}
use Rattle.moo_syntax.specs.declared.syntax_fault.SyntaxFault.{SyntaxFault}
use Rattle.moo_syntax.specs.FaultText.{fault_text}
use Rattle.moo_world_object.specs.declared.verb.Need.TheVariants as need
use Rattle.moo_world_object.specs.Verbs.{fits_verb}
use Rattle.moo_world_table.specs.World.{World, nothing}
use Rattle.moo_world.specs.Calls.{number_of}
use Rattle.moo_world.specs.Numbered.{object_numbered, verb_numbered}
use Rattle.moo_world.specs.VerbCalls.{program_raises}
use Rattle.moo_world.specs.Rights.{may_write_this_verb}
use Rattle.moo_builtin.specs.Setting.{is_programmer, with_code}
use Rattle.moo_builtin.specs.Telling.{Telling}
use Rattle.moo_session_connection.specs.Gathering.{Gathering}
use Rattle.moo_session_connection.specs.Connections.{client_here}
use Rattle.moo_session_connection.specs.Changes.{with_changed, with_gathering}
use Rattle.moo_session_task.specs.declared.world_state.WorldState.{WorldState}
use Rattle.moo_session_task.specs.Session.{Session, in_connections}
use Rattle.moo_session_task.specs.Sending.{sent}
use Rattle.moo_session_task.specs.State.{state, in_session}
use Rattle.moo_command.specs.Objects.{matched}

-- the place of an object's own first verb that a name fits
abbrev pub own_verb : World → ℤ → List ℕ → Option ℕ
own_verb w o name = position (fits_verb need.Any name) (unwrap_or (object_numbered w o) nothing).verbs

abbrev pub may_write : World → ℤ → ℤ → ℕ → Bool
may_write w player o i = may_write_this_verb w player (verb_numbered w o i)

-- the connection is to gather lines for a verb of an object
abbrev pub gathering_for : ℕ → ℤ → List ℕ → Session → Session
gathering_for n o verb s = in_connections (with_changed n (with_gathering (Some (record { object = o; verb = verb; lines = [] })))) s

-- `Now programming #O:VERB. Use "." to end.`
abbrev pub ready_line : ℤ → List ℕ → List ℕ
ready_line o verb = codes "Now programming " ++ literal (object o) ++ codes ":" ++ verb ++ codes ". Use " ++ (34 ∷ codes ".") ++ (34 ∷ codes " to end.")

abbrev pub begun_for_place : World → ℕ → ℤ → ℤ → List ℕ → Option ℕ → Session → Session
begun_for_place w n player o verb None s = sent n (codes "No such verb.") s
begun_for_place w n player o verb (Some i) s =
    if may_write w player o i then gathering_for n o verb (sent n (ready_line o verb) s) else sent n (codes "Permission denied.") s

abbrev pub begun_for : World → ℕ → ℤ → ℤ → List ℕ → Session → Session
begun_for w n player o verb s = begun_for_place w n player o verb (own_verb w o verb) s

abbrev pub is_colon : ℕ → Bool
is_colon b = b == 58

abbrev pub told_usage : ℕ → Session → Session
told_usage n s = sent n (codes "Usage: .program OBJECT:VERB") s

-- a word with its first colon at this place: the text before it names an object, the text after it a verb
abbrev pub begun_at_colon : World → ℕ → ℤ → List ℕ → Option ℕ → Session → Session
begun_at_colon w n player word None s = told_usage n s
begun_at_colon w n player word (Some i) s = begun_for w n player (matched w player (take i word)) (drop (i + 1) word) s

abbrev pub begun_by_word : World → ℕ → ℤ → List ℕ → Session → Session
begun_by_word w n player word s = begun_at_colon w n player word (position is_colon word) s

abbrev pub begun_by : World → ℕ → ℤ → List (List ℕ) → Session → Session
begun_by w n player [] s = told_usage n s
begun_by w n player (word ∷ []) s = begun_by_word w n player word s
begun_by w n player (word ∷ other ∷ more) s = told_usage n s

-- `.program` with these words after it
abbrev pub programming_begun : World → ℕ → ℤ → List (List ℕ) → Session → Session
programming_begun w n player words s = if is_programmer w player then begun_by w n player words s else sent n (codes "You are not a programmer.") s

-- one line more
abbrev pub with_line : List ℕ → Gathering → Gathering
with_line line g = record g { lines = g.lines ++ line ∷ [] }

abbrev pub is_dot : List ℕ → Bool
is_dot line = bytes_eq line (codes ".")

-- the verb has this program now, unless the world refuses it since there are too many
abbrev pub programmed_unless : Option ErrorCode → ℕ → ℤ → ℕ → Block → WorldState → WorldState
programmed_unless None n o i b s = state (with_code s.world o i b) (sent n (codes "Verb programmed.") s.session)
programmed_unless (Some e) n o i b s = in_session (sent n (codes "Verb not programmed.")) s

abbrev pub programmed : ℕ → ℤ → ℕ → Block → WorldState → WorldState
programmed n o i b s = programmed_unless (program_raises s.world (number_of s.world.objects o) i true) n o i b s

-- the lines that report a fault
abbrev pub told_fault : ℕ → SyntaxFault → Session → Session
told_fault n fault s = sent n (codes "Verb not programmed.") (sent n (fault_text fault) s)

-- The lines that were gathered become the verb's program, or a line says why not. The verb is looked for again by its
-- name, and the right to write it is asked again.
pub data EndsProgramming (T : Telling) (n : ℕ) (player : ℤ) (g : Gathering) (s : WorldState) : WorldState → Type 0 where
  no_verb : own_verb s.world g.object g.verb ≡ None → EndsProgramming T n player g s (in_session (sent n (codes "No such verb.")) s)
  denied : {i : ℕ} → own_verb s.world g.object g.verb ≡ Some i → may_write s.world player g.object i ≡ false →
      EndsProgramming T n player g s (in_session (sent n (codes "Permission denied.")) s)
  -- the lines are no program
  faulty : {i : ℕ} → own_verb s.world g.object g.verb ≡ Some i → may_write s.world player g.object i ≡ true → (fault : SyntaxFault) → T g.lines fault →
      EndsProgramming T n player g s (in_session (told_fault n fault) s)
  parsed : {i : ℕ} {b : Block} → own_verb s.world g.object g.verb ≡ Some i → may_write s.world player g.object i ≡ true → IsParsed Known g.lines b →
      EndsProgramming T n player g s (programmed n g.object i b s)

-- A line of a connection that gathers: each is kept as it is, up to a dot.
pub data Gathers (T : Telling) (n : ℕ) (player : ℤ) (g : Gathering) (line : List ℕ) (s : WorldState) : WorldState → Type 0 where
  keeps : is_dot line ≡ false → Gathers T n player g line s (in_session (in_connections (with_changed n (with_gathering (Some (with_line line g))))) s)
  ends : {s' : WorldState} → is_dot line ≡ true → EndsProgramming T n player g (in_session (in_connections (with_changed n (with_gathering None))) s) s' → Gathers T n player g line s s'

-- what the connection of this number gathers lines for, if for anything
abbrev pub gathering_of : ℕ → Session → Option Gathering
gathering_of n s = option_and_then (λ c. c.gathering) (client_here n s.connections)
