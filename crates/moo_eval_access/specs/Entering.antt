-- How a call enters a verb.
use Rattle.std.specs.Prelude.{ℕ, suc, ℤ, List, codes, Option, None, Some, Result, Ok, Err, Bool, nat_lt, is_some, if◌then◌else◌}
use Rattle.std.specs.Option.{unwrap_or, option_map, option_and_then}
use Rattle.moo_value.specs.declared.error_code.ErrorCode.{ErrorCode}
use Rattle.moo_value.specs.declared.error_code.ErrorCode.TheVariants.{TypeMismatch, InvalidIndirection, VerbNotFound, MaximumRecursion}
use Rattle.moo_value.specs.Tree.{Tree, integer, object, error, string, list}
use Rattle.moo_syntax_ast.specs.Tree.{no_statement}
use Rattle.moo_builtin_operator.specs.Places.{made_list}
use Rattle.moo_world_object.specs.declared.verb.Verb.{Verb}
use Rattle.moo_world_object.specs.declared.verb.Need.TheVariants as need
use Rattle.moo_world_table.specs.World.{World}
use Rattle.moo_world_table.specs.Verbs.{verb_found}
use Rattle.moo_world.specs.Calls.{number_of}
use Rattle.moo_world.specs.VerbCalls.{verb_place, verb_there}
use Rattle.moo_world.specs.Numbered.{object_numbered}
use Rattle.moo_world.specs.Rights.{is_wizard}
use Rattle.moo_eval_frame.specs.Variables.{called_variables}
use Rattle.moo_eval_frame.specs.State.{Context, entries}
use Rattle.moo_eval_frame.specs.Outcome.{or_error}
use Rattle.moo_eval_frame.specs.declared.frame.Frame.{Frame}
use Rattle.moo_eval_frame.specs.declared.frame.Running.{Running}
use Rattle.moo_eval_frame.specs.declared.frame.TraceEntry.{TraceEntry}
use Rattle.moo_eval_frame.specs.Frames.{frame_count}
use Rattle.moo_eval_access.specs.declared.entering.Call.{Call}

-- what a called verb begins with
pub record Entered : Type 0 where
  pub context : Context
  -- by their folded names
  pub variables : List ℕ → Option Tree
  pub programmer : ℤ

-- the first verb that matches, of those that can be executed
abbrev pub called_verb : World → ℤ → List ℕ → Option (ℤ × Verb)
called_verb w o name =
    option_and_then (verb_there w) (option_map verb_place (option_and_then (verb_found w need.Call name) (number_of w.objects o)))

-- the verb that a call on an object runs, and the object that has it
abbrev pub found_verb : World → ℤ → List ℕ → Result (ℤ × Verb) ErrorCode
found_verb w o name = if is_some (object_numbered w o) then or_error (called_verb w o name) VerbNotFound else Err InvalidIndirection

-- how many frames there are, the running one among them
abbrev pub frames : List TraceEntry → ℕ
frames callers = suc (frame_count callers)

abbrev pub most_frames : ℕ
most_frames = 50

-- a frame is left for what is called next
abbrev pub has_frame_left : List TraceEntry → Bool
has_frame_left callers = nat_lt (frames callers) most_frames

-- the object that a variable holds, or the other one if it holds none
abbrev pub object_or : ℤ → Option Tree → ℤ
object_or other None = other
object_or other (Some (integer i)) = other
object_or other (Some (object o)) = o
object_or other (Some (error code)) = other
object_or other (Some (string text)) = other
object_or other (Some (list es)) = other

-- the player of a called verb: that of the caller's frame, or what its variable holds if a wizard calls
abbrev pub player_of_call : World → Running → (List ℕ → Option Tree) → ℤ → ℤ
player_of_call w f variables programmer = if is_wizard w programmer then object_or f.player (variables (codes "player")) else f.player

-- The frame of a verb, with the object that has it: its owner is the programmer, and it has the d bit of its verb. A
-- verb without a program runs as one with an empty program.
abbrev pub verb_frame : ℤ × Verb → Call → Frame
verb_frame found call = record {
  program = unwrap_or found.1.program no_statement;
  d = found.1.perms.debug;
  programmer = found.1.owner;
  this = call.this;
  definer = found.0;
  caller = call.caller;
  player = call.player;
  dobj = call.dobj;
  iobj = call.iobj;
  names = found.1.names;
  verb = call.verb;
  argstr = call.argstr;
  dobjstr = call.dobjstr;
  prepstr = call.prepstr;
  iobjstr = call.iobjstr;
  args = call.args;
}

-- what is fixed while a verb runs that is called on an object by a name, with the object that has it
abbrev pub called_frame : ℤ × Verb → ℤ → ℤ → List ℕ → Running
called_frame found this player name = record {
  program = unwrap_or found.1.program no_statement;
  d = found.1.perms.debug;
  programmer = found.1.owner;
  this = this;
  definer = found.0;
  player = player;
  names = found.1.names;
  verb = name;
}

-- a frame that is entered from a context, with these arguments
abbrev pub entered : Context → (List ℕ → Option Tree) → ℤ → List Tree → Running → Entered
entered c variables programmer vs f = record {
  context = record { frame = f; callers = entries c.frame programmer c.callers; indexed = None; surroundings = c.surroundings };
  variables = called_variables f c.frame.this vs variables;
  programmer = f.programmer;
}

-- a verb that was found is entered if a frame is left for it
abbrev pub entered_found : World → Context → (List ℕ → Option Tree) → ℤ → ℤ → List ℕ → List Tree → Result (ℤ × Verb) ErrorCode → Result Entered ErrorCode
entered_found w c variables programmer this name vs (Err code) = Err code
entered_found w c variables programmer this name vs (Ok found) =
    if has_frame_left c.callers
    then Ok (entered c variables programmer vs (called_frame found this (player_of_call w c.frame variables programmer) name))
    else Err MaximumRecursion

abbrev pub entered_by : World → Context → (List ℕ → Option Tree) → ℤ → Tree → Tree → List Tree → Result Entered ErrorCode
entered_by w c variables programmer (object this) (string name) vs = entered_found w c variables programmer this name vs (found_verb w this name)
entered_by w c variables programmer _ _ vs = Err TypeMismatch

-- the list of the arguments comes first
abbrev pub after_list : {A : Type 0} → Result Tree ErrorCode → Result A ErrorCode → Result A ErrorCode
after_list (Ok args) r = r
after_list (Err code) r = Err code

-- What a call of a verb begins with. Its arguments have to be a list within the limits. The object has to be valid and
-- to have an executable verb of that name, and a frame has to be left.
abbrev pub entered_verb : World → Context → (List ℕ → Option Tree) → ℤ → Tree → Tree → List Tree → Result Entered ErrorCode
entered_verb w c variables programmer base name vs = after_list (made_list vs) (entered_by w c variables programmer base name vs)

-- the entered verb of a name that is found from one object on, and runs on another
abbrev pub entered_from : World → Context → (List ℕ → Option Tree) → ℤ → ℤ → ℤ → List ℕ → List Tree → Result Entered ErrorCode
entered_from w c variables programmer this from name vs = after_list (made_list vs) (entered_found w c variables programmer this name vs (found_verb w from name))
