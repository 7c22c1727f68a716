-- What a verb gets that a player's command runs.
use Rattle.std.specs.Prelude.{ℤ}
use Rattle.moo_world_object.specs.declared.verb.Verb.{Verb}
use Rattle.moo_eval_frame.specs.declared.frame.Frame.{Frame}
use Rattle.moo_eval_access.specs.declared.entering.Call.{Call}
use Rattle.moo_eval_access.specs.Entering.{verb_frame}
use Rattle.moo_session_task.specs.WordList.{strings_of}
use Rattle.moo_command.specs.Commands.{Command}

-- `this` is the object that was looked on, the caller is the player, the arguments are the words after the first
abbrev pub command_call : (this : ℤ) → (player : ℤ) → Command → Call
command_call this player c = record {
  this = this;
  caller = player;
  player = player;
  dobj = c.dobj;
  iobj = c.iobj;
  verb = c.verb;
  argstr = c.argstr;
  dobjstr = c.dobjstr;
  prepstr = c.prepstr;
  iobjstr = c.iobjstr;
  args = strings_of c.args;
}

abbrev pub command_frame : ℤ × Verb → (this : ℤ) → (player : ℤ) → Command → Frame
command_frame found this player c = verb_frame found (command_call this player c)
