-- The frames of the verbs that the server itself calls.
use Rattle.std.specs.Prelude.{ℕ, ℤ, pos, negsuc, List, [], Option}
use Rattle.moo_value.specs.Tree.{Tree}
use Rattle.moo_world_object.specs.declared.verb.Verb.{Verb}
use Rattle.moo_world_table.specs.World.{World}
use Rattle.moo_eval_frame.specs.declared.frame.Frame.{Frame}
use Rattle.moo_eval_access.specs.declared.entering.Call.{Call}
use Rattle.moo_eval_access.specs.Entering.{called_verb, verb_frame}

-- #-1, no object
abbrev pub nobody : ℤ
nobody = negsuc 0

-- what a verb of #0 gets that the server itself calls; the texts that it doesn't get are empty
abbrev pub server_call : List ℕ → ℤ → List Tree → List ℕ → Call
server_call name player args argstr = record {
  this = pos 0;
  caller = nobody;
  player = player;
  dobj = nobody;
  iobj = nobody;
  verb = name;
  argstr = argstr;
  dobjstr = [];
  prepstr = [];
  iobjstr = [];
  args = args;
}

abbrev pub server_frame : ℤ × Verb → List ℕ → ℤ → List Tree → List ℕ → Frame
server_frame found name player args argstr = verb_frame found (server_call name player args argstr)

-- the verb of #0 that is called by this name, if there is one that can be executed
abbrev pub server_verb : World → List ℕ → Option (ℤ × Verb)
server_verb w name = called_verb w (pos 0) name
