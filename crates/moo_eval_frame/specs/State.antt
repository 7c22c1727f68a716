-- What the rules of evaluation are given.
use Rattle.std.specs.Prelude.{ℤ, negsuc, List, [], ◌∷◌, Option, Some, None, Result, Err}
use Rattle.moo_value.specs.declared.error_code.ErrorCode.{ErrorCode}
use Rattle.moo_value.specs.declared.error_code.ErrorCode.TheVariants.{TypeMismatch}
use Rattle.moo_value.specs.Tree.{Tree}
use Rattle.moo_builtin_operator.specs.Places.{length_of}
use Rattle.moo_eval_frame.specs.declared.frame.Frame.{Frame}
use Rattle.moo_eval_frame.specs.declared.frame.Running.{Running}
use Rattle.moo_eval_frame.specs.declared.frame.TraceFrame.{TraceFrame}
use Rattle.moo_eval_frame.specs.declared.frame.TraceEntry.{TraceEntry}
use Rattle.moo_eval_frame.specs.declared.frame.TraceEntry.TheVariants as entry
use Rattle.moo_eval_frame.specs.Surroundings.{Surroundings}

-- what stays while a frame runs
pub record Context : Type 0 where
  pub frame : Running
  -- what it was called from, the nearest first
  pub callers : List TraceEntry
  -- the value that `$` measures
  pub indexed : Option Tree
  pub surroundings : Surroundings

-- inside an index or a range of the first of these values
abbrev pub within : Context → List Tree → Context
within c [] = c
within c (v ∷ vs) = record c { indexed = Some v }

-- outside all indexes and ranges
abbrev pub outside : Context → Context
outside c = record c { indexed = None }

-- `$`: the length of what is indexed. Outside an index no program has it.
abbrev pub measured : Option Tree → Result Tree ErrorCode
measured None = Err TypeMismatch
measured (Some v) = length_of v

-- what is fixed while the code of a frame runs
abbrev pub running_of : Frame → Running
running_of f = record {
  program = f.program;
  d = f.d;
  programmer = f.programmer;
  this = f.this;
  definer = f.definer;
  player = f.player;
  names = f.names;
  verb = f.verb;
}

-- the programmer of the nearest frame of a verb, or #-1 if there is none
abbrev pub nearest_programmer : List TraceEntry → ℤ
nearest_programmer [] = negsuc 0
nearest_programmer (entry.Verb f ∷ callers) = f.programmer
nearest_programmer (entry.BuiltIn name ∷ callers) = nearest_programmer callers

-- the data of a frame in a trace
abbrev pub trace_frame : Running → ℤ → TraceFrame
trace_frame f programmer = record {
  this = f.this;
  verb = f.verb;
  programmer = programmer;
  definer = f.definer;
  player = f.player;
  names = f.names;
}

-- from a running frame down to the one that began the task
abbrev pub entries : Running → ℤ → List TraceEntry → List TraceEntry
entries f programmer callers = entry.Verb (trace_frame f programmer) ∷ callers
