-- What the running code was called from.
use Rattle.std.specs.Prelude.{List, [], ◌∷◌}
use Rattle.moo_eval_frame.specs.declared.frame.TraceEntry.{TraceEntry}
use Rattle.moo_eval_frame.specs.declared.frame.TraceEntry.TheVariants as entry
use Rattle.moo_eval_frame.specs.declared.callers.Nearest.{Nearest}
use Rattle.moo_eval_frame.specs.declared.callers.Nearest.TheVariants.{Nothing, Caller, Through}
use Rattle.moo_eval_frame.specs.State.{trace_frame}

-- the nearest, and what it was called from; a function by which it called comes before it
abbrev pub entries_of : Nearest → List TraceEntry
entries_of Nothing = []
entries_of (Caller running programmer callers) = entry.Verb (trace_frame running.now programmer) ∷ callers.now
entries_of (Through function running programmer callers) = entry.BuiltIn function.now ∷ entry.Verb (trace_frame running.now programmer) ∷ callers.now
