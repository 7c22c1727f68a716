-- The frames of verbs among the entries of a trace.
use Rattle.std.specs.Prelude.{ℕ, List, Bool, true, false, count_by}
use Rattle.moo_eval_frame.specs.declared.frame.TraceEntry.{TraceEntry}
use Rattle.moo_eval_frame.specs.declared.frame.TraceEntry.TheVariants as entry

abbrev pub is_frame : TraceEntry → Bool
is_frame (entry.Verb f) = true
is_frame (entry.BuiltIn name) = false

-- how many there are
abbrev pub frame_count : List TraceEntry → ℕ
frame_count entries = count_by is_frame entries
