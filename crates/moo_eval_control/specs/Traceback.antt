-- The lines of a traceback: the error and its frames.
use Rattle.std.specs.Prelude.{ℕ, List, [], ◌∷◌, ◌++◌, codes, map, if◌then◌else◌}
use Rattle.std.specs.Ordering.{int_eq}
use Rattle.std.specs.declared.vec.Vec.{Vec}
use Rattle.std.specs.declared.alloc.Global.{Global}
use Rattle.moo_value.specs.Tree.{object}
use Rattle.moo_value.specs.Text.{literal}
use Rattle.moo_eval_frame.specs.declared.frame.TraceFrame.{TraceFrame}
use Rattle.moo_eval_frame.specs.declared.frame.TraceEntry.{TraceEntry}
use Rattle.moo_eval_frame.specs.declared.frame.TraceEntry.TheVariants.{Verb, BuiltIn}

-- the object, if it isn't the one that has the verb
abbrev pub this_text : TraceFrame → List ℕ
this_text f = if int_eq f.this f.definer then [] else codes " (this == " ++ literal (object f.this) ++ codes ")"

-- `#D:NAME`
abbrev pub frame_text : TraceFrame → List ℕ
frame_text f = literal (object f.definer) ++ codes ":" ++ f.names ++ this_text f

abbrev pub entry_text : TraceEntry → List ℕ
entry_text (Verb frame) = frame_text frame
entry_text (BuiltIn name) = codes "built-in function " ++ name ++ codes "()"

abbrev pub caller_line : TraceEntry → List ℕ
caller_line entry = codes "... called from " ++ entry_text entry

-- the first entry with the text, then each that it was called from
abbrev pub entry_lines : List ℕ → List TraceEntry → List (List ℕ)
entry_lines text [] = []
entry_lines text (entry ∷ callers) = (entry_text entry ++ codes ":  " ++ text) ∷ map caller_line callers

abbrev pub traceback : List ℕ → List TraceEntry → List (List ℕ)
traceback text trace = entry_lines text trace ++ codes "(End of traceback)" ∷ []

-- the bytes of several lines
abbrev pub texts : List (Vec ℕ Global) → List (List ℕ)
texts lines = map (λ line. line.items) lines
