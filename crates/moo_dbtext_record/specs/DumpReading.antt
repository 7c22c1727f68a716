-- Reading a whole text line by line.
use Rattle.std.specs.Prelude.{ℕ, zero, suc, Bool, true, false, nat_lt, List, [], ◌∷◌, ◌++◌, length, codes, Option, Some, None, Result, Ok, Err, if◌then◌else◌}
use Rattle.std.specs.Str.{bytes_eq}
use Rattle.moo_dbtext_object.specs.Lines.{Line, ◌>>=◌, Sizes, number_of, bounded_count_of, text_of}
use Rattle.moo_dbtext_object.specs.declared.fault.LineFault.{LineFault}
use Rattle.moo_dbtext_object.specs.declared.fault.LineFault.TheVariants.{TrailingBytes, Truncated}
use Rattle.moo_dbtext_object.specs.Objects.{Object}
use Rattle.moo_dbtext_object.specs.ObjectReading.{Draft, draft_of, fresh_draft, object_line}
use Rattle.moo_dbtext_record.specs.Programs.{blank_entry, with_source}
use Rattle.moo_dbtext_record.specs.Texts.{Text, text_of as text_of_dump}
use Rattle.moo_dbtext_record.specs.Headings.{version_of, head_of, program_head_of, tasks_of, connection_count_of, connection_of}
use Rattle.moo_dbtext_record.specs.declared.dump.Form.TheVariants as form
use Rattle.moo_dbtext_record.specs.declared.dump_reader.Section.{Section}
use Rattle.moo_dbtext_record.specs.declared.dump_reader.Section.TheVariants as section
use Rattle.moo_dbtext_record.specs.declared.dump_reader.DumpReader.{DumpReader}

-- A text that is being read: what the next line holds, what has been read, how many players or connections, objects
-- and programs follow the one that is being read, and what was read of that one.
pub record Progress : Type 0 where
  pub section : Section
  pub text : Text
  pub left : ℕ
  pub objects_left : ℕ
  pub programs_left : ℕ
  pub draft : Draft
  pub object : ℕ
  pub verb : ℕ
  pub source : List Line

abbrev pub progress_of : DumpReader → Progress
progress_of r = record {
  section = r.section;
  text = text_of_dump r.dump;
  left = r.left;
  objects_left = r.objects_left;
  programs_left = r.programs_left;
  draft = draft_of r.object;
  object = r.program_object;
  verb = r.program_verb;
  source = r.source.items;
}

-- the verb whose program's lines are being read
abbrev pub verb_read : Section → Progress → Option (ℕ × ℕ)
verb_read section.Source p = Some (p.object, p.verb)
verb_read section.Header p = None
verb_read section.ObjectCount p = None
verb_read section.ProgramCount p = None
verb_read section.Unused p = None
verb_read section.PlayerCount p = None
verb_read section.Player p = None
verb_read section.Head p = None
verb_read section.Object p = None
verb_read section.ProgramHead p = None
verb_read section.Clocks p = None
verb_read section.Queued p = None
verb_read section.Suspended p = None
verb_read section.ConnectionCount p = None
verb_read section.Connection p = None
verb_read section.End p = None

-- n programs, objects, players or connections are still to come
abbrev pub after_programs : Progress → Text → ℕ → Progress
after_programs p t zero = record p { section = section.Clocks; text = t }
after_programs p t (suc n) = record p { section = section.ProgramHead; text = t; programs_left = n }

abbrev pub after_objects : Progress → Text → ℕ → Progress
after_objects p t zero = after_programs p t p.programs_left
after_objects p t (suc n) = record p { section = section.Head; text = t; objects_left = n }

abbrev pub after_players : Progress → Text → ℕ → Progress
after_players p t zero = after_objects p t p.objects_left
after_players p t (suc n) = record p { section = section.Player; text = t; left = n }

abbrev pub after_connections : Progress → Text → ℕ → Progress
after_connections p t zero = record p { section = section.End; text = t }
after_connections p t (suc n) = record p { section = section.Connection; text = t; left = n }

-- with one object more, none of whose verbs has a program
abbrev pub with_object : Text → Option Object → Text
with_object t o = record t { objects = t.objects ++ o ∷ []; programs = t.programs ++ blank_entry o ∷ [] }

abbrev pub after_head : Progress → Bool → Progress
after_head p true = record p { section = section.Object }
after_head p false = after_objects p (with_object p.text None) p.objects_left

abbrev pub after_object_line : Progress → Draft × Option Object → Progress
after_object_line p (d, None) = record p { section = section.Object; draft = d }
after_object_line p (d, Some o) = after_objects (record p { draft = d }) (with_object p.text (Some o)) p.objects_left

-- at the dot that ends a program
abbrev pub after_source : Progress → Progress
after_source p = after_programs (record p { source = [] }) (record p.text { programs = with_source p.object p.verb p.source p.text.programs }) p.programs_left

unfoldable pub dump_step : Sizes → Section → Progress → Line → Result Progress LineFault
dump_step s section.Header p line = version_of line >>= λ v. Ok (record p { section = section.ObjectCount; text = record p.text { version = v } })
dump_step s section.ObjectCount p line = bounded_count_of s line >>= λ n. Ok (record p { section = section.ProgramCount; objects_left = n })
dump_step s section.ProgramCount p line = bounded_count_of s line >>= λ n. Ok (record p { section = section.Unused; programs_left = n })
dump_step s section.Unused p line = number_of line >>= λ z. Ok (record p { section = section.PlayerCount })
dump_step s section.PlayerCount p line = bounded_count_of s line >>= λ n. Ok (after_players p p.text n)
dump_step s section.Player p line = number_of line >>= λ z. Ok (after_players p (record p.text { players = p.text.players ++ z ∷ [] }) p.left)
dump_step s section.Head p line = head_of (length p.text.objects) line >>= λ live. Ok (after_head p live)
dump_step s section.Object p line = object_line s p.draft line >>= λ r. Ok (after_object_line p r)
dump_step s section.ProgramHead p line = program_head_of p.text.programs line >>= λ v. Ok (record p { section = section.Source; object = v.0; verb = v.1 })
dump_step s section.Source p line =
    if bytes_eq line (codes ".") then Ok (after_source p) else (text_of s line >>= λ x. Ok (record p { section = section.Source; source = p.source ++ x ∷ [] }))
dump_step s section.Clocks p line = tasks_of (codes "clocks") line >>= λ none. Ok (record p { section = section.Queued })
dump_step s section.Queued p line = tasks_of (codes "queued tasks") line >>= λ none. Ok (record p { section = section.Suspended })
dump_step s section.Suspended p line = tasks_of (codes "suspended tasks") line >>= λ none. Ok (record p { section = section.ConnectionCount })
dump_step s section.ConnectionCount p line = connection_count_of s line >>= λ c. Ok (after_connections p (record p.text { form = c.0 }) c.1)
dump_step s section.Connection p line = connection_of p.text.form line >>= λ l. Ok (after_connections p (record p.text { links = p.text.links ++ l ∷ [] }) p.left)
dump_step s section.End p line = Err TrailingBytes

-- the answer if no line is left
abbrev pub end_of : Section → Text → Result Text LineFault
end_of section.End t = Ok t
end_of section.ConnectionCount t = if nat_lt t.version 4 then Ok t else Err Truncated
end_of section.Header t = Err Truncated
end_of section.ObjectCount t = Err Truncated
end_of section.ProgramCount t = Err Truncated
end_of section.Unused t = Err Truncated
end_of section.PlayerCount t = Err Truncated
end_of section.Player t = Err Truncated
end_of section.Head t = Err Truncated
end_of section.Object t = Err Truncated
end_of section.ProgramHead t = Err Truncated
end_of section.Source t = Err Truncated
end_of section.Clocks t = Err Truncated
end_of section.Queued t = Err Truncated
end_of section.Suspended t = Err Truncated
end_of section.Connection t = Err Truncated

unfoldable pub ended : Progress → Result Text LineFault
ended p = end_of p.section p.text

-- at the beginning
abbrev pub empty_text : Text
empty_text = record { version = 4; players = []; objects = []; programs = []; form = form.Absent; links = [] }

abbrev pub start : Progress
start = record { section = section.Header; text = empty_text; left = 0; objects_left = 0; programs_left = 0; draft = fresh_draft; object = 0; verb = 0; source = [] }

-- line after line
abbrev pub run : Sizes → Progress → List Line → Result Progress LineFault
run s p [] = Ok p
run s p (l ∷ ls) = dump_step s p.section p l >>= λ q. run s q ls
