-- The written form of a text: fields that are not kept are written in one way.
use Rattle.std.specs.Prelude.{ℕ, pos, ◌+◌, List, [], ◌∷◌, ◌++◌, Option, Some, None}
use Rattle.moo_dbtext_object.specs.Lines.{Line, Sizes}
use Rattle.moo_dbtext_record.specs.Programs.{Row, Table, Program}
use Rattle.moo_dbtext_record.specs.Texts.{Text, Slack, text_lines, IsWritten}

-- the program of a verb, if it has one
abbrev pub verb_programs : ℕ → ℕ → Option (List Line) → List Program
verb_programs o v None = []
verb_programs o v (Some s) = record { object = o; verb = v; source = s } ∷ []

-- the programs of the verbs of object o from verb v on
abbrev pub row_programs : ℕ → ℕ → Row → List Program
row_programs o v [] = []
row_programs o v (p ∷ row) = verb_programs o v p ++ row_programs o (v + 1) row

-- the programs of the objects from number o on, in rising order of object and verb
abbrev pub table_programs : ℕ → Table → List Program
table_programs o [] = []
table_programs o (row ∷ table) = row_programs o 0 row ++ table_programs (o + 1) table

-- every string that is not kept is empty
abbrev pub no_notes : ℕ → Line
no_notes n = []

abbrev pub canonical : Table → Slack
canonical table = record { unused = pos 0; notes = no_notes; programs = table_programs 0 table }

-- the lines that the writer gives a text
abbrev pub canonical_lines : Text → List Line
canonical_lines t = text_lines t (canonical t.programs)

-- what has such lines: with size limits, or without
abbrev pub IsWritable : Sizes → Text → Type 0
IsWritable s t = IsWritten s t (canonical t.programs)
