-- Lines that are more than one number or string.
use Rattle.std.specs.Prelude.{ℕ, ℤ, pos, negsuc, zero, suc, ◌==◌, ◌&&◌, nat_le, Bool, true, false, [], ◌∷◌, length, take, drop, codes, Option, Some, None, option_map, Result, Ok, Err, if◌then◌else◌}
use Rattle.std.specs.Str.{bytes_eq}
use Rattle.moo_dbtext_object.specs.Lines.{Line, ◌>>=◌, Sizes, within, most_records, number_of, count_of}
use Rattle.moo_dbtext_object.specs.declared.fault.LineFault.{LineFault}
use Rattle.moo_dbtext_object.specs.declared.fault.LineFault.TheVariants.{BadHeader, Version, BadNumber, BadObjectLine, BadProgramLine, PendingTasks, BadConnections}
use Rattle.moo_dbtext_record.specs.Programs.{Table, is_open}
use Rattle.moo_dbtext_record.specs.Texts.{Link, header_front, live_line, recycled_line}
use Rattle.moo_dbtext_record.specs.declared.dump.Form.{Form}
use Rattle.moo_dbtext_record.specs.declared.dump.Form.TheVariants as form

-- the parts before and after the first byte of a kind
abbrev pub before : ℕ → Option (Line × Line) → Option (Line × Line)
before b rest = option_map (λ p. (b ∷ p.0, p.1)) rest

unfoldable pub parts_of : ℕ → Line → Option (Line × Line)
parts_of at [] = None
parts_of at (b ∷ bs) = if b == at then Some ([], bs) else before b (parts_of at bs)

-- what follows a prefix
unfoldable pub following : Line → Line → Option Line
following front line = if bytes_eq (take (length front) line) front then Some (drop (length front) line) else None

-- any fault, reported as this one
abbrev pub told_as : {A : Type 0} → LineFault → Result A LineFault → Result A LineFault
told_as fault (Ok x) = Ok x
told_as fault (Err f) = Err fault

unfoldable pub count_or : LineFault → Line → Result ℕ LineFault
count_or fault line = told_as fault (count_of line)

unfoldable pub number_or : LineFault → Line → Result ℤ LineFault
number_or fault line = told_as fault (number_of line)

-- ---- the header

abbrev pub is_read : ℕ → Bool
is_read v = nat_le 1 v && nat_le v 4

abbrev pub known_version : ℕ → Result ℕ LineFault
known_version v = if is_read v then Ok v else Err (Version v)

abbrev pub version_in : Option (Line × Line) → Result ℕ LineFault
version_in None = Err BadHeader
version_in (Some p) = count_or BadHeader p.0 >>= λ v. if bytes_eq p.1 (codes "**") then known_version v else Err BadHeader

abbrev pub version_after : Option Line → Result ℕ LineFault
version_after None = Err BadHeader
version_after (Some rest) = version_in (parts_of 32 rest)

unfoldable pub version_of : Line → Result ℕ LineFault
version_of line = version_after (following header_front line)

-- ---- objects and programs

-- whether the header of object n says that it exists
unfoldable pub head_of : ℕ → Line → Result Bool LineFault
head_of n line =
    if bytes_eq line (live_line n) then Ok true else (if bytes_eq line (recycled_line n) then Ok false else Err BadObjectLine)

abbrev pub verb_in : Option (Line × Line) → Result (ℕ × ℕ) LineFault
verb_in None = Err BadProgramLine
verb_in (Some p) = count_or BadProgramLine p.0 >>= λ o. count_or BadProgramLine p.1 >>= λ v. Ok (o, v)

abbrev pub verb_after : Option Line → Result (ℕ × ℕ) LineFault
verb_after None = Err BadProgramLine
verb_after (Some rest) = verb_in (parts_of 58 rest)

unfoldable pub verb_named : Line → Result (ℕ × ℕ) LineFault
verb_named line = verb_after (following (codes "#") line)

abbrev pub open_verb : Table → ℕ × ℕ → Result (ℕ × ℕ) LineFault
open_verb table p = if is_open p.0 p.1 table then Ok p else Err BadProgramLine

-- the verb of a program
unfoldable pub program_head_of : Table → Line → Result (ℕ × ℕ) LineFault
program_head_of table line = verb_named line >>= open_verb table

-- ---- the tasks

-- there are no tasks
abbrev pub no_tasks : ℤ → Result (Unit {0}) LineFault
no_tasks (pos zero) = Ok tt
no_tasks (pos (suc n)) = Err PendingTasks
no_tasks (negsuc n) = Err PendingTasks

abbrev pub tasks_in : Line → Option (Line × Line) → Result (Unit {0}) LineFault
tasks_in words None = Err BadNumber
tasks_in words (Some p) = number_of p.0 >>= λ z. if bytes_eq p.1 words then no_tasks z else Err BadNumber

unfoldable pub tasks_of : Line → Line → Result (Unit {0}) LineFault
tasks_of words line = tasks_in words (parts_of 32 line)

-- ---- the connections

abbrev pub form_of : Line → Result Form LineFault
form_of rest =
    if bytes_eq rest (codes "active connections") then Ok form.Plain else
    (if bytes_eq rest (codes "active connections with listeners") then Ok form.WithListeners else Err BadConnections)

abbrev pub connections_in : Sizes → Option (Line × Line) → Result (Form × ℕ) LineFault
connections_in s None = Err BadConnections
connections_in s (Some p) = count_or BadConnections p.0 >>= λ n. form_of p.1 >>= λ f. within s (nat_le n most_records) (f, n)

unfoldable pub connection_count_of : Sizes → Line → Result (Form × ℕ) LineFault
connection_count_of s line = connections_in s (parts_of 32 line)

abbrev pub pair_in : Option (Line × Line) → Result Link LineFault
pair_in None = Err BadConnections
pair_in (Some p) = number_or BadConnections p.0 >>= λ who. number_or BadConnections p.1 >>= λ listener. Ok (record { who = who; listener = Some listener })

unfoldable pub connection_of : Form → Line → Result Link LineFault
connection_of form.Absent line = number_or BadConnections line >>= λ who. Ok (record { who = who; listener = None })
connection_of form.Plain line = number_or BadConnections line >>= λ who. Ok (record { who = who; listener = None })
connection_of form.WithListeners line = pair_in (parts_of 32 line)
