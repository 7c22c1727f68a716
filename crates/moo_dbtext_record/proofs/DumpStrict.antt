-- If a size of a text exceeds its limit, the line is right but for that limit.
use Rattle.std.proofs.Common.{ℕ, zero, suc, ℤ, pos, negsuc, Bool, true, false, cond, leb, [], ◌∷◌, ◌++◌, length, ◌≢◌, Option, Some, None, Result, Ok, Err}
use Rattle.std.specs.Prelude.{codes}
use Rattle.std.specs.Str.{bytes_eq}
use Rattle.moo_dbtext_object.specs.declared.fault.LineFault.{LineFault}
use Rattle.moo_dbtext_object.specs.declared.fault.LineFault.TheVariants.{BadHeader, BadNumber, BadObjectLine, BadProgramLine, BadConnections, Version, TrailingBytes, TooLarge}
use Rattle.moo_dbtext_object.specs.Lines.{Line, ◌>>=◌, unlimited, limited, number_of, count_of, most_records, bounded_count_of, text_of}
use Rattle.moo_dbtext_object.proofs.Cutting.{text_cut, bounded_count_cut}
use Rattle.moo_dbtext_object.proofs.Strictness.{NeverLarge, Strict, never_then, strict_on, strict_then, strict_within, number_never, text_strict, bounded_count_strict}
use Rattle.moo_dbtext_object.specs.ObjectReading.{object_line}
use Rattle.moo_dbtext_object.proofs.ObjectCut.{object_cut}
use Rattle.moo_dbtext_object.proofs.ObjectStrict.{object_strict}
use Rattle.moo_dbtext_record.specs.Programs.{Table, is_open}
use Rattle.moo_dbtext_record.specs.Texts.{Link, header_front, live_line, recycled_line}
use Rattle.moo_dbtext_record.specs.Headings.{told_as, parts_of, following, count_or, number_or, is_read, known_version, version_in, version_after, version_of, head_of, verb_in, verb_after, verb_named, open_verb, program_head_of, no_tasks, tasks_in, tasks_of, form_of, connections_in, connection_count_of, pair_in, connection_of}
use Rattle.moo_dbtext_record.specs.DumpReading.{Progress, after_players, after_connections, after_object_line, after_source, dump_step}
use Rattle.moo_dbtext_record.specs.declared.dump.Form.{Form}
use Rattle.moo_dbtext_record.specs.declared.dump.Form.TheVariants as form
use Rattle.moo_dbtext_record.specs.declared.dump_reader.Section.{Section}
use Rattle.moo_dbtext_record.specs.declared.dump_reader.Section.TheVariants as section
use Rattle.moo_dbtext_record.proofs.DumpCut.{connection_count_cut}

-- ---- what has no limit

chosen : {A : Type 0} (b : Bool) (x : A) (f : LineFault) → f ≢ TooLarge → NeverLarge (cond b (Ok x) (Err f))
chosen true x f h = tt
chosen false x f h = h

told_never : {A : Type 0} (f : LineFault) (r : Result A LineFault) → f ≢ TooLarge → NeverLarge (told_as f r)
told_never f (Ok x) h = tt
told_never f (Err e) h = h

count_or_never : (f : LineFault) (line : Line) → f ≢ TooLarge → NeverLarge (count_or f line)
unfolding count_or
count_or_never f line h = told_never f (count_of line) h

number_or_never : (f : LineFault) (line : Line) → f ≢ TooLarge → NeverLarge (number_or f line)
unfolding number_or
number_or_never f line h = told_never f (number_of line) h

no_header : BadHeader ≢ TooLarge
no_header e = cc

no_program_line : BadProgramLine ≢ TooLarge
no_program_line e = cc

no_connections : BadConnections ≢ TooLarge
no_connections e = cc

version_never : (line : Line) → NeverLarge (version_of line)
unfolding version_of
version_never line = after_never (following header_front line)
  where
    known_never : (v : ℕ) → NeverLarge (known_version v)
    known_never v = chosen (is_read v) v (Version v) (λ e. cc)

    ended_never : (v : ℕ) (b : Bool) → NeverLarge (cond b (known_version v) (Err BadHeader))
    ended_never v true = known_never v
    ended_never v false = no_header

    in_never : (o : Option (Line × Line)) → NeverLarge (version_in o)
    in_never None = no_header
    in_never (Some p) = never_then (count_or BadHeader p.0) (λ v. cond (bytes_eq p.1 (codes "**")) (known_version v) (Err BadHeader)) (count_or_never BadHeader p.0 no_header) (λ v. ended_never v (bytes_eq p.1 (codes "**")))

    after_never : (o : Option Line) → NeverLarge (version_after o)
    after_never None = no_header
    after_never (Some rest) = in_never (parts_of 32 rest)

head_never : (n : ℕ) (line : Line) → NeverLarge (head_of n line)
unfolding head_of
head_never n line = decide (bytes_eq line (live_line n)) (bytes_eq line (recycled_line n))
  where
    decide : (a b : Bool) → NeverLarge (cond a (Ok true) (cond b (Ok false) (Err BadObjectLine)))
    decide true b = tt
    decide false true = tt
    decide false false = λ e. cc

program_head_never : (table : Table) (line : Line) → NeverLarge (program_head_of table line)
unfolding program_head_of verb_named
program_head_never table line = never_then (verb_after (following (codes "#") line)) (open_verb table) (after_never (following (codes "#") line)) (λ p. chosen (is_open p.0 p.1 table) p BadProgramLine no_program_line)
  where
    in_never : (o : Option (Line × Line)) → NeverLarge (verb_in o)
    in_never None = no_program_line
    in_never (Some p) =
        never_then (count_or BadProgramLine p.0) (λ o. count_or BadProgramLine p.1 >>= λ v. Ok (o, v)) (count_or_never BadProgramLine p.0 no_program_line)
        (λ o. never_then (count_or BadProgramLine p.1) (λ v. Ok (o, v)) (count_or_never BadProgramLine p.1 no_program_line) (λ v. tt))

    after_never : (o : Option Line) → NeverLarge (verb_after o)
    after_never None = no_program_line
    after_never (Some rest) = in_never (parts_of 58 rest)

tasks_never : (words line : Line) → NeverLarge (tasks_of words line)
unfolding tasks_of
tasks_never words line = in_never (parts_of 32 line)
  where
    none_never : (z : ℤ) → NeverLarge (no_tasks z)
    none_never (pos zero) = tt
    none_never (pos (suc n)) = λ e. cc
    none_never (negsuc n) = λ e. cc

    worded : (z : ℤ) (b : Bool) → NeverLarge (cond b (no_tasks z) (Err BadNumber))
    worded z true = none_never z
    worded z false = λ e. cc

    in_never : (o : Option (Line × Line)) → NeverLarge (tasks_in words o)
    in_never None = λ e. cc
    in_never (Some p) = never_then (number_of p.0) (λ z. cond (bytes_eq p.1 words) (no_tasks z) (Err BadNumber)) (number_never p.0) (λ z. worded z (bytes_eq p.1 words))

form_never : (rest : Line) → NeverLarge (form_of rest)
form_never rest = decide (bytes_eq rest (codes "active connections")) (bytes_eq rest (codes "active connections with listeners"))
  where
    decide : (a b : Bool) → NeverLarge (cond a (Ok form.Plain) (cond b (Ok form.WithListeners) (Err BadConnections)))
    decide true b = tt
    decide false true = tt
    decide false false = no_connections

abbrev link : ℤ → Option ℤ → Link
link who listener = record { who = who; listener = listener }

connection_never : (f : Form) (line : Line) → NeverLarge (connection_of f line)
unfolding connection_of
connection_never form.Absent line = never_then (number_or BadConnections line) (λ who. Ok (link who None)) (number_or_never BadConnections line no_connections) (λ who. tt)
connection_never form.Plain line = never_then (number_or BadConnections line) (λ who. Ok (link who None)) (number_or_never BadConnections line no_connections) (λ who. tt)
connection_never form.WithListeners line = pair_never (parts_of 32 line)
  where
    pair_never : (o : Option (Line × Line)) → NeverLarge (pair_in o)
    pair_never None = no_connections
    pair_never (Some p) =
        never_then (number_or BadConnections p.0) (λ who. number_or BadConnections p.1 >>= λ listener. Ok (link who (Some listener))) (number_or_never BadConnections p.0 no_connections)
        (λ who. never_then (number_or BadConnections p.1) (λ listener. Ok (link who (Some listener))) (number_or_never BadConnections p.1 no_connections) (λ listener. tt))

-- ---- the steps

plain : {A B : Type 0} (r : Result A LineFault) (f : A → B) → NeverLarge r → Strict (r >>= λ x. Ok (f x)) (r >>= λ x. Ok (f x))
plain (Ok x) f h = tt
plain (Err e) f h = λ large. absurd (h large)

count_then : {B : Type 0} (line : Line) (f : ℕ → B) → Strict (bounded_count_of limited line >>= λ x. Ok (f x)) (bounded_count_of unlimited line >>= λ x. Ok (f x))
count_then line f = strict_then (bounded_count_of limited line) (bounded_count_of unlimited line) (λ x. Ok (f x)) (λ x. Ok (f x)) (bounded_count_cut line) (bounded_count_strict line) (λ x. tt) (λ x. tt)

abbrev counted : Form → ℕ → Form × ℕ
counted f n = (f, n)

connection_count_strict : (line : Line) → Strict (connection_count_of limited line) (connection_count_of unlimited line)
unfolding connection_count_of
connection_count_strict line = in_strict (parts_of 32 line)
  where
    in_strict : (o : Option (Line × Line)) → Strict (connections_in limited o) (connections_in unlimited o)
    in_strict None = λ e. absurd (no_connections e)
    in_strict (Some p) =
        strict_on (count_or BadConnections p.0) _ _ (count_or_never BadConnections p.0 no_connections)
        (λ n. strict_on (form_of p.1) _ _ (form_never p.1) (λ f. strict_within (leb n most_records) (counted f n)))

pub dump_strict : (x : Section) (p : Progress) (line : Line) → Strict (dump_step limited x p line) (dump_step unlimited x p line)
unfolding dump_step
dump_strict section.Header p line = plain (version_of line) _ (version_never line)
dump_strict section.ObjectCount p line = count_then line (λ n. record p { section = section.ProgramCount; objects_left = n })
dump_strict section.ProgramCount p line = count_then line (λ n. record p { section = section.Unused; programs_left = n })
dump_strict section.Unused p line = plain (number_of line) _ (number_never line)
dump_strict section.PlayerCount p line = count_then line (λ n. after_players p p.text n)
dump_strict section.Player p line = plain (number_of line) _ (number_never line)
dump_strict section.Head p line = plain (head_of (length p.text.objects) line) _ (head_never (length p.text.objects) line)
dump_strict section.Object p line =
    strict_then (object_line limited p.draft line) (object_line unlimited p.draft line) (λ r. Ok (after_object_line p r)) (λ r. Ok (after_object_line p r))
    (object_cut p.draft.awaited p.draft line) (object_strict p.draft.awaited p.draft line) (λ r. tt) (λ r. tt)
dump_strict section.ProgramHead p line = plain (program_head_of p.text.programs line) _ (program_head_never p.text.programs line)
dump_strict section.Source p line = decide (bytes_eq line (codes "."))
  where
    next : Line → Result Progress LineFault
    next x = Ok (record p { section = section.Source; source = p.source ++ x ∷ [] })

    decide : (b : Bool) → Strict (cond b (Ok (after_source p)) (text_of limited line >>= next)) (cond b (Ok (after_source p)) (text_of unlimited line >>= next))
    decide true = tt
    decide false = strict_then (text_of limited line) (text_of unlimited line) next next (text_cut line) (text_strict line) (λ x. tt) (λ x. tt)
dump_strict section.Clocks p line = plain (tasks_of (codes "clocks") line) _ (tasks_never (codes "clocks") line)
dump_strict section.Queued p line = plain (tasks_of (codes "queued tasks") line) _ (tasks_never (codes "queued tasks") line)
dump_strict section.Suspended p line = plain (tasks_of (codes "suspended tasks") line) _ (tasks_never (codes "suspended tasks") line)
dump_strict section.ConnectionCount p line =
    strict_then (connection_count_of limited line) (connection_count_of unlimited line) (λ c. Ok (after_connections p (record p.text { form = c.0 }) c.1)) (λ c. Ok (after_connections p (record p.text { form = c.0 }) c.1))
    (connection_count_cut line) (connection_count_strict line) (λ c. tt) (λ c. tt)
dump_strict section.Connection p line = plain (connection_of p.text.form line) _ (connection_never p.text.form line)
dump_strict section.End p line = λ e. absurd (ended e)
  where
    ended : TrailingBytes ≢ TooLarge
    ended e = cc
