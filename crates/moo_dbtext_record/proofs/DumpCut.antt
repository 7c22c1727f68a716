-- Limits on sizes change nothing in reading a text but that they refuse.
use Rattle.std.proofs.Common.{ℕ, Bool, true, false, cond, leb, [], ◌∷◌, ◌++◌, Option, Some, None, Result, Ok, inl, refl}
use Rattle.std.specs.Prelude.{codes}
use Rattle.std.specs.Str.{bytes_eq}
use Rattle.moo_dbtext_object.specs.declared.fault.LineFault.{LineFault}
use Rattle.moo_dbtext_object.specs.declared.fault.LineFault.TheVariants.{BadConnections}
use Rattle.moo_dbtext_object.specs.Lines.{Line, ◌>>=◌, unlimited, limited, within, most_records, Cut, bounded_count_of, text_of}
use Rattle.moo_dbtext_object.proofs.Cutting.{cut_same, cut_within, cut_then, cut_on, text_cut, bounded_count_cut}
use Rattle.moo_dbtext_object.specs.ObjectReading.{object_line}
use Rattle.moo_dbtext_object.proofs.ObjectCut.{object_cut}
use Rattle.moo_dbtext_record.specs.Headings.{parts_of, count_or, form_of, connections_in, connection_count_of}
use Rattle.moo_dbtext_record.specs.DumpReading.{Progress, after_players, after_connections, after_object_line, after_source, dump_step}
use Rattle.moo_dbtext_record.specs.declared.dump.Form.{Form}
use Rattle.moo_dbtext_record.specs.declared.dump_reader.Section.{Section}
use Rattle.moo_dbtext_record.specs.declared.dump_reader.Section.TheVariants as section

count_then : {A : Type 0} (line : Line) (f : ℕ → Result A LineFault) → Cut (bounded_count_of limited line >>= f) (bounded_count_of unlimited line >>= f)
count_then line f = cut_then (bounded_count_of limited line) (bounded_count_of unlimited line) f f (bounded_count_cut line) (λ x. cut_same (f x))

abbrev counted : Form → ℕ → Form × ℕ
counted f n = (f, n)

connections_cut : (o : Option (Line × Line)) → Cut (connections_in limited o) (connections_in unlimited o)
connections_cut None = inl refl
connections_cut (Some p) =
    cut_on (count_or BadConnections p.0) (λ n. form_of p.1 >>= λ f. within limited (leb n most_records) (counted f n)) (λ n. form_of p.1 >>= λ f. within unlimited (leb n most_records) (counted f n))
    (λ n. cut_on (form_of p.1) (λ f. within limited (leb n most_records) (counted f n)) (λ f. within unlimited (leb n most_records) (counted f n)) (λ f. cut_within (leb n most_records) (counted f n)))

pub connection_count_cut : (line : Line) → Cut (connection_count_of limited line) (connection_count_of unlimited line)
unfolding connection_count_of
connection_count_cut line = connections_cut (parts_of 32 line)

abbrev read : Progress → Result Progress LineFault
read p = Ok p

pub dump_cut : (x : Section) (p : Progress) (line : Line) → Cut (dump_step limited x p line) (dump_step unlimited x p line)
unfolding dump_step
dump_cut section.Header p line = inl refl
dump_cut section.ObjectCount p line = count_then line (λ n. read (record p { section = section.ProgramCount; objects_left = n }))
dump_cut section.ProgramCount p line = count_then line (λ n. read (record p { section = section.Unused; programs_left = n }))
dump_cut section.Unused p line = inl refl
dump_cut section.PlayerCount p line = count_then line (λ n. read (after_players p p.text n))
dump_cut section.Player p line = inl refl
dump_cut section.Head p line = inl refl
dump_cut section.Object p line =
    cut_then (object_line limited p.draft line) (object_line unlimited p.draft line) (λ r. read (after_object_line p r)) (λ r. read (after_object_line p r)) (object_cut p.draft.awaited p.draft line) (λ r. cut_same (read (after_object_line p r)))
dump_cut section.ProgramHead p line = inl refl
dump_cut section.Source p line = decide (bytes_eq line (codes "."))
  where
    next : Line → Result Progress LineFault
    next x = read (record p { section = section.Source; source = p.source ++ x ∷ [] })

    decide : (b : Bool) → Cut (cond b (read (after_source p)) (text_of limited line >>= next)) (cond b (read (after_source p)) (text_of unlimited line >>= next))
    decide true = inl refl
    decide false = cut_then (text_of limited line) (text_of unlimited line) next next (text_cut line) (λ x. cut_same (next x))
dump_cut section.Clocks p line = inl refl
dump_cut section.Queued p line = inl refl
dump_cut section.Suspended p line = inl refl
dump_cut section.ConnectionCount p line =
    cut_then (connection_count_of limited line) (connection_count_of unlimited line) (λ c. read (after_connections p (record p.text { form = c.0 }) c.1)) (λ c. read (after_connections p (record p.text { form = c.0 }) c.1))
    (connection_count_cut line) (λ c. cut_same (read (after_connections p (record p.text { form = c.0 }) c.1)))
dump_cut section.Connection p line = inl refl
dump_cut section.End p line = inl refl
