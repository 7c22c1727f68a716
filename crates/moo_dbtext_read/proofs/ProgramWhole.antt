-- Consequences of the answer to the bytes of a whole text.
use Rattle.std.proofs.Common.{◌≡◌, ◌≢◌, ℕ, List, ◌++◌, Option, Some, None, Result, Ok, Err, inl, inr, refl, sym, ap, subst, ◌∙◌}
use Rattle.std.specs.Prelude.{IfOk, IfErr, MatchResult}
use Rattle.moo_dbtext_object.specs.Lines.{limited}
use Rattle.moo_dbtext_object.specs.declared.fault.LineFault.{LineFault}
use Rattle.moo_dbtext_object.specs.declared.fault.LineFault.TheVariants as line
use Rattle.moo_dbtext_object.specs.declared.fault.Refusal.{Refusal}
use Rattle.moo_dbtext_object.specs.declared.fault.Refusal.TheVariants as refusal
use Rattle.moo_dbtext_record.specs.Programs.{entry_at}
use Rattle.moo_dbtext_record.specs.Texts.{Text, Spells, SpellsWithin}
use Rattle.moo_dbtext_record.specs.Answer.{StopsAt, answer_to, front_lines, Stand, StandWithoutLimits, IsMemoryOrSize}
use Rattle.moo_dbtext_record.specs.Faults.{kind_of, kind_of_refusal}
use Rattle.moo_dbtext_record.specs.declared.dump.Dump.{Dump}
use Rattle.moo_dbtext_record.specs.declared.record_reader.RecordFault.{RecordFault}
use Rattle.moo_dbtext_record.specs.declared.fault.DbFault.{DbFault}
use Rattle.moo_dbtext_record.specs.declared.fault.DbFaultKind.{DbFaultKind}
use Rattle.moo_dbtext_record.specs.declared.fault.DbFaultKind.TheVariants as kind
use Rattle.moo_dbtext_record.specs.declared.fault.ProgramFault.{ProgramFault}
use Rattle.moo_dbtext_record.specs.declared.fault.ProgramFaultKind.{ProgramFaultKind}
use Rattle.moo_dbtext_record.specs.declared.fault.ProgramFaultKind.TheVariants as program
use Rattle.moo_dbtext_record.proofs.AnswerFound.{answer_found}
use Rattle.moo_dbtext_record.proofs.AnswerLarge.{is_large, is_past}
use Rattle.moo_dbtext_record.proofs.DumpSmall.{answer_spelled}
use Rattle.moo_dbtext_record.proofs.ReadLaws.{one_text, within_limits, is_only, is_within, is_in_place, is_too_large}
use Rattle.moo_dbtext_read.specs.Says.{Says, HasPrograms, HasProgramsWithin}
use Rattle.moo_dbtext_read.specs.Faults.{IsOfLine, IsOfLimits}
use Rattle.moo_dbtext_read.specs.Reading.{IsToldProgram, IsRefused, IsRead, Answers}
use Rattle.moo_dbtext_read.specs.declared.database.Database.{Database}
use Rattle.moo_dbtext_read.proofs.Blame.{blamed_is_none, blamed_is_outside}

-- ---- kinds of faults

told_line : DbFaultKind → Option LineFault
told_line kind.BadHeader = Some line.BadHeader
told_line (kind.Version n) = Some (line.Version n)
told_line kind.BadNumber = Some line.BadNumber
told_line kind.Truncated = Some line.Truncated
told_line kind.BadString = Some line.BadString
told_line kind.FloatValue = Some line.FloatValue
told_line kind.BadType = Some line.BadType
told_line kind.BadObjectLine = Some line.BadObjectLine
told_line (kind.BadHierarchy o) = None
told_line (kind.PropertyCount o) = None
told_line kind.BadProgramLine = Some line.BadProgramLine
told_line (kind.Program o v f) = None
told_line kind.PendingTasks = Some line.PendingTasks
told_line kind.BadConnections = Some line.BadConnections
told_line kind.TrailingBytes = Some line.TrailingBytes
told_line kind.TooLarge = Some line.TooLarge
told_line kind.Memory = None

line_told : (f : LineFault) → told_line (kind_of f) ≡ Some f
unfolding told_line
line_told line.BadHeader = refl
line_told (line.Version n) = refl
line_told line.BadNumber = refl
line_told line.Truncated = refl
line_told line.BadString = refl
line_told line.FloatValue = refl
line_told line.BadType = refl
line_told line.BadObjectLine = refl
line_told line.BadProgramLine = refl
line_told line.PendingTasks = refl
line_told line.BadConnections = refl
line_told line.TrailingBytes = refl
line_told line.TooLarge = refl

no_memory : (k : DbFaultKind) (f : LineFault) → k ≡ kind.Memory → k ≡ kind_of f → ⊥
unfolding told_line
no_memory k f e g = let h : None ≡ Some f = sym (ap told_line e) ∙ ap told_line g ∙ line_told f in cc

no_program : (k : DbFaultKind) (f : LineFault) (o v : ℕ) (x : ProgramFault) → k ≡ kind.Program o v x → k ≡ kind_of f → ⊥
unfolding told_line
no_program k f o v x e g = let h : None ≡ Some f = sym (ap told_line e) ∙ ap told_line g ∙ line_told f in cc

one_line : (f g : LineFault) → kind_of f ≡ kind_of g → f ≡ g
unfolding told_line
one_line f g e = let some : LineFault → Option LineFault = λ x. Some x in let h : some f ≡ some g = sym (line_told f) ∙ ap told_line e ∙ line_told g in cc

-- the refusal that is reported as a line's fault
refusal_is : (r : Refusal) (f : LineFault) → kind_of_refusal r ≡ kind_of f → r ≡ refusal.Fault f
refusal_is refusal.Memory f e = absurd (no_memory (kind_of f) f (sym e) refl)
refusal_is (refusal.Fault g) f e = ap refusal.Fault (one_line g f e)

limits_told : (r : Refusal) → IsMemoryOrSize r → IsOfLimits (kind_of_refusal r)
limits_told refusal.Memory h = inl refl
limits_told (refusal.Fault f) h = inr (inl (ap kind_of h))

too_deep : (o v n : ℕ) (x : ProgramFaultKind) → (x ≢ program.TooDeep → ⊥) → IsOfLimits (kind.Program o v (record { line = n; kind = x }))
too_deep o v n program.TooDeep h = inr (inr (record { object = o; verb = v; line = n; is = refl }))
too_deep o v n program.BadToken h = absurd (h (λ e. cc))
too_deep o v n program.Unexpected h = absurd (h (λ e. cc))
too_deep o v n program.UnknownFunction h = absurd (h (λ e. cc))
too_deep o v n program.BadTarget h = absurd (h (λ e. cc))
too_deep o v n program.BadLoopName h = absurd (h (λ e. cc))

-- ---- what is read

abbrev refused_records : RecordFault → Result Dump RecordFault
refused_records e = Err e

pub is_found : (bytes : List ℕ) (r : Result Database DbFault) → Answers r bytes → IfOk r (λ d. (t : Text) × (SpellsWithin bytes t × Says t d))
is_found bytes (Ok d) h = (h.text, (answer_spelled bytes h.text h.records, h.says))
is_found bytes (Err e) h = tt

ok_says : (bytes : List ℕ) (d : Database) (t : Text) → IsRead bytes d → Spells bytes t → Says t d
ok_says bytes d t h s = subst (λ (u : Text). Says u d) (one_text bytes h.text t (answer_found limited bytes h.text h.records) s) h.says

-- the source of a program that is reported, in a text that the bytes spell
pub source_told : (bytes : List ℕ) (e : DbFault) (t : Text) (p : IsToldProgram bytes e) → Spells bytes t → entry_at t.programs p.object p.verb ≡ Some p.is.source
source_told bytes e t p s = p.is.place.there p.is.place.after t (subst (λ (b : List ℕ). Spells b t) p.is.place.whole s)

pub is_read_only : (bytes : List ℕ) (r : Result Database DbFault) → Answers r bytes → (t : Text) → Spells bytes t → HasPrograms t → MatchResult r (Says t) (λ e. IsOfLimits e.kind)
is_read_only bytes (Ok d) h t s programs = ok_says bytes d t h s
is_read_only bytes (Err e) (inl memory) t s programs = inl memory
is_read_only bytes (Err e) (inr (inl f)) t s programs = subst (λ (d : DbFault). IsOfLimits d.kind) (sym f.told) (limits_told f.fault.kind (is_only bytes (refused_records f.fault) f.stops t s))
is_read_only bytes (Err e) (inr (inr p)) t s programs =
    let b = programs p.object p.verb p.is.source (source_told bytes e t p s) in
    subst IsOfLimits (sym p.told) (too_deep p.object p.verb p.fault.line p.fault.kind (λ other. blamed_is_none p.is.source p.fault b.0 p.is.blamed other b.1))

stopped_within : (k : Refusal) (n : ℕ) (t : Text) → StopsAt k n (Ok t) → kind_of_refusal k ≡ kind.Memory
stopped_within refusal.Memory n t h = refl
stopped_within (refusal.Fault f) n t h = absurd cc

pub is_read_within : (bytes : List ℕ) (r : Result Database DbFault) → Answers r bytes → (t : Text) → SpellsWithin bytes t → HasProgramsWithin t → MatchResult r (Says t) (λ e. e.kind ≡ kind.Memory)
is_read_within bytes (Ok d) h t s programs = ok_says bytes d t h (within_limits bytes t s)
is_read_within bytes (Err e) (inl memory) t s programs = memory
is_read_within bytes (Err e) (inr (inl f)) t s programs = ap (λ (d : DbFault). d.kind) f.told ∙ stopped_within f.fault.kind f.fault.line t (is_within bytes (refused_records f.fault) f.stops t s)
is_read_within bytes (Err e) (inr (inr p)) t s programs =
    let b = programs p.object p.verb p.is.source (source_told bytes e t p (within_limits bytes t s)) in
    absurd (blamed_is_outside p.is.source p.fault b.0 p.is.blamed b.1)

-- ---- what is refused

-- a fault of a line is that of the records
pub of_records : (bytes : List ℕ) (e : DbFault) (f : LineFault) → IsRefused bytes (answer_to limited bytes) e → e.kind ≡ kind_of f → StopsAt (refusal.Fault f) e.line (answer_to limited bytes)
of_records bytes e f (inl memory) is = absurd (no_memory e.kind f memory is)
of_records bytes e f (inr (inl r)) is =
    let kind_is : r.fault.kind ≡ refusal.Fault f = refusal_is r.fault.kind f (sym (ap (λ (d : DbFault). d.kind) r.told) ∙ is) in
    subst (λ (n : ℕ). StopsAt (refusal.Fault f) n (answer_to limited bytes)) (sym (ap (λ (d : DbFault). d.line) r.told)) (subst (λ (k : Refusal). StopsAt k r.fault.line (answer_to limited bytes)) kind_is r.stops)
of_records bytes e f (inr (inr p)) is = absurd (no_program e.kind f p.object p.verb p.fault p.told is)

abbrev faulty : ℕ → LineFault → RecordFault
faulty n f = record { line = n; kind = refusal.Fault f }

pub is_placed : (bytes : List ℕ) (r : Result Database DbFault) → Answers r bytes → IfErr r (λ e. IsOfLine e.kind → (more : List ℕ) (t : Text) → ¬ (Spells (front_lines e.line bytes ++ more) t))
is_placed bytes (Ok d) h = tt
is_placed bytes (Err e) h = λ f. is_in_place bytes (refused_records (faulty e.line f.0)) (of_records bytes e f.0 h f.1) (f.2, f.3)

pub is_sized : (bytes : List ℕ) (r : Result Database DbFault) → Answers r bytes → IfErr r (λ e. e.kind ≡ kind.TooLarge → (more : List ℕ) (t : Text) → ¬ (SpellsWithin (front_lines e.line bytes ++ more) t))
is_sized bytes (Ok d) h = tt
is_sized bytes (Err e) h = λ f. is_too_large bytes (refused_records (faulty e.line line.TooLarge)) (of_records bytes e line.TooLarge h f) refl

pub is_told_past : (bytes : List ℕ) (r : Result Database DbFault) → Answers r bytes → IfErr r (λ e. e.kind ≡ kind.TooLarge → ¬ (Stand limited e.line bytes))
is_told_past bytes (Ok d) h = tt
is_told_past bytes (Err e) h = λ f. is_past bytes (refused_records (faulty e.line line.TooLarge)) (of_records bytes e line.TooLarge h f) refl

pub is_told_large : (bytes : List ℕ) (r : Result Database DbFault) → Answers r bytes → IfErr r (λ e. e.kind ≡ kind.TooLarge → StandWithoutLimits e.line bytes)
is_told_large bytes (Ok d) h = tt
is_told_large bytes (Err e) h = λ f. is_large bytes (refused_records (faulty e.line line.TooLarge)) (of_records bytes e line.TooLarge h f) refl
