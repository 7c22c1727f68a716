-- Of several faults of a text one is reported.
use Rattle.std.proofs.Common.{◌≡◌, ◌≢◌, refl, ℕ, ◌+◌, ◌-◌, ◌<◌, List, length, Option, Some, None, Result, Err, inl, inr, sym, ap, subst, ◌∙◌, arith}
use Rattle.std.proofs.lemmas.Bool.{cases_lt}
use Rattle.moo_dbtext_object.specs.Lines.{Line, limited}
use Rattle.moo_dbtext_object.specs.declared.fault.LineFault.{LineFault}
use Rattle.moo_dbtext_object.specs.declared.fault.Refusal.{Refusal}
use Rattle.moo_dbtext_object.specs.declared.fault.Refusal.TheVariants as refusal
use Rattle.moo_dbtext_record.specs.Texts.{Text}
use Rattle.moo_dbtext_record.specs.DumpReading.{Progress, verb_read}
use Rattle.moo_dbtext_record.specs.Answer.{Told, Taken, StopsAt, answer_to}
use Rattle.moo_dbtext_record.specs.Faults.{kind_of, kind_of_refusal}
use Rattle.moo_dbtext_record.specs.declared.fault.DbFault.{DbFault}
use Rattle.moo_dbtext_record.specs.declared.fault.DbFaultKind.{DbFaultKind}
use Rattle.moo_dbtext_record.specs.declared.fault.DbFaultKind.TheVariants as kind
use Rattle.moo_dbtext_record.specs.declared.fault.ProgramFault.{ProgramFault}
use Rattle.moo_dbtext_record.proofs.Standing.{stand_at, one_stand, told_after, sources_stand}
use Rattle.moo_dbtext_read.specs.Faults.{AreSoundBefore, AreToldAlike, IsBlamed, Choice, TellsBy, chosen_by}
use Rattle.moo_dbtext_read.specs.Reading.{IsRecordFault, IsToldProgram, IsRefused}
use Rattle.moo_dbtext_read.proofs.Blame.{blamed_is_outside}

-- the answer is a fault of a line, and this is reported
pub record IsToldLine {A : Type 0} (answer : Result A Told) (d : DbFault) : Type 0 where
  pub fault : LineFault
  pub answers : answer ≡ Err (record { line = d.line; fault = fault })
  pub kind : d.kind ≡ kind_of fault

pub told_line : {A : Type 0} (bytes : List ℕ) (answer : Result A Told) (d : DbFault) → IsRecordFault bytes answer d → d.kind ≢ kind.Memory → IsToldLine answer d
told_line bytes answer d h known = at h.fault.kind refl h.stops
  where
    kind_is : d.kind ≡ kind_of_refusal h.fault.kind
    kind_is = ap (λ (e : DbFault). e.kind) h.told

    line_is : h.fault.line ≡ d.line
    line_is = sym (ap (λ (e : DbFault). e.line) h.told)

    at : (k : Refusal) → h.fault.kind ≡ k → StopsAt k h.fault.line answer → IsToldLine answer d
    at refusal.Memory is stops = absurd (known (kind_is ∙ ap kind_of_refusal is))
    at (refusal.Fault f) is stops = record {
      fault = f;
      answers = subst (λ (n : ℕ). StopsAt (refusal.Fault f) n answer) line_is stops;
      kind = kind_is ∙ ap kind_of_refusal is;
    }

-- two faults have one line and one kind
abbrev pub AreSame : DbFault → DbFault → Type 0
AreSame d e = (d.line ≡ e.line) × (d.kind ≡ e.kind)

pub same_alike : (d e : DbFault) → AreSame d e → AreToldAlike d e
same_alike d e h = record { line = h.0; kind = inl h.1 }

pub same_fault : (d e : DbFault) → AreSame d e → d ≡ e
same_fault d e h =
    let a : d ≡ record { line = e.line; kind = d.kind } = ap (λ (n : ℕ). record { line = n; kind = d.kind }) h.0 in
    let b : record { line = e.line; kind = d.kind } ≡ e = ap (λ (k : DbFaultKind). record { line = e.line; kind = k }) h.1 in
    a ∙ b

one_line : (bytes : List ℕ) (d e : DbFault) → IsToldLine (answer_to limited bytes) d → IsToldLine (answer_to limited bytes) e → AreSame d e
one_line bytes d e h k =
    let err : Told → Result Text Told = λ x. Err x in
    let left : Told = record { line = d.line; fault = h.fault } in
    let right : Told = record { line = e.line; fault = k.fault } in
    let f : err left ≡ err right = sym h.answers ∙ k.answers in
    let same : left ≡ right = cc in
    (ap (λ (x : Told). x.line) same, h.kind ∙ ap (λ (x : Told). kind_of x.fault) same ∙ sym k.kind)

-- a program that has come before the reported line is not at fault
line_or_program : (bytes : List ℕ) (d e : DbFault) → IsToldLine (answer_to limited bytes) d → AreSoundBefore d.line bytes → IsToldProgram bytes e → ⊥
line_or_program bytes d e h sound p =
    let place = p.is.place in
    let n = e.line + length p.is.source + 1 in
    let before : n < d.line = told_after limited n bytes (record { line = d.line; fault = h.fault }) h.answers place.ended in
    let there = sources_stand limited n (d.line - 1) bytes place.ended sound.stand (omega arith) p.object p.verb p.is.source place.kept in
    let b = sound.parsed p.object p.verb p.is.source there in
    blamed_is_outside p.is.source p.fault b.0 p.is.blamed b.1

-- the line of a program's dot, less one
abbrev dot_of : (bytes : List ℕ) (e : DbFault) → IsToldProgram bytes e → ℕ
dot_of bytes e p = e.line + length p.is.source

later_program : (bytes : List ℕ) (d e : DbFault) (p : IsToldProgram bytes d) (q : IsToldProgram bytes e) → dot_of bytes d p < dot_of bytes e q → ⊥
later_program bytes d e p q before =
    let there = sources_stand limited (dot_of bytes d p + 1) (dot_of bytes e q) bytes p.is.place.ended q.is.place.reading (omega arith) p.object p.verb p.is.source p.is.place.kept in
    let b = q.is.parsed p.object p.verb p.is.source there in
    blamed_is_outside p.is.source p.fault b.0 p.is.blamed b.1

-- two faults report one program, with one source
record AreOfOneSource (bytes : List ℕ) (d e : DbFault) (p : IsToldProgram bytes d) (q : IsToldProgram bytes e) : Type 0 where
  line : d.line ≡ e.line
  source : p.is.source ≡ q.is.source
  told : d.kind ≡ kind.Program q.object q.verb p.fault

same_program : (bytes : List ℕ) (d e : DbFault) (p : IsToldProgram bytes d) (q : IsToldProgram bytes e) → dot_of bytes d p ≡ dot_of bytes e q → AreOfOneSource bytes d e p q
same_program bytes d e p q same =
    let here : Progress = p.is.place.reading.state.progress in
    let there : Progress = q.is.place.reading.state.progress in
    let state : here ≡ there = ap (λ (s : Taken). s.progress) (one_stand limited (dot_of bytes e q) bytes (stand_at limited (dot_of bytes d p) (dot_of bytes e q) bytes same p.is.place.reading) q.is.place.reading) in
    let lines : p.is.source ≡ q.is.source = sym p.is.place.lines ∙ ap (λ (x : Progress). x.source) state ∙ q.is.place.lines in
    let some : ℕ × ℕ → Option (ℕ × ℕ) = λ x. Some x in
    let verbs : some (p.object, p.verb) ≡ some (q.object, q.verb) = sym p.is.place.verb ∙ ap (λ (x : Progress). verb_read x.section x) state ∙ q.is.place.verb in
    let object : p.object ≡ q.object = ap (λ (x : Option (ℕ × ℕ)). elim x [ Some y ↦ y.0 | None ↦ 0 ]) verbs in
    let verb : p.verb ≡ q.verb = ap (λ (x : Option (ℕ × ℕ)). elim x [ Some y ↦ y.1 | None ↦ 0 ]) verbs in
    let count : length p.is.source ≡ length q.is.source = ap length lines in
    record {
      line = omega arith;
      source = lines;
      told = p.told ∙ ap (λ (o : ℕ). kind.Program o p.verb p.fault) object ∙ ap (λ (v : ℕ). kind.Program q.object v p.fault) verb;
    }

one_program : (bytes : List ℕ) (d e : DbFault) (p : IsToldProgram bytes d) (q : IsToldProgram bytes e) → AreOfOneSource bytes d e p q
one_program bytes d e p q = elim (cases_lt (dot_of bytes d p) (dot_of bytes e q)) [
  | inl before ↦ absurd (later_program bytes d e p q before)
  | inr not_before ↦ elim (cases_lt (dot_of bytes e q) (dot_of bytes d p)) [
    | inl following ↦ absurd (later_program bytes e d q p following)
    | inr not_after ↦ same_program bytes d e p q (omega arith)
  ]
]

program_alike : (bytes : List ℕ) (d e : DbFault) (p : IsToldProgram bytes d) (q : IsToldProgram bytes e) → AreToldAlike d e
program_alike bytes d e p q =
    let one = one_program bytes d e p q in
    record {
      line = one.line;
      kind = inr (record {
        object = q.object;
        verb = q.verb;
        source = q.is.source;
        fault = p.fault;
        other = q.fault;
        is = one.told;
        also = q.told;
        blamed = subst (λ (s : List Line). IsBlamed s p.fault) one.source p.is.blamed;
        also_blamed = q.is.blamed;
      });
    }

chosen_program : (choice : Choice) (bytes : List ℕ) (d e : DbFault) (p : IsToldProgram bytes d) (q : IsToldProgram bytes e) → TellsBy (chosen_by choice) bytes d → TellsBy (chosen_by choice) bytes e → AreSame d e
chosen_program choice bytes d e p q by also =
    let one = one_program bytes d e p q in
    let some : ProgramFault → Option ProgramFault = λ x. Some x in
    let here : choice p.is.source ≡ some p.fault = by p.object p.verb p.fault p.told p.is in
    let there : choice q.is.source ≡ some q.fault = also q.object q.verb q.fault q.told q.is in
    let chosen : some p.fault ≡ some q.fault = sym here ∙ ap choice one.source ∙ there in
    let same : p.fault ≡ q.fault = cc in
    (one.line, one.told ∙ ap (kind.Program q.object q.verb) same ∙ sym q.told)

pub one_is_told : (bytes : List ℕ) (d e : DbFault) → IsRefused bytes (answer_to limited bytes) d → IsRefused bytes (answer_to limited bytes) e → d.kind ≢ kind.Memory → e.kind ≢ kind.Memory → AreToldAlike d e
one_is_told bytes d e (inl memory) k known other = absurd (known memory)
one_is_told bytes d e h (inl memory) known other = absurd (other memory)
one_is_told bytes d e (inr (inl h)) (inr (inl k)) known other =
    same_alike d e (one_line bytes d e (told_line bytes (answer_to limited bytes) d h known) (told_line bytes (answer_to limited bytes) e k other))
one_is_told bytes d e (inr (inl h)) (inr (inr q)) known other = absurd (line_or_program bytes d e (told_line bytes (answer_to limited bytes) d h known) h.sound q)
one_is_told bytes d e (inr (inr p)) (inr (inl k)) known other = absurd (line_or_program bytes e d (told_line bytes (answer_to limited bytes) e k other) k.sound p)
one_is_told bytes d e (inr (inr p)) (inr (inr q)) known other = program_alike bytes d e p q

-- for a choice of the fault that is reported of each source
pub one_by_choice : (choice : Choice) (bytes : List ℕ) (d e : DbFault) → IsRefused bytes (answer_to limited bytes) d → IsRefused bytes (answer_to limited bytes) e
    → TellsBy (chosen_by choice) bytes d → TellsBy (chosen_by choice) bytes e → d.kind ≢ kind.Memory → e.kind ≢ kind.Memory → AreSame d e
one_by_choice choice bytes d e (inl memory) k by also known other = absurd (known memory)
one_by_choice choice bytes d e h (inl memory) by also known other = absurd (other memory)
one_by_choice choice bytes d e (inr (inl h)) (inr (inl k)) by also known other = one_line bytes d e (told_line bytes (answer_to limited bytes) d h known) (told_line bytes (answer_to limited bytes) e k other)
one_by_choice choice bytes d e (inr (inl h)) (inr (inr q)) by also known other = absurd (line_or_program bytes d e (told_line bytes (answer_to limited bytes) d h known) h.sound q)
one_by_choice choice bytes d e (inr (inr p)) (inr (inl k)) by also known other = absurd (line_or_program bytes e d (told_line bytes (answer_to limited bytes) e k other) k.sound p)
one_by_choice choice bytes d e (inr (inr p)) (inr (inr q)) by also known other = chosen_program choice bytes d e p q by also
