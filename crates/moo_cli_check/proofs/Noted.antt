-- Faults that are noted in order.
use Rattle.std.proofs.Common.{◌≡◌, ℕ, ◌+◌, ◌<◌, ◌≤◌, List, [], ◌∷◌, ◌++◌, length, Option, Some, None, inl, inr, ap, ◌∙◌, append_assoc, arith}
use Rattle.moo_syntax.specs.declared.syntax_fault.SyntaxFaultKind.{SyntaxFaultKind}
use Rattle.moo_dbtext_object.specs.Lines.{Line, limited}
use Rattle.moo_dbtext_record.specs.declared.fault.DbFault.{DbFault}
use Rattle.moo_dbtext_record.specs.declared.fault.DbFaultKind.TheVariants as kind
use Rattle.moo_dbtext_record.specs.declared.fault.ProgramFault.{ProgramFault}
use Rattle.moo_dbtext_record.specs.declared.fault.ProgramFaultKind.{ProgramFaultKind}
use Rattle.moo_dbtext_record.proofs.Standing.{stands_on}
use Rattle.moo_dbtext_read.specs.Faults.{told_kind, source_kind_of, through_program}
use Rattle.moo_dbtext_read.specs.Reading.{IsSourceRefused}
use Rattle.moo_cli_check.specs.Reading.{IsNoted}
use Rattle.moo_cli_check.specs.Survey.{IsRefusedProgram, dot_line, AreRefusedBetween, IsToldOf}

-- ---- a refused program

-- more bytes change nothing of it
pub refused_on : (bytes more : List ℕ) (e : DbFault) → IsRefusedProgram bytes e → IsRefusedProgram (bytes ++ more) e
refused_on bytes more e h = record {
  object = h.object;
  verb = h.verb;
  fault = h.fault;
  told = h.told;
  source = h.source;
  place = record {
    before = h.place.before;
    after = h.place.after ++ more;
    number = h.place.number;
    whole = ap (λ (b : List ℕ). b ++ more) h.place.whole ∙ append_assoc (through_program h.place.before h.object h.verb h.source) h.place.after more;
    reading = stands_on limited (e.line + length h.source) bytes more h.place.reading;
    verb = h.place.verb;
    lines = h.place.lines;
    ended = stands_on limited (e.line + length h.source + 1) bytes more h.place.ended;
    kept = h.place.kept;
    there = h.place.there;
  };
  blamed = h.blamed;
}

-- a fault of a source is reported of its verb, unless memory ran out
pub known_kind : (o v : ℕ) (e : DbFault) (at : ℕ) (k : SyntaxFaultKind) (x : Option ProgramFaultKind) → told_kind k ≡ x → e.kind ≡ source_kind_of o v at x → (e.kind ≡ kind.Memory → ⊥)
    → (y : ProgramFaultKind) × (told_kind k ≡ Some y) × (e.kind ≡ kind.Program o v (record { line = at; kind = y }))
known_kind o v e at k None told is known = absurd (known is)
known_kind o v e at k (Some x) told is known = (x, told, is)

-- ---- in order

pub between_on : (bytes more : List ℕ) (n m : ℕ) (es : List DbFault) → AreRefusedBetween bytes n m es → AreRefusedBetween (bytes ++ more) n m es
unfolding refused_on
between_on bytes more n m [] h = h
between_on bytes more n m (e ∷ es) h = (refused_on bytes more e h.0, h.1, between_on bytes more (dot_line h.0) m es h.2)

pub between_later : (bytes : List ℕ) (n m k : ℕ) (es : List DbFault) → AreRefusedBetween bytes n m es → m ≤ k → AreRefusedBetween bytes n k es
between_later bytes n m k [] h le = omega (arith, h, le)
between_later bytes n m k (e ∷ es) h le = (h.0, h.1, between_later bytes (dot_line h.0) m k es h.2 le)

pub between_push : (bytes : List ℕ) (n m k : ℕ) (es : List DbFault) (e : DbFault) → AreRefusedBetween bytes n m es → (p : IsRefusedProgram bytes e) → m < dot_line p → dot_line p ≤ k → AreRefusedBetween bytes n k (es ++ e ∷ [])
between_push bytes n m k [] e h p lt le = (p, omega (arith, h, lt), le)
between_push bytes n m k (x ∷ es) e h p lt le = (h.0, h.1, between_push bytes (dot_line h.0) m k es e h.2 p lt le)

-- ---- of a verb

pub told_front : (o v : ℕ) (es more : List DbFault) → IsToldOf o v es → IsToldOf o v (es ++ more)
told_front o v [] more h = absurd h
told_front o v (e ∷ es) more (inl h) = inl h
told_front o v (e ∷ es) more (inr h) = inr (told_front o v es more h)

pub told_last : (o v : ℕ) (es : List DbFault) (e : DbFault) → (f : ProgramFault) × (e.kind ≡ kind.Program o v f) → IsToldOf o v (es ++ e ∷ [])
told_last o v [] e h = inl h
told_last o v (x ∷ es) e h = inr (told_last o v es e h)

-- ---- a source

pub noted : (old new : List DbFault) (lines o v : ℕ) (source : List Line) (e : DbFault) → new ≡ old ++ e ∷ [] → (e.kind ≡ kind.Memory → ⊥) → IsSourceRefused lines o v source e → IsNoted old new lines o v source
noted old new lines o v source e is known (inl memory) = absurd (known memory)
noted old new lines o v source e is known (inr fault) = inr (e, is, known, fault)
