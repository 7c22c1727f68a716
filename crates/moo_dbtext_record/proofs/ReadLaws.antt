-- Consequences of the answer to the bytes of a whole text.
use Rattle.std.proofs.Common.{◌≡◌, ◌≢◌, ℕ, List, ◌++◌, Result, Ok, Err, inl, inr, sym, ap, subst, ◌∙◌}
use Rattle.std.specs.Prelude.{IfOk, IfErr}
use Rattle.moo_dbtext_object.specs.declared.fault.LineFault.{LineFault}
use Rattle.moo_dbtext_object.specs.declared.fault.LineFault.TheVariants.{TooLarge, Truncated}
use Rattle.moo_dbtext_object.specs.declared.fault.Refusal.{Refusal}
use Rattle.moo_dbtext_object.specs.declared.fault.Refusal.TheVariants as refusal
use Rattle.moo_dbtext_object.specs.Lines.{unlimited, limited}
use Rattle.moo_dbtext_record.specs.Texts.{Text, text_of, Spells, SpellsWithin}
use Rattle.moo_dbtext_record.specs.Answer.{Told, StopsAt, Answers, answer_to, front_lines, IsOfLine, IsOfSize, IsMemoryOrSize, IsReadOrTooLarge}
use Rattle.moo_dbtext_record.specs.declared.dump.Dump.{Dump}
use Rattle.moo_dbtext_record.specs.declared.record_reader.RecordFault.{RecordFault}
use Rattle.moo_dbtext_record.proofs.AnswerFound.{answer_found}
use Rattle.moo_dbtext_record.proofs.AnswerAgain.{answer_again, no_spelling}
use Rattle.moo_dbtext_record.proofs.AnswerCut.{answer_cut}
use Rattle.moo_dbtext_record.proofs.DumpSmall.{answer_spelled}

abbrev read : Text → Result Text Told
read t = Ok t

read_is : (t u : Text) → read t ≡ read u → t ≡ u
read_is t u e = cc

abbrev told_err : Told → Result Text Told
told_err e = Err e

abbrev told_at : ℕ → LineFault → Told
told_at n f = record { line = n; fault = f }

abbrev fails : ℕ → LineFault → Result Text Told
fails n f = Err (told_at n f)

-- bytes spell one text at most
pub one_text : (bytes : List ℕ) (t u : Text) → Spells bytes t → Spells bytes u → t ≡ u
one_text bytes t u h k = read_is t u (sym (answer_again unlimited bytes t h.slack h.written h.lines) ∙ answer_again unlimited bytes u k.slack k.written k.lines)

pub within_limits : (bytes : List ℕ) (t : Text) → SpellsWithin bytes t → Spells bytes t
within_limits bytes t h = answer_found limited bytes t (answer_again limited bytes t h.slack h.written h.lines)

pub is_found : (bytes : List ℕ) (r : Result Dump RecordFault) → Answers text_of r (answer_to limited bytes) → IfOk r (λ d. SpellsWithin bytes (text_of d))
is_found bytes (Ok d) h = answer_spelled bytes (text_of d) h
is_found bytes (Err e) h = tt

-- what is spelled within the limits is read
pub is_within : (bytes : List ℕ) (r : Result Dump RecordFault) → Answers text_of r (answer_to limited bytes) → (t : Text) → SpellsWithin bytes t → Answers text_of r (Ok t)
is_within bytes r h t s = subst (Answers text_of r) (answer_again limited bytes t s.slack s.written s.lines) h

-- what is spelled is read, or it is past a limit
kind_read : (t : Text) (n : ℕ) (k : Refusal) → StopsAt k n (read t) → IsMemoryOrSize k
kind_read t n refusal.Memory h = tt
kind_read t n (refusal.Fault f) h = absurd (let e : read t ≡ fails n f = h in cc)

as_read : (t : Text) (r : Result Dump RecordFault) → Answers text_of r (read t) → IsReadOrTooLarge text_of t r
as_read t (Ok d) h = read_is t (text_of d) h
as_read t (Err e) h = kind_read t e.line e.kind h

told_is : (e d : Told) → told_err e ≡ told_err d → e ≡ d
told_is e d h = cc

kind_large : (m n : ℕ) (k : Refusal) → StopsAt k n (fails m TooLarge) → IsMemoryOrSize k
kind_large m n refusal.Memory h = tt
kind_large m n (refusal.Fault f) h = sym (ap (λ (d : Told). d.fault) (told_is (told_at m TooLarge) (told_at n f) h))

as_large : (t : Text) (r : Result Dump RecordFault) (m : ℕ) → Answers text_of r (fails m TooLarge) → IsReadOrTooLarge text_of t r
as_large t (Ok d) m h = absurd (let same : fails m TooLarge ≡ read (text_of d) = h in cc)
as_large t (Err d) m h = kind_large m d.line d.kind h

pub is_only : (bytes : List ℕ) (r : Result Dump RecordFault) → Answers text_of r (answer_to limited bytes) → (t : Text) → Spells bytes t → IsReadOrTooLarge text_of t r
is_only bytes r h t s =
    let again = answer_again unlimited bytes t s.slack s.written s.lines in
    elim (answer_cut bytes) [
      | inl same ↦ as_read t r (subst (Answers text_of r) (same ∙ again) h)
      | inr large ↦ as_large t r large.0 (subst (Answers text_of r) large.1 h)
    ]

-- ---- no text goes on after a fault

unlimited_too : (bytes : List ℕ) (n : ℕ) (f : LineFault) → f ≢ TooLarge → answer_to limited bytes ≡ fails n f → answer_to unlimited bytes ≡ fails n f
unlimited_too bytes n f not_large h =
    elim (answer_cut bytes) [
      | inl same ↦ sym same ∙ h
      | inr large ↦ absurd (not_large (sym (ap (λ (d : Told). d.fault) (told_is (told_at large.0 TooLarge) (told_at n f) (sym large.1 ∙ h)))))
    ]

place_at : (k : Refusal) (n : ℕ) (bytes : List ℕ) → StopsAt k n (answer_to limited bytes) → IsOfLine k → (more : List ℕ) (t : Text) → ¬ (Spells (front_lines n bytes ++ more) t)
place_at refusal.Memory n bytes h is more t = absurd is
place_at (refusal.Fault f) n bytes h is more t = λ s. no_spelling unlimited bytes (told_at n f) (unlimited_too bytes n f is.1 h) is.0 more t s.slack s.written s.lines

pub is_in_place : (bytes : List ℕ) (r : Result Dump RecordFault) → Answers text_of r (answer_to limited bytes) → IfErr r (λ e. IsOfLine e.kind → (more : List ℕ) (t : Text) → ¬ (Spells (front_lines e.line bytes ++ more) t))
is_in_place bytes (Ok d) h = tt
is_in_place bytes (Err e) h = place_at e.kind e.line bytes h

not_cut : (f : LineFault) → f ≡ TooLarge → f ≡ Truncated → ⊥
not_cut f e g = cc

size_at : (k : Refusal) (n : ℕ) (bytes : List ℕ) → StopsAt k n (answer_to limited bytes) → IsOfSize k → (more : List ℕ) (t : Text) → ¬ (SpellsWithin (front_lines n bytes ++ more) t)
size_at refusal.Memory n bytes h is more t = absurd is
size_at (refusal.Fault f) n bytes h is more t = λ s. no_spelling limited bytes (told_at n f) h (not_cut f is) more t s.slack s.written s.lines

-- no text within the limits goes on after a size
pub is_too_large : (bytes : List ℕ) (r : Result Dump RecordFault) → Answers text_of r (answer_to limited bytes) → IfErr r (λ e. IsOfSize e.kind → (more : List ℕ) (t : Text) → ¬ (SpellsWithin (front_lines e.line bytes ++ more) t))
is_too_large bytes (Ok d) h = tt
is_too_large bytes (Err e) h = size_at e.kind e.line bytes h
