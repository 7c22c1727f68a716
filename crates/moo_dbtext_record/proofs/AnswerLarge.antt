-- A size is reported only of a line that would be right without limits.
use Rattle.std.proofs.Common.{◌≡◌, ◌≢◌, ℕ, suc, ◌+◌, Bool, true, false, cond, eqb, List, [], ◌∷◌, ◌++◌, Result, Ok, Err, inl, inr, refl, sym, ap, subst, ◌∙◌, append-nil, zero-add, arith}
use Rattle.std.specs.Prelude.{IfErr, nat_lt}
use Rattle.moo_dbtext_object.specs.declared.fault.LineFault.{LineFault}
use Rattle.moo_dbtext_object.specs.declared.fault.LineFault.TheVariants.{TooLarge, Truncated}
use Rattle.moo_dbtext_object.specs.declared.fault.Refusal.{Refusal}
use Rattle.moo_dbtext_object.specs.declared.fault.Refusal.TheVariants as refusal
use Rattle.moo_dbtext_object.specs.Lines.{Line, unlimited, limited, Cut}
use Rattle.moo_dbtext_object.proofs.Strictness.{IsTaken, NeverLarge, Strict}
use Rattle.moo_dbtext_record.specs.Texts.{Text, text_of}
use Rattle.moo_dbtext_record.specs.DumpReading.{Progress, dump_step, end_of, ended}
use Rattle.moo_dbtext_record.specs.Answer.{Told, Taken, told, and_then, line_ended, taken_on, unended, finished_with, finished, begin, answer_to, StopsAt, Answers, IsOfSize, front_lines, Stand as StandUnder, StandWithoutLimits}
use Rattle.moo_dbtext_record.specs.declared.dump.Dump.{Dump}
use Rattle.moo_dbtext_record.specs.declared.dump_reader.Section.{Section}
use Rattle.moo_dbtext_record.specs.declared.dump_reader.Section.TheVariants as section
use Rattle.moo_dbtext_record.specs.declared.record_reader.RecordFault.{RecordFault}
use Rattle.moo_dbtext_record.proofs.AnswerAgain.{same_fault}
use Rattle.moo_dbtext_record.proofs.DumpCut.{dump_cut}
use Rattle.moo_dbtext_record.proofs.DumpStrict.{dump_strict}

abbrev told_at : ℕ → LineFault → Told
told_at n f = record { line = n; fault = f }

abbrev ok_taken : Taken → Result Taken Told
ok_taken s = Ok s

abbrev err_taken : Told → Result Taken Told
err_taken e = Err e

abbrev err_text : Told → Result Text Told
err_text e = Err e

taken_told : (e d : Told) → err_taken e ≡ err_taken d → e ≡ d
taken_told e d h = cc

text_told : (e d : Told) → err_text e ≡ err_text d → e ≡ d
text_told e d h = cc

-- ---- a line after another

-- line n is one of those after the state, and without limits they are right
record Stand (n : ℕ) (s : Taken) (bs : List ℕ) : Type 0 where
  more : ℕ
  line : n ≡ s.lines + suc more
  state : Taken
  taken : taken_on unlimited s (front_lines (suc more) bs) ≡ Ok state
  lines : state.lines ≡ n

abbrev next : Taken → Progress → Taken
next s p = record { lines = s.lines + 1; progress = p; rest = [] }

-- line n is one of those after a state in which a line ends, which without limits reads as q
record StandAfter (n : ℕ) (s : Taken) (q : Result Progress LineFault) (bs : List ℕ) : Type 0 where
  more : ℕ
  line : n ≡ s.lines + suc more
  state : Taken
  taken : and_then (and_then (told (s.lines + 1) q) (λ p. Ok (next s p))) (λ t. taken_on unlimited t (front_lines more bs)) ≡ Ok state
  lines : state.lines ≡ n

taken_here : (n : ℕ) (s : Taken) (q : Result Progress LineFault) (bs : List ℕ) → IsTaken q → s.lines + 1 ≡ n → StandAfter n s q bs
unfolding taken_on
taken_here n s (Ok p) bs h at = record { more = 0; line = omega arith; state = next s p; taken = refl; lines = at }
taken_here n s (Err f) bs h at = absurd h

following : (n : ℕ) (s : Taken) (r q : Result Progress LineFault) (bs : List ℕ) → Cut r q → Strict r q → ((t : Taken) → taken_on limited t bs ≡ err_taken (told_at n TooLarge) → Stand n t bs)
    → and_then (and_then (told (s.lines + 1) r) (λ p. Ok (next s p))) (λ t. taken_on limited t bs) ≡ err_taken (told_at n TooLarge) → StandAfter n s q bs
following n s (Ok p) q bs (inl e) strict rest h =
    let t = rest (next s p) h in
    subst (λ (x : Result Progress LineFault). StandAfter n s x bs) e (record { more = suc t.more; line = omega (arith, t.line); state = t.state; taken = t.taken; lines = t.lines })
following n s (Ok p) q bs (inr e) strict rest h = absurd cc
following n s (Err f) q bs cut strict rest h =
    let same = taken_told (told_at (s.lines + 1) f) (told_at n TooLarge) h in
    taken_here n s q bs (strict (ap (λ (d : Told). d.fault) same)) (ap (λ (d : Told). d.line) same)

-- line n is one of those after a state whose next byte ends a line, or doesn't
record StandAt (n : ℕ) (s : Taken) (b : ℕ) (bs : List ℕ) (is : Bool) : Type 0 where
  more : ℕ
  line : n ≡ s.lines + suc more
  state : Taken
  taken : cond is (and_then (line_ended unlimited s s.rest) (λ t. taken_on unlimited t (cond is (front_lines more bs) (front_lines (suc more) bs)))) (taken_on unlimited (record s { rest = s.rest ++ b ∷ [] }) (cond is (front_lines more bs) (front_lines (suc more) bs))) ≡ Ok state
  lines : state.lines ≡ n

at_line : (n : ℕ) (s : Taken) (bs : List ℕ) → taken_on limited s bs ≡ err_taken (told_at n TooLarge) → Stand n s bs
unfolding taken_on line_ended
at_line n s [] h = absurd (let e : ok_taken s ≡ err_taken (told_at n TooLarge) = h in cc)
at_line n s (b ∷ bs) h =
    let found = decide (eqb b 10) (λ t k. at_line n t bs k) h in
    record { more = found.more; line = found.line; state = found.state; taken = found.taken; lines = found.lines }
  where
    decide : (is : Bool) → ((t : Taken) → taken_on limited t bs ≡ err_taken (told_at n TooLarge) → Stand n t bs)
        → cond is (and_then (line_ended limited s s.rest) (λ t. taken_on limited t bs)) (taken_on limited (record s { rest = s.rest ++ b ∷ [] }) bs) ≡ err_taken (told_at n TooLarge) → StandAt n s b bs is
    decide true rest k =
        let x = s.progress.section in
        let t = following n s (dump_step limited x s.progress s.rest) (dump_step unlimited x s.progress s.rest) bs (dump_cut x s.progress s.rest) (dump_strict x s.progress s.rest) rest k in
        record { more = t.more; line = t.line; state = t.state; taken = t.taken; lines = t.lines }
    decide false rest k =
        let t = rest (record s { rest = s.rest ++ b ∷ [] }) k in
        record { more = t.more; line = t.line; state = t.state; taken = t.taken; lines = t.lines }

-- ---- the end reports no size

end_never : (x : Section) (t : Text) → NeverLarge (end_of x t)
end_never section.End t = tt
end_never section.ConnectionCount t = decide (nat_lt t.version 4)
  where
    decide : (b : Bool) → NeverLarge (cond b (Ok t) (Err Truncated))
    decide true = tt
    decide false = λ e. cc
end_never section.Header t = λ e. cc
end_never section.ObjectCount t = λ e. cc
end_never section.ProgramCount t = λ e. cc
end_never section.Unused t = λ e. cc
end_never section.PlayerCount t = λ e. cc
end_never section.Player t = λ e. cc
end_never section.Head t = λ e. cc
end_never section.Object t = λ e. cc
end_never section.ProgramHead t = λ e. cc
end_never section.Source t = λ e. cc
end_never section.Clocks t = λ e. cc
end_never section.Queued t = λ e. cc
end_never section.Suspended t = λ e. cc
end_never section.Connection t = λ e. cc

unended_never : (x : Section) → unended x ≢ TooLarge
unended_never section.End = λ e. cc
unended_never section.ConnectionCount = λ e. cc
unended_never section.Header = λ e. cc
unended_never section.ObjectCount = λ e. cc
unended_never section.ProgramCount = λ e. cc
unended_never section.Unused = λ e. cc
unended_never section.PlayerCount = λ e. cc
unended_never section.Player = λ e. cc
unended_never section.Head = λ e. cc
unended_never section.Object = λ e. cc
unended_never section.ProgramHead = λ e. cc
unended_never section.Source = λ e. cc
unended_never section.Clocks = λ e. cc
unended_never section.Queued = λ e. cc
unended_never section.Suspended = λ e. cc
unended_never section.Connection = λ e. cc

told_small : (m n : ℕ) (r : Result Text LineFault) → NeverLarge r → told m r ≡ err_text (told_at n TooLarge) → ⊥
told_small m n (Ok t) h e = cc
told_small m n (Err f) h e = h (ap (λ (d : Told). d.fault) (text_told (told_at m f) (told_at n TooLarge) e))

finished_small : (n : ℕ) (s : Taken) → finished s ≡ err_text (told_at n TooLarge) → ⊥
unfolding finished ended
finished_small n s h = by_rest s.rest h
  where
    by_rest : (rest : Line) → finished_with s rest ≡ err_text (told_at n TooLarge) → ⊥
    by_rest [] e = told_small (s.lines + 1) n (end_of s.progress.section s.progress.text) (end_never s.progress.section s.progress.text) e
    by_rest (b ∷ bs) e = unended_never s.progress.section (ap (λ (d : Told). d.fault) (text_told (told_at (s.lines + 1) (unended s.progress.section)) (told_at n TooLarge) e))

-- ---- the whole text

before_end : (n : ℕ) (r : Result Taken Told) → and_then r finished ≡ err_text (told_at n TooLarge) → r ≡ err_taken (told_at n TooLarge)
before_end n (Ok s) h = absurd (finished_small n s h)
before_end n (Err e) h = ap err_taken (text_told e (told_at n TooLarge) h)

answer_large : (bytes : List ℕ) (n : ℕ) → answer_to limited bytes ≡ err_text (told_at n TooLarge) → StandWithoutLimits n bytes
unfolding answer_to
answer_large bytes n h =
    let t = at_line n begin bytes (before_end n (taken_on limited begin bytes) h) in
    let same : suc t.more ≡ n = omega (arith, t.line) in
    record { state = t.state; taken = ap (λ (i : ℕ). taken_on unlimited begin (front_lines i bytes)) (sym same) ∙ t.taken; lines = t.lines }

-- under the limits it is wrong
answer_past : (bytes : List ℕ) (n : ℕ) → answer_to limited bytes ≡ err_text (told_at n TooLarge) → StandUnder limited n bytes → ⊥
unfolding answer_to
answer_past bytes n h stand =
    let again = same_fault limited bytes begin (told_at n TooLarge) n [] (before_end n (taken_on limited begin bytes) h) (sym (zero-add n)) in
    let stops : taken_on limited begin (front_lines n bytes) ≡ err_taken (told_at n TooLarge) = ap (taken_on limited begin) (sym (append-nil (front_lines n bytes))) ∙ again in
    let stands = stand.taken in
    cc

past_kind : (k : Refusal) (n : ℕ) (bytes : List ℕ) → StopsAt k n (answer_to limited bytes) → IsOfSize k → StandUnder limited n bytes → ⊥
past_kind refusal.Memory n bytes h is = absurd is
past_kind (refusal.Fault f) n bytes h is = answer_past bytes n (h ∙ ap (λ (g : LineFault). err_text (told_at n g)) is)

pub is_past : (bytes : List ℕ) (r : Result Dump RecordFault) → Answers text_of r (answer_to limited bytes) → IfErr r (λ e. IsOfSize e.kind → ¬ (StandUnder limited e.line bytes))
is_past bytes (Ok d) h = tt
is_past bytes (Err e) h = past_kind e.kind e.line bytes h

large_kind : (k : Refusal) (n : ℕ) (bytes : List ℕ) → StopsAt k n (answer_to limited bytes) → IsOfSize k → StandWithoutLimits n bytes
large_kind refusal.Memory n bytes h is = absurd is
large_kind (refusal.Fault f) n bytes h is = answer_large bytes n (h ∙ ap (λ (g : LineFault). err_text (told_at n g)) is)

pub is_large : (bytes : List ℕ) (r : Result Dump RecordFault) → Answers text_of r (answer_to limited bytes) → IfErr r (λ e. IsOfSize e.kind → StandWithoutLimits e.line bytes)
is_large bytes (Ok d) h = tt
is_large bytes (Err e) h = large_kind e.kind e.line bytes h
