-- A text that is spelled is read, and a fault is reported if no spelling goes on.
use Rattle.std.proofs.Common.{◌≡◌, ℕ, zero, suc, ◌+◌, ◌<◌, ◌≤◌, ◌^◌, Bool, true, false, cond, eqb, ltb, List, [], ◌∷◌, ◌++◌, length, Result, Ok, Err, ◌⊎◌, inl, inr, zero-add, refl, sym, ap, ◌∙◌, append_assoc, arith}
use Rattle.std.proofs.lemmas.List.{length-append}
use Rattle.moo_dbtext_object.specs.declared.fault.LineFault.{LineFault}
use Rattle.moo_dbtext_object.specs.declared.fault.LineFault.TheVariants.{Truncated}
use Rattle.moo_dbtext_object.specs.Lines.{Line, Sizes, unlines}
use Rattle.moo_dbtext_object.proofs.Steps.{bind_ok, ok_is}
use Rattle.moo_dbtext_record.specs.Texts.{Text, Slack, text_lines, IsWritten}
use Rattle.moo_dbtext_record.specs.DumpReading.{Progress, dump_step, end_of, ended, start, run}
use Rattle.moo_dbtext_record.specs.Answer.{Told, Taken, told, and_then, line_ended, taken_on, finished, finished_with, unended, begin, answer_to, front_lines}
use Rattle.moo_dbtext_record.specs.declared.dump_reader.Section.{Section}
use Rattle.moo_dbtext_record.specs.declared.dump_reader.Section.TheVariants as section
use Rattle.moo_dbtext_record.proofs.HeadingAgain.{IsPresent}
use Rattle.moo_dbtext_record.proofs.DumpAgain.{text_again}
use Rattle.moo_dbtext_record.proofs.DumpProgress.{Keeps, IsProgress}
use Rattle.moo_dbtext_record.proofs.DumpFound.{dump_found}
use Rattle.moo_dbtext_record.proofs.DumpClean.{HasNoEnd-clean, dump_clean}
use Rattle.moo_dbtext_record.proofs.TakenLaws.{taken_on-append, line_taken}
use Rattle.moo_dbtext_record.proofs.AnswerFound.{no_slack, start_is}

-- the bytes of lines that are read are taken
lines_taken : (z : Sizes) (ls : List Line) (n : ℕ) (p q : Progress) (k : Slack) → IsProgress z p k → run z p ls ≡ Ok q → (m : ℕ) × (taken_on z (record { lines = n; progress = p; rest = [] }) (unlines ls) ≡ Ok (record { lines = m; progress = q; rest = [] }))
unfolding taken_on line_ended
lines_taken z [] n p q k is e = (n, ap (λ (x : Progress). Ok (record { lines = n; progress = x; rest = [] })) (ok_is p q e))
lines_taken z (l ∷ ls) n p q k is e =
    let b = bind_ok (dump_step z p.section p l) (λ x. run z x ls) q e in
    let s : Taken = record { lines = n; progress = p; rest = [] } in
    let a = dump_found z p.section p k l b.0 is.text is.draft is.keeps b.1 in
    let clean = HasNoEnd-clean l (dump_clean z p.section p l b.0 (counted p.section is.keeps) (present p.section is.keeps) b.1) in
    let more = lines_taken z ls (n + 1) b.0 q a.0 a.1.is b.2 in
    let stepped : line_ended z s l ≡ Ok (record { lines = n + 1; progress = b.0; rest = [] }) = ap (λ (r : Result Progress LineFault). and_then (told (n + 1) r) (λ x. Ok (record { lines = n + 1; progress = x; rest = [] }))) b.1 in
    (more.0, ap (taken_on z s) (append_assoc l (10 ∷ []) (unlines ls)) ∙ line_taken z s l (unlines ls) clean ∙ ap (λ (r : Result Taken Told). and_then r (λ t. taken_on z t (unlines ls))) stepped ∙ more.1)
  where
    counted : (x : Section) → Keeps z x p k → length p.text.objects < 2 ^ 64
    counted section.Header h = let none : length p.text.objects ≡ 0 = ap length h.0.objects in omega arith
    counted section.ObjectCount h = let none : length p.text.objects ≡ 0 = ap length h.0.objects in omega arith
    counted section.ProgramCount h = let none : length p.text.objects ≡ 0 = ap length h.0.objects in omega arith
    counted section.Unused h = let none : length p.text.objects ≡ 0 = ap length h.0.objects in omega arith
    counted section.PlayerCount h = let none : length p.text.objects ≡ 0 = ap length h.0.objects in omega arith
    counted section.Player h = let none : length p.text.objects ≡ 0 = ap length h.0.objects in omega arith
    counted section.Head h = omega (arith, h.0.objects_count)
    counted section.Object h = omega (arith, h.objects_count)
    counted section.ProgramHead h = omega (arith, h.0.objects)
    counted section.Source h = omega (arith, h.0.objects)
    counted section.Clocks h = omega (arith, h.objects)
    counted section.Queued h = omega (arith, h.objects)
    counted section.Suspended h = omega (arith, h.objects)
    counted section.ConnectionCount h = omega (arith, h.objects)
    counted section.Connection h = omega (arith, h.objects)
    counted section.End h = omega (arith, h.objects)

    present : (x : Section) → Keeps z x p k → x ≡ section.Connection → IsPresent p.text.form
    present section.Connection h e = h.form
    present section.Header h e = absurd cc
    present section.ObjectCount h e = absurd cc
    present section.ProgramCount h e = absurd cc
    present section.Unused h e = absurd cc
    present section.PlayerCount h e = absurd cc
    present section.Player h e = absurd cc
    present section.Head h e = absurd cc
    present section.Object h e = absurd cc
    present section.ProgramHead h e = absurd cc
    present section.Source h e = absurd cc
    present section.Clocks h e = absurd cc
    present section.Queued h e = absurd cc
    present section.Suspended h e = absurd cc
    present section.ConnectionCount h e = absurd cc
    present section.End h e = absurd cc

pub answer_again : (z : Sizes) (bytes : List ℕ) (t : Text) (k : Slack) → IsWritten z t k → bytes ≡ unlines (text_lines t k) → answer_to z bytes ≡ Ok t
unfolding answer_to finished
answer_again z bytes t k h lines =
    let a = text_again z t k h in
    let b = lines_taken z (text_lines t k) 0 start a.0 no_slack (start_is z) a.1 in
    ap (answer_to z) lines ∙ ap (λ (r : Result Taken Told). and_then r finished) b.1 ∙ ap (told (b.0 + 1)) a.2

-- a fault is on a line past the lines before it
pub fault_line : (z : Sizes) (bs : List ℕ) (s : Taken) (e : Told) → taken_on z s bs ≡ Err e → s.lines < e.line
unfolding taken_on line_ended
fault_line z [] s e h = absurd cc
fault_line z (b ∷ bs) s e h = decide (eqb b 10) (λ t f. fault_line z bs t e f) h
  where
    ended_at : (r : Result Progress LineFault) → ((t : Taken) → taken_on z t bs ≡ Err e → t.lines < e.line)
        → and_then (and_then (told (s.lines + 1) r) (λ p. Ok (record { lines = s.lines + 1; progress = p; rest = [] }))) (λ t. taken_on z t bs) ≡ Err e → s.lines < e.line
    ended_at (Ok p) rest f = let past = rest (record { lines = s.lines + 1; progress = p; rest = [] }) f in omega arith
    ended_at (Err d) rest f = let is : s.lines + 1 ≡ e.line = ap (λ (r : Result Taken Told). elim r [ Ok t ↦ 0 | Err x ↦ x.line ]) f in omega arith

    decide : (is : Bool) → ((t : Taken) → taken_on z t bs ≡ Err e → t.lines < e.line) → cond is (and_then (line_ended z s s.rest) (λ t. taken_on z t bs)) (taken_on z (record s { rest = s.rest ++ b ∷ [] }) bs) ≡ Err e → s.lines < e.line
    decide true rest f = ended_at (dump_step z s.progress.section s.progress s.rest) rest f
    decide false rest f = rest (record s { rest = s.rest ++ b ∷ [] }) f

taken_lines : (z : Sizes) (bs : List ℕ) (s t : Taken) → taken_on z s bs ≡ Ok t → s.lines ≤ t.lines
unfolding taken_on line_ended
taken_lines z [] s t h = let ok : Taken → Result Taken Told = λ x. Ok x in let f : ok s ≡ ok t = h in let same : s ≡ t = cc in let lines : s.lines ≡ t.lines = ap (λ (x : Taken). x.lines) same in omega arith
taken_lines z (b ∷ bs) s t h = decide (eqb b 10) (λ u f. taken_lines z bs u t f) h
  where
    ended_at : (r : Result Progress LineFault) → ((u : Taken) → taken_on z u bs ≡ Ok t → u.lines ≤ t.lines)
        → and_then (and_then (told (s.lines + 1) r) (λ p. Ok (record { lines = s.lines + 1; progress = p; rest = [] }))) (λ u. taken_on z u bs) ≡ Ok t → s.lines ≤ t.lines
    ended_at (Ok p) rest f = let past = rest (record { lines = s.lines + 1; progress = p; rest = [] }) f in omega arith
    ended_at (Err d) rest f = absurd cc

    decide : (is : Bool) → ((u : Taken) → taken_on z u bs ≡ Ok t → u.lines ≤ t.lines) → cond is (and_then (line_ended z s s.rest) (λ u. taken_on z u bs)) (taken_on z (record s { rest = s.rest ++ b ∷ [] }) bs) ≡ Ok t → s.lines ≤ t.lines
    decide true rest f = ended_at (dump_step z s.progress.section s.progress s.rest) rest f
    decide false rest f = rest (record s { rest = s.rest ++ b ∷ [] }) f

-- a fault of a text is that of every text that begins with the lines up to it
pub same_fault : (z : Sizes) (bs : List ℕ) (s : Taken) (e : Told) (k : ℕ) (more : List ℕ) → taken_on z s bs ≡ Err e → e.line ≡ s.lines + k → taken_on z s (front_lines k bs ++ more) ≡ Err e
unfolding taken_on line_ended
same_fault z [] s e k more h at = absurd cc
same_fault z (b ∷ bs) s e zero more h at = absurd (let past = fault_line z (b ∷ bs) s e h in omega arith)
same_fault z (b ∷ bs) s e (suc k) more h at = decide (eqb b 10) (λ t j f g. same_fault z bs t e j more f g) h
  where
    ended_at : (r : Result Progress LineFault) → ((t : Taken) (j : ℕ) → taken_on z t bs ≡ Err e → e.line ≡ t.lines + j → taken_on z t (front_lines j bs ++ more) ≡ Err e)
        → and_then (and_then (told (s.lines + 1) r) (λ p. Ok (record { lines = s.lines + 1; progress = p; rest = [] }))) (λ t. taken_on z t bs) ≡ Err e
        → and_then (and_then (told (s.lines + 1) r) (λ p. Ok (record { lines = s.lines + 1; progress = p; rest = [] }))) (λ t. taken_on z t (front_lines k bs ++ more)) ≡ Err e
    ended_at (Ok p) rest f = rest (record { lines = s.lines + 1; progress = p; rest = [] }) k f (omega arith)
    ended_at (Err d) rest f = f

    decide : (is : Bool) → ((t : Taken) (j : ℕ) → taken_on z t bs ≡ Err e → e.line ≡ t.lines + j → taken_on z t (front_lines j bs ++ more) ≡ Err e)
        → cond is (and_then (line_ended z s s.rest) (λ t. taken_on z t bs)) (taken_on z (record s { rest = s.rest ++ b ∷ [] }) bs) ≡ Err e
        → cond is (and_then (line_ended z s s.rest) (λ t. taken_on z t (cond is (front_lines k bs) (front_lines (suc k) bs) ++ more))) (taken_on z (record s { rest = s.rest ++ b ∷ [] }) (cond is (front_lines k bs) (front_lines (suc k) bs) ++ more)) ≡ Err e
    decide true rest f = ended_at (dump_step z s.progress.section s.progress s.rest) rest f
    decide false rest f = rest (record s { rest = s.rest ++ b ∷ [] }) (suc k) f at

-- after the end nothing is read
trailing : (z : Sizes) (more : List ℕ) (s : Taken) (t : Text) → s.progress.section ≡ section.End → 0 < length s.rest → and_then (taken_on z s more) finished ≡ Ok t → ⊥
unfolding taken_on line_ended finished dump_step
trailing z [] s t at_end some e = last s.rest some e
  where
    last : (rest : Line) → 0 < length rest → finished_with s rest ≡ Ok t → ⊥
    last [] some e = omega arith
    last (x ∷ rest) some e = cc
trailing z (b ∷ more) s t at_end some e = decide (eqb b 10) (trailing z more (record s { rest = s.rest ++ b ∷ [] }) t at_end (omega (arith, length-append s.rest (b ∷ [])))) e
  where
    stops : (x : Section) → x ≡ section.End → (f : Taken → Result Text Told) → and_then (and_then (told (s.lines + 1) (dump_step z x s.progress s.rest)) (λ p. Ok (record { lines = s.lines + 1; progress = p; rest = [] }))) f ≡ Ok t → ⊥
    stops section.End is f e = cc
    stops section.Header is f e = absurd cc
    stops section.ObjectCount is f e = absurd cc
    stops section.ProgramCount is f e = absurd cc
    stops section.Unused is f e = absurd cc
    stops section.PlayerCount is f e = absurd cc
    stops section.Player is f e = absurd cc
    stops section.Head is f e = absurd cc
    stops section.Object is f e = absurd cc
    stops section.ProgramHead is f e = absurd cc
    stops section.Source is f e = absurd cc
    stops section.Clocks is f e = absurd cc
    stops section.Queued is f e = absurd cc
    stops section.Suspended is f e = absurd cc
    stops section.ConnectionCount is f e = absurd cc
    stops section.Connection is f e = absurd cc

    assoc : (r : Result Taken Told) → and_then (and_then r (λ u. taken_on z u more)) finished ≡ and_then r (λ u. and_then (taken_on z u more) finished)
    assoc (Ok u) = refl
    assoc (Err d) = refl

    decide : (is : Bool) → (and_then (taken_on z (record s { rest = s.rest ++ b ∷ [] }) more) finished ≡ Ok t → ⊥)
        → and_then (cond is (and_then (line_ended z s s.rest) (λ u. taken_on z u more)) (taken_on z (record s { rest = s.rest ++ b ∷ [] }) more)) finished ≡ Ok t → ⊥
    decide true rest f = stops s.progress.section at_end (λ u. and_then (taken_on z u more) finished) (sym (assoc (line_ended z s s.rest)) ∙ f)
    decide false rest f = rest f

pub then_err : {A B : Type 0} (r : Result A Told) (f : A → Result B Told) (e : Told) → and_then r f ≡ Err e → (r ≡ Err e) ⊎ ((x : A) × (r ≡ Ok x) × (f x ≡ Err e))
then_err (Ok x) f e h = inr (x, refl, h)
then_err (Err d) f e h = let same : d ≡ e = cc in inl (ap Err same)

-- how a text ends that is refused at its end
end_fault : (x : Section) (t : Text) (f : LineFault) → end_of x t ≡ Err f → f ≡ Truncated
end_fault section.End t f e = absurd cc
end_fault section.Header t f e = cc
end_fault section.ObjectCount t f e = cc
end_fault section.ProgramCount t f e = cc
end_fault section.Unused t f e = cc
end_fault section.PlayerCount t f e = cc
end_fault section.Player t f e = cc
end_fault section.Head t f e = cc
end_fault section.Object t f e = cc
end_fault section.ProgramHead t f e = cc
end_fault section.Source t f e = cc
end_fault section.Clocks t f e = cc
end_fault section.Queued t f e = cc
end_fault section.Suspended t f e = cc
end_fault section.Connection t f e = cc
end_fault section.ConnectionCount t f e = decide (ltb t.version 4) e
  where
    decide : (b : Bool) → cond b (Ok t) (Err Truncated) ≡ Err f → f ≡ Truncated
    decide true e = absurd cc
    decide false e = cc

told_err : {A : Type 0} (n : ℕ) (r : Result A LineFault) (e : Told) → told n r ≡ Err e → r ≡ Err e.fault
told_err n (Ok x) e h = absurd cc
told_err n (Err f) e h = let made : Told = record { line = n; fault = f } in let same : made ≡ e = cc in ap (λ (x : Told). Err x.fault) same

unended_is_end : (x : Section) → (unended x ≡ Truncated → ⊥) → x ≡ section.End
unended_is_end section.End h = refl
unended_is_end section.Header h = absurd (h refl)
unended_is_end section.ObjectCount h = absurd (h refl)
unended_is_end section.ProgramCount h = absurd (h refl)
unended_is_end section.Unused h = absurd (h refl)
unended_is_end section.PlayerCount h = absurd (h refl)
unended_is_end section.Player h = absurd (h refl)
unended_is_end section.Head h = absurd (h refl)
unended_is_end section.Object h = absurd (h refl)
unended_is_end section.ProgramHead h = absurd (h refl)
unended_is_end section.Source h = absurd (h refl)
unended_is_end section.Clocks h = absurd (h refl)
unended_is_end section.Queued h = absurd (h refl)
unended_is_end section.Suspended h = absurd (h refl)
unended_is_end section.ConnectionCount h = absurd (h refl)
unended_is_end section.Connection h = absurd (h refl)

-- bytes with fewer line ends than k are their own first k lines
whole_front : (z : Sizes) (bs : List ℕ) (s t : Taken) (k : ℕ) → taken_on z s bs ≡ Ok t → t.lines < s.lines + k → front_lines k bs ≡ bs
unfolding taken_on line_ended
whole_front z [] s t zero h lt = refl
whole_front z [] s t (suc k) h lt = refl
whole_front z (b ∷ bs) s t zero h lt = absurd (let past = taken_lines z (b ∷ bs) s t h in omega arith)
whole_front z (b ∷ bs) s t (suc k) h lt = ap (λ (r : List ℕ). b ∷ r) (decide (eqb b 10) (λ u j f g. whole_front z bs u t j f g) h)
  where
    ended_at : (r : Result Progress LineFault) → ((u : Taken) (j : ℕ) → taken_on z u bs ≡ Ok t → t.lines < u.lines + j → front_lines j bs ≡ bs)
        → and_then (and_then (told (s.lines + 1) r) (λ p. Ok (record { lines = s.lines + 1; progress = p; rest = [] }))) (λ u. taken_on z u bs) ≡ Ok t → front_lines k bs ≡ bs
    ended_at (Ok p) rest f = rest (record { lines = s.lines + 1; progress = p; rest = [] }) k f (omega arith)
    ended_at (Err d) rest f = absurd cc

    decide : (is : Bool) → ((u : Taken) (j : ℕ) → taken_on z u bs ≡ Ok t → t.lines < u.lines + j → front_lines j bs ≡ bs)
        → cond is (and_then (line_ended z s s.rest) (λ u. taken_on z u bs)) (taken_on z (record s { rest = s.rest ++ b ∷ [] }) bs) ≡ Ok t → cond is (front_lines k bs) (front_lines (suc k) bs) ≡ bs
    decide true rest f = ended_at (dump_step z s.progress.section s.progress s.rest) rest f
    decide false rest f = rest (record s { rest = s.rest ++ b ∷ [] }) (suc k) f lt

-- nothing is spelled that begins with the lines up to a fault
pub no_spelling : (z : Sizes) (bytes : List ℕ) (e : Told) → answer_to z bytes ≡ Err e → (e.fault ≡ Truncated → ⊥) → (more : List ℕ) (t : Text) (k : Slack) → IsWritten z t k → front_lines e.line bytes ++ more ≡ unlines (text_lines t k) → ⊥
unfolding answer_to finished ended
no_spelling z bytes e h in_place more t k written lines =
    let read : and_then (taken_on z begin (front_lines e.line bytes ++ more)) finished ≡ Ok t = answer_again z (front_lines e.line bytes ++ more) t k written lines in
    elim (then_err (taken_on z begin bytes) finished e h) [
      | inl stopped ↦
          let again = same_fault z bytes begin e e.line more stopped (sym (zero-add e.line)) in
          let stops : and_then (taken_on z begin (front_lines e.line bytes ++ more)) finished ≡ Err e = ap (λ (r : Result Taken Told). and_then r finished) again in
          cc
      | inr p ↦ at_end p.0 p.0.rest refl p.1 p.2 read
    ]
  where
    at_end : (s : Taken) (rest : Line) → s.rest ≡ rest → taken_on z begin bytes ≡ Ok s → finished_with s rest ≡ Err e → and_then (taken_on z begin (front_lines e.line bytes ++ more)) finished ≡ Ok t → ⊥
    at_end s [] is taken f read = in_place (end_fault s.progress.section s.progress.text e.fault (told_err (s.lines + 1) (end_of s.progress.section s.progress.text) e f))
    at_end s (x ∷ rest) is taken f read =
        let made : Told = record { line = s.lines + 1; fault = unended s.progress.section } in
        let same : made ≡ e = cc in
        let line : s.lines + 1 ≡ e.line = ap (λ (d : Told). d.line) same in
        let fault : unended s.progress.section ≡ e.fault = ap (λ (d : Told). d.fault) same in
        let end : s.progress.section ≡ section.End = unended_is_end s.progress.section (λ g. in_place (sym fault ∙ g)) in
        let whole = whole_front z bytes begin s e.line taken (omega arith) in
        let some : 0 < length s.rest = let len : length s.rest ≡ length (x ∷ rest) = ap length is in omega arith in
        trailing z more s t end some (sym (ap (λ (r : Result Taken Told). and_then r finished)
        (ap (λ (bs : List ℕ). taken_on z begin (bs ++ more)) whole ∙ taken_on-append z begin bytes more ∙ ap (λ (r : Result Taken Told). and_then r (λ u. taken_on z u more)) taken)) ∙ read)
