-- The first lines of bytes: how many end, which begin others, and what has come with them.
use Rattle.std.proofs.Common.{◌≡◌, ℕ, zero, suc, ◌+◌, ◌<◌, ◌≤◌, Bool, true, false, cond, eqb, List, [], ◌∷◌, ◌++◌, Some, Result, Ok, Err, inl, inr, refl, sym, ap, ◌∙◌, arith}
use Rattle.std.proofs.lemmas.Bool.{ne_eqb}
use Rattle.moo_dbtext_object.specs.declared.fault.LineFault.{LineFault}
use Rattle.moo_dbtext_object.specs.Lines.{Line, Sizes}
use Rattle.moo_dbtext_record.specs.Programs.{entry_at}
use Rattle.moo_dbtext_record.specs.Texts.{Text}
use Rattle.moo_dbtext_record.specs.DumpReading.{Progress, dump_step, ended}
use Rattle.moo_dbtext_record.specs.Answer.{Told, Taken, told, and_then, line_ended, taken_on, finished, finished_with, begin, answer_to, front_lines, HasNoEnd, Stand}
use Rattle.moo_dbtext_record.proofs.TakenLaws.{taken_on-append, line_taken}
use Rattle.moo_dbtext_record.proofs.AnswerFound.{then_ok}
use Rattle.moo_dbtext_record.proofs.AnswerAgain.{then_err, fault_line}
use Rattle.moo_dbtext_record.proofs.Sources.{taken_so, sources_stay}

-- ---- lines that end

-- how many lines end in these bytes
abbrev pub ends : List ℕ → ℕ
ends [] = 0
ends (b ∷ bs) = cond (eqb b 10) (suc (ends bs)) (ends bs)

pub ends_append : (a b : List ℕ) → ends (a ++ b) ≡ ends a + ends b
ends_append [] b = omega arith
ends_append (x ∷ a) b = decide (eqb x 10) (ends_append a b)
  where
    decide : (is : Bool) → ends (a ++ b) ≡ ends a + ends b → cond is (suc (ends (a ++ b))) (ends (a ++ b)) ≡ cond is (suc (ends a)) (ends a) + ends b
    decide true e = omega arith
    decide false e = e

pub clean_ends : (bs : List ℕ) → HasNoEnd bs → ends bs ≡ 0
clean_ends [] h = refl
clean_ends (b ∷ bs) h =
    let other : eqb b 10 ≡ false = ne_eqb b 10 (h 0 (omega arith)) in
    rw other (clean_ends bs (λ k lt. h (suc k) (omega arith)))

ended_lines : (z : Sizes) (s t : Taken) (line : Line) → line_ended z s line ≡ Ok t → t.lines ≡ s.lines + 1
unfolding line_ended
ended_lines z s t line h = at (dump_step z s.progress.section s.progress line) h
  where
    at : (r : Result Progress LineFault) → and_then (told (s.lines + 1) r) (λ p. Ok (record { lines = s.lines + 1; progress = p; rest = [] })) ≡ Ok t → t.lines ≡ s.lines + 1
    at (Ok p) e = sym (ap (λ (r : Result Taken Told). elim r [ Ok u ↦ u.lines | Err x ↦ 0 ]) e)
    at (Err d) e = absurd cc

pub taken_ends : (z : Sizes) (bs : List ℕ) (s t : Taken) → taken_on z s bs ≡ Ok t → t.lines ≡ s.lines + ends bs
unfolding taken_on
taken_ends z [] s t h = let e : t.lines ≡ s.lines = sym (ap (λ (r : Result Taken Told). elim r [ Ok u ↦ u.lines | Err x ↦ 0 ]) h) in omega arith
taken_ends z (b ∷ bs) s t h = decide (eqb b 10) (λ u f. taken_ends z bs u t f) h
  where
    decide : (is : Bool) → ((u : Taken) → taken_on z u bs ≡ Ok t → t.lines ≡ u.lines + ends bs)
        → cond is (and_then (line_ended z s s.rest) (λ u. taken_on z u bs)) (taken_on z (record s { rest = s.rest ++ b ∷ [] }) bs) ≡ Ok t → t.lines ≡ s.lines + cond is (suc (ends bs)) (ends bs)
    decide true rest f =
        let c = then_ok (line_ended z s s.rest) (λ u. taken_on z u bs) t f in
        let one = ended_lines z s c.0 s.rest c.1 in
        let more = rest c.0 c.2 in
        omega arith
    decide false rest f = rest (record s { rest = s.rest ++ b ∷ [] }) f

-- a fault is one of a line that ends
pub fault_ends : (z : Sizes) (bs : List ℕ) (s : Taken) (d : Told) → taken_on z s bs ≡ Err d → d.line ≤ s.lines + ends bs
unfolding taken_on line_ended
fault_ends z [] s d h = absurd cc
fault_ends z (b ∷ bs) s d h = decide (eqb b 10) (λ u f. fault_ends z bs u d f) h
  where
    ended_at : (r : Result Progress LineFault) → ((u : Taken) → taken_on z u bs ≡ Err d → d.line ≤ u.lines + ends bs)
        → and_then (and_then (told (s.lines + 1) r) (λ p. Ok (record { lines = s.lines + 1; progress = p; rest = [] }))) (λ u. taken_on z u bs) ≡ Err d → d.line ≤ s.lines + suc (ends bs)
    ended_at (Ok p) rest f = let more = rest (record { lines = s.lines + 1; progress = p; rest = [] }) f in omega arith
    ended_at (Err x) rest f = let is : s.lines + 1 ≡ d.line = ap (λ (r : Result Taken Told). elim r [ Ok t ↦ 0 | Err y ↦ y.line ]) f in omega arith

    decide : (is : Bool) → ((u : Taken) → taken_on z u bs ≡ Err d → d.line ≤ u.lines + ends bs)
        → cond is (and_then (line_ended z s s.rest) (λ u. taken_on z u bs)) (taken_on z (record s { rest = s.rest ++ b ∷ [] }) bs) ≡ Err d → d.line ≤ s.lines + cond is (suc (ends bs)) (ends bs)
    decide true rest f = ended_at (dump_step z s.progress.section s.progress s.rest) rest f
    decide false rest f = rest (record s { rest = s.rest ++ b ∷ [] }) f

-- ---- the bytes of the first lines

pub after_front : (n : ℕ) (bytes : List ℕ) → (after : List ℕ) × (bytes ≡ front_lines n bytes ++ after)
after_front zero bytes = (bytes, refl)
after_front (suc n) [] = ([], refl)
after_front (suc n) (b ∷ bs) = decide (eqb b 10) (after_front n bs) (after_front (suc n) bs)
  where
    decide : (is : Bool) → (after : List ℕ) × (bs ≡ front_lines n bs ++ after) → (after : List ℕ) × (bs ≡ front_lines (suc n) bs ++ after)
        → (after : List ℕ) × (b ∷ bs ≡ b ∷ (cond is (front_lines n bs) (front_lines (suc n) bs) ++ after))
    decide true h k = (h.0, ap (λ (r : List ℕ). b ∷ r) h.1)
    decide false h k = (k.0, ap (λ (r : List ℕ). b ∷ r) k.1)

-- more bytes change none of the lines that have ended
pub front_on : (k : ℕ) (bs more : List ℕ) → k ≤ ends bs → front_lines k (bs ++ more) ≡ front_lines k bs
front_on zero bs more le = refl
front_on (suc k) [] more le = absurd (omega arith)
front_on (suc k) (b ∷ bs) more le = ap (λ (r : List ℕ). b ∷ r) (decide (eqb b 10) (front_on k bs more) (front_on (suc k) bs more) le)
  where
    decide : (is : Bool) → (k ≤ ends bs → front_lines k (bs ++ more) ≡ front_lines k bs) → (suc k ≤ ends bs → front_lines (suc k) (bs ++ more) ≡ front_lines (suc k) bs)
        → suc k ≤ cond is (suc (ends bs)) (ends bs) → cond is (front_lines k (bs ++ more)) (front_lines (suc k) (bs ++ more)) ≡ cond is (front_lines k bs) (front_lines (suc k) bs)
    decide true h g few = h (omega arith)
    decide false h g few = g few

front_of_front : (m n : ℕ) (bs : List ℕ) → m ≤ n → front_lines m (front_lines n bs) ≡ front_lines m bs
front_of_front zero n bs le = refl
front_of_front (suc m) zero bs le = absurd (omega arith)
front_of_front (suc m) (suc n) [] le = refl
front_of_front (suc m) (suc n) (b ∷ bs) le = ap (λ (r : List ℕ). b ∷ r) (decide (eqb b 10) (front_of_front m n bs (omega arith)) (front_of_front (suc m) (suc n) bs le))
  where
    decide : (is : Bool) → front_lines m (front_lines n bs) ≡ front_lines m bs → front_lines (suc m) (front_lines (suc n) bs) ≡ front_lines (suc m) bs
        → cond is (front_lines m (cond is (front_lines n bs) (front_lines (suc n) bs))) (front_lines (suc m) (cond is (front_lines n bs) (front_lines (suc n) bs))) ≡ cond is (front_lines m bs) (front_lines (suc m) bs)
    decide true h g = h
    decide false h g = g

-- ---- lines that are right

pub stand_ends : (z : Sizes) (n : ℕ) (bytes : List ℕ) → Stand z n bytes → n ≤ ends bytes
stand_ends z n bytes h =
    let count = taken_ends z (front_lines n bytes) begin h.state h.taken in
    let lines = h.lines in
    let a = after_front n bytes in
    let whole : ends bytes ≡ ends (front_lines n bytes) + ends a.0 = ap ends a.1 ∙ ends_append (front_lines n bytes) a.0 in
    omega arith

abbrev pub stands_on : (z : Sizes) (n : ℕ) (bytes more : List ℕ) → Stand z n bytes → Stand z n (bytes ++ more)
stands_on z n bytes more h = record { state = h.state; taken = ap (taken_on z begin) (front_on n bytes more (stand_ends z n bytes h)) ∙ h.taken; lines = h.lines }

abbrev pub stand_at : (z : Sizes) (m n : ℕ) (bytes : List ℕ) → m ≡ n → Stand z m bytes → Stand z n bytes
stand_at z m n bytes is h = record { state = h.state; taken = ap (λ (k : ℕ). taken_on z begin (front_lines k bytes)) (sym is) ∙ h.taken; lines = h.lines ∙ is }

abbrev pub stand_in : (z : Sizes) (n : ℕ) (a b : List ℕ) → a ≡ b → Stand z n a → Stand z n b
stand_in z n a b is h = record { state = h.state; taken = ap (λ (bs : List ℕ). taken_on z begin (front_lines n bs)) (sym is) ∙ h.taken; lines = h.lines }

pub one_stand : (z : Sizes) (n : ℕ) (bytes : List ℕ) (h k : Stand z n bytes) → h.state ≡ k.state
one_stand z n bytes h k =
    let ok : Taken → Result Taken Told = λ x. Ok x in
    let e : ok h.state ≡ ok k.state = sym h.taken ∙ k.taken in
    cc

-- if no line ends nothing comes
same_place : (z : Sizes) (bs : List ℕ) (s t : Taken) → taken_on z s bs ≡ Ok t → t.lines ≡ s.lines → t.progress ≡ s.progress
unfolding taken_on
same_place z [] s t h e = let ok : Taken → Result Taken Told = λ x. Ok x in let f : ok s ≡ ok t = h in cc
same_place z (b ∷ bs) s t h e = decide (eqb b 10) (λ u f g. same_place z bs u t f g) h
  where
    decide : (is : Bool) → ((u : Taken) → taken_on z u bs ≡ Ok t → t.lines ≡ u.lines → t.progress ≡ u.progress)
        → cond is (and_then (line_ended z s s.rest) (λ u. taken_on z u bs)) (taken_on z (record s { rest = s.rest ++ b ∷ [] }) bs) ≡ Ok t → t.progress ≡ s.progress
    decide true rest f =
        let c = then_ok (line_ended z s s.rest) (λ u. taken_on z u bs) t f in
        let one = ended_lines z s c.0 s.rest c.1 in
        let more = taken_ends z bs c.0 t c.2 in
        absurd (omega arith)
    decide false rest f = rest (record s { rest = s.rest ++ b ∷ [] }) f e

-- the state after the lines that have ended
record IsCutAt (z : Sizes) (s : Taken) (bs : List ℕ) (t : Taken) : Type 0 where
  state : Taken
  taken : taken_on z s bs ≡ Ok state
  lines : state.lines ≡ t.lines
  progress : state.progress ≡ t.progress

-- the state after the lines that have ended, if the next byte ends a line or doesn't
record IsCutAfter (z : Sizes) (s : Taken) (b : ℕ) (bs : List ℕ) (t : Taken) (is : Bool) : Type 0 where
  state : Taken
  taken : cond is (and_then (line_ended z s s.rest) (λ u. taken_on z u bs)) (taken_on z (record s { rest = s.rest ++ b ∷ [] }) bs) ≡ Ok state
  lines : state.lines ≡ t.lines
  progress : state.progress ≡ t.progress

cut_at : (z : Sizes) (bs : List ℕ) (s t : Taken) (k : ℕ) → taken_on z s bs ≡ Ok t → t.lines ≡ s.lines + k → IsCutAt z s (front_lines k bs) t
unfolding taken_on
cut_at z bs s t zero h e = record { state = s; taken = refl; lines = omega arith; progress = sym (same_place z bs s t h (omega arith)) }
cut_at z [] s t (suc k) h e = let none = taken_ends z [] s t h in absurd (omega arith)
cut_at z (b ∷ bs) s t (suc k) h e =
    let c = decide (eqb b 10) (λ u j f g. cut_at z bs u t j f g) h in
    record { state = c.state; taken = c.taken; lines = c.lines; progress = c.progress }
  where
    decide : (is : Bool) → ((u : Taken) (j : ℕ) → taken_on z u bs ≡ Ok t → t.lines ≡ u.lines + j → IsCutAt z u (front_lines j bs) t)
        → cond is (and_then (line_ended z s s.rest) (λ u. taken_on z u bs)) (taken_on z (record s { rest = s.rest ++ b ∷ [] }) bs) ≡ Ok t → IsCutAfter z s b (cond is (front_lines k bs) (front_lines (suc k) bs)) t is
    decide true rest f =
        let c = then_ok (line_ended z s s.rest) (λ u. taken_on z u bs) t f in
        let one = ended_lines z s c.0 s.rest c.1 in
        let r = rest c.0 k c.2 (omega arith) in
        record { state = r.state; taken = ap (λ (x : Result Taken Told). and_then x (λ u. taken_on z u (front_lines k bs))) c.1 ∙ r.taken; lines = r.lines; progress = r.progress }
    decide false rest f =
        let r = rest (record s { rest = s.rest ++ b ∷ [] }) (suc k) f e in
        record { state = r.state; taken = r.taken; lines = r.lines; progress = r.progress }

-- the lines that have ended are right, and what has come has come with them
pub record StandSo (z : Sizes) (bytes : List ℕ) (s : Taken) : Type 0 where
  pub stand : Stand z s.lines bytes
  pub same : stand.state.progress ≡ s.progress

pub stand_so : (z : Sizes) (bytes : List ℕ) (s : Taken) → taken_on z begin bytes ≡ Ok s → StandSo z bytes s
stand_so z bytes s h =
    let c = cut_at z bytes begin s s.lines h (omega arith) in
    record { stand = record { state = c.state; taken = c.taken; lines = c.lines }; same = c.progress }

-- ---- a fault comes after the lines that are right

pub line_fault : (z : Sizes) (s : Taken) (line : Line) (d : Told) → HasNoEnd line → taken_on z s (line ++ 10 ∷ []) ≡ Err d → d.line ≡ s.lines + 1
unfolding taken_on line_ended
line_fault z s line d clean e = at (dump_step z s.progress.section s.progress (s.rest ++ line)) (sym (line_taken z s line [] clean) ∙ e)
  where
    at : (r : Result Progress LineFault) → and_then (and_then (told (s.lines + 1) r) (λ p. Ok (record { lines = s.lines + 1; progress = p; rest = [] }))) (λ t. taken_on z t []) ≡ Err d → d.line ≡ s.lines + 1
    at (Ok p) f = absurd cc
    at (Err x) f = sym (ap (λ (r : Result Taken Told). elim r [ Ok t ↦ 0 | Err y ↦ y.line ]) f)

told_line : {A : Type 0} (n : ℕ) (r : Result A LineFault) (d : Told) → told n r ≡ Err d → d.line ≡ n
told_line n (Ok x) d e = absurd cc
told_line {A = A} n (Err f) d e = sym (ap (λ (r : Result A Told). elim r [ Ok t ↦ 0 | Err x ↦ x.line ]) e)

pub finished_line : (s : Taken) (d : Told) → finished s ≡ Err d → d.line ≡ s.lines + 1
unfolding finished
finished_line s d h = at s.rest h
  where
    at : (rest : Line) → finished_with s rest ≡ Err d → d.line ≡ s.lines + 1
    at [] e = told_line (s.lines + 1) (ended s.progress) d e
    at (x ∷ rest) e = sym (ap (λ (r : Result Text Told). elim r [ Ok t ↦ 0 | Err x ↦ x.line ]) e)

pub stopped_after : (z : Sizes) (n : ℕ) (bytes : List ℕ) (d : Told) → taken_on z begin bytes ≡ Err d → Stand z n bytes → n < d.line
stopped_after z n bytes d stopped h =
    let a = after_front n bytes in
    let front = front_lines n bytes in
    let on : taken_on z h.state a.0 ≡ Err d = sym (taken_on-append z begin front a.0 ∙ ap (λ (r : Result Taken Told). and_then r (λ t. taken_on z t a.0)) h.taken) ∙ ap (taken_on z begin) (sym a.1) ∙ stopped in
    let past = fault_line z a.0 h.state d on in
    let lines = h.lines in
    omega arith

pub told_after : (z : Sizes) (n : ℕ) (bytes : List ℕ) (d : Told) → answer_to z bytes ≡ Err d → Stand z n bytes → n < d.line
unfolding answer_to
told_after z n bytes d answer h =
    elim (then_err (taken_on z begin bytes) finished d answer) [
      | inl stopped ↦ stopped_after z n bytes d stopped h
      | inr p ↦
          let count = taken_ends z bytes begin p.0 p.1 in
          let line = finished_line p.0 d p.2 in
          let few = stand_ends z n bytes h in
          omega arith
    ]

-- ---- from lines to lines

pub stand_between : (z : Sizes) (m n : ℕ) (bytes : List ℕ) (h : Stand z m bytes) (k : Stand z n bytes) → m ≤ n → (more : List ℕ) × (taken_on z h.state more ≡ Ok k.state)
stand_between z m n bytes h k le =
    let a = after_front m (front_lines n bytes) in
    let split : front_lines n bytes ≡ front_lines m bytes ++ a.0 = a.1 ∙ ap (λ (b : List ℕ). b ++ a.0) (front_of_front m n bytes le) in
    (a.0, sym (taken_on-append z begin (front_lines m bytes) a.0 ∙ ap (λ (r : Result Taken Told). and_then r (λ t. taken_on z t a.0)) h.taken) ∙ ap (taken_on z begin) (sym split) ∙ k.taken)

-- a source that has come with lines has come with more
pub sources_stand : (z : Sizes) (m n : ℕ) (bytes : List ℕ) (h : Stand z m bytes) (k : Stand z n bytes) → m ≤ n → (o v : ℕ) (source : List Line)
    → entry_at h.state.progress.text.programs o v ≡ Some source → entry_at k.state.progress.text.programs o v ≡ Some source
sources_stand z m n bytes h k le o v source e =
    let on = stand_between z m n bytes h k le in
    sources_stay z on.0 h.state k.state (front_lines m bytes) (taken_so z (front_lines m bytes) h.state h.taken) on.1 o v source e
