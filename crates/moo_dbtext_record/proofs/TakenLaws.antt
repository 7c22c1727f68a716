-- Bytes that are taken one after another, and lines among them.
use Rattle.std.proofs.Common.{◌≡◌, ℕ, suc, ◌-◌, Bool, true, false, cond, eqb, List, [], ◌∷◌, ◌++◌, length, take, Result, Ok, Err, refl, sym, ap, subst, ◌∙◌, append_assoc, arith, MatchResult}
use Rattle.std.specs.Prelude.{⊤}
use Rattle.std.proofs.lemmas.Bool.{ne_eqb}
use Rattle.std.proofs.lemmas.List.{append-nil, length-append, take_all, take-append-le}
use Rattle.moo_dbtext_object.specs.Lines.{Line, Sizes, limited}
use Rattle.moo_dbtext_record.specs.Answer.{Told, Taken, and_then, line_ended, taken_on, finished, begin, answer_to, StopsAt, Stops, HasNoEnd, IsWholeLine, Answers, TakesOn, taken_of}
use Rattle.moo_dbtext_record.specs.Cutting.{Feeds}
use Rattle.moo_dbtext_record.proofs.CuttingLaws.{fed_whole}
use Rattle.moo_dbtext_record.specs.declared.record_reader.RecordReader.{RecordReader}
use Rattle.moo_dbtext_object.specs.declared.fault.Refusal.{Refusal}
use Rattle.moo_dbtext_object.specs.declared.fault.Refusal.TheVariants as refusal
use Rattle.moo_dbtext_record.specs.declared.record_reader.RecordFault.{RecordFault}

pub taken_on-append : (z : Sizes) → (s : Taken) (a b : List ℕ) → taken_on z s (a ++ b) ≡ and_then (taken_on z s a) (λ t. taken_on z t b)
unfolding taken_on
taken_on-append z s [] b = refl
taken_on-append z s (x ∷ a) b = decide (eqb x 10) (λ t. taken_on-append z t a b)
  where
    ended : ((t : Taken) → taken_on z t (a ++ b) ≡ and_then (taken_on z t a) (λ u. taken_on z u b)) → (r : Result Taken Told) → and_then r (λ t. taken_on z t (a ++ b)) ≡ and_then (and_then r (λ t. taken_on z t a)) (λ u. taken_on z u b)
    ended rest (Ok t) = rest t
    ended rest (Err e) = refl

    decide : (is : Bool) → ((t : Taken) → taken_on z t (a ++ b) ≡ and_then (taken_on z t a) (λ u. taken_on z u b))
        → cond is (and_then (line_ended z s s.rest) (λ t. taken_on z t (a ++ b))) (taken_on z (record s { rest = s.rest ++ x ∷ [] }) (a ++ b)) ≡ and_then (cond is (and_then (line_ended z s s.rest) (λ t. taken_on z t a)) (taken_on z (record s { rest = s.rest ++ x ∷ [] }) a)) (λ u. taken_on z u b)
    decide true rest = ended rest (line_ended z s s.rest)
    decide false rest = rest (record s { rest = s.rest ++ x ∷ [] })

pub rest_taken : (z : Sizes) → (s : Taken) (bytes : List ℕ) → HasNoEnd bytes → taken_on z s bytes ≡ Ok (record s { rest = s.rest ++ bytes })
unfolding taken_on
rest_taken z s [] h = ap (λ (r : Line). Ok (record s { rest = r })) (sym (append-nil s.rest))
rest_taken z s (b ∷ bytes) h =
    let other : eqb b 10 ≡ false = ne_eqb b 10 (h 0 (omega arith)) in
    rw other (rest_taken z (record s { rest = s.rest ++ b ∷ [] }) bytes (λ k lt. h (suc k) (omega arith)) ∙ ap (λ (r : Line). Ok (record s { rest = r })) (append_assoc s.rest (b ∷ []) bytes))

end_taken : (z : Sizes) → (s : Taken) (more : List ℕ) → taken_on z s (10 ∷ more) ≡ and_then (line_ended z s s.rest) (λ t. taken_on z t more)
unfolding taken_on
end_taken z s more = refl

line_ended-rest : (z : Sizes) → (s : Taken) (r line : Line) → line_ended z (record s { rest = r }) line ≡ line_ended z s line
unfolding line_ended
line_ended-rest z s r line = refl

pub line_taken : (z : Sizes) → (s : Taken) (front more : List ℕ) → HasNoEnd front → taken_on z s (front ++ 10 ∷ more) ≡ and_then (line_ended z s (s.rest ++ front)) (λ t. taken_on z t more)
line_taken z s front more h =
    taken_on-append z s front (10 ∷ more) ∙ ap (λ (r : Result Taken Told). and_then r (λ t. taken_on z t (10 ∷ more))) (rest_taken z s front h)
    ∙ end_taken z (record s { rest = s.rest ++ front }) more ∙ ap (λ (r : Result Taken Told). and_then r (λ t. taken_on z t more)) (line_ended-rest z s (s.rest ++ front) (s.rest ++ front))

pub stops_then : {A B : Type 0} (k : Refusal) (n : ℕ) (r : Result A Told) (f : A → Result B Told) → StopsAt k n r → StopsAt k n (and_then r f)
stops_then refusal.Memory n r f h = tt
stops_then (refusal.Fault g) n r f h = ap (λ r. and_then r f) h

-- ---- a line with its end

nothing_more : (r : Result Taken Told) (z : Sizes) → and_then r (λ t. taken_on z t []) ≡ r
unfolding taken_on
nothing_more (Ok t) z = refl
nothing_more (Err e) z = refl

-- the line without its end
without_end : (bytes : List ℕ) (h : IsWholeLine bytes) → take (length bytes - 1) bytes ≡ h.line
without_end bytes h =
    let len : length bytes - 1 ≡ length h.line = (let e = ap length h.is ∙ length-append h.line (10 ∷ []) in omega (arith, e)) in
    ap (λ (n : ℕ). take n bytes) len ∙ ap (take (length h.line)) h.is ∙ take-append-le (length h.line) h.line (10 ∷ []) (omega arith) ∙ take_all (length h.line) h.line (omega arith)

pub whole_taken : (z : Sizes) (s : Taken) (bytes : List ℕ) → IsWholeLine bytes → taken_on z s bytes ≡ line_ended z s (s.rest ++ take (length bytes - 1) bytes)
whole_taken z s bytes h =
    ap (taken_on z s) h.is ∙ line_taken z s h.line [] h.clean ∙ nothing_more (line_ended z s (s.rest ++ h.line)) z ∙ ap (λ (l : Line). line_ended z s (s.rest ++ l)) (sym (without_end bytes h))

-- ---- the first bytes, and those after them

pub answers_join : (s t u : Taken) (front rest : List ℕ) (result : Result ⊤ RecordFault) → taken_on limited s front ≡ Ok t → Answers (λ _. u) result (taken_on limited t rest) → Answers (λ _. u) result (taken_on limited s (front ++ rest))
answers_join s t u front rest result goes h =
    subst (Answers (λ _. u) result) (sym (taken_on-append limited s front rest ∙ ap (λ (r : Result Taken Told). and_then r (λ v. taken_on limited v rest)) goes)) h

pub stops_on : (s : Taken) (front rest : List ℕ) (e : RecordFault) → Stops e (taken_on limited s front) → Stops e (taken_on limited s (front ++ rest))
stops_on s front rest e stops =
    subst (Stops e) (sym (taken_on-append limited s front rest)) (stops_then e.kind e.line (taken_on limited s front) (λ t. taken_on limited t rest) stops)

-- ---- the calls of a reader

pub fails_on : (z : Sizes) → {A : Type 0} (outcome : Result ⊤ RecordFault) (e : RecordFault) (s : Taken) (bytes : List ℕ) (f : Taken → Result A Told) → outcome ≡ Err e → MatchResult outcome (λ _. taken_on z begin bytes ≡ Ok s) (λ d. Stops d (taken_on z begin bytes)) → Stops e (and_then (taken_on z begin bytes) f)
fails_on z (Ok x) e s bytes f is h = absurd cc
fails_on z (Err d) e s bytes f is h = let same : d ≡ e = cc in subst (λ (x : RecordFault). Stops x (and_then (taken_on z begin bytes) f)) same (stops_then d.kind d.line (taken_on z begin bytes) f h)

pub goes_on : (z : Sizes) → {A : Type 0} (outcome : Result ⊤ RecordFault) (s : Taken) (bytes : List ℕ) (f : Taken → Result A Told) → outcome ≡ Ok tt → MatchResult outcome (λ _. taken_on z begin bytes ≡ Ok s) (λ d. Stops d (taken_on z begin bytes)) → and_then (taken_on z begin bytes) f ≡ f s
goes_on z (Ok x) s bytes f is h = ap (λ r. and_then r f) h
goes_on z (Err d) s bytes f is h = absurd cc

pub finish_fails : (z : Sizes) → (outcome : Result ⊤ RecordFault) (e : RecordFault) (s : Taken) (bytes : List ℕ) → outcome ≡ Err e → MatchResult outcome (λ _. taken_on z begin bytes ≡ Ok s) (λ d. Stops d (taken_on z begin bytes)) → Stops e (answer_to z bytes)
unfolding answer_to
finish_fails z outcome e s bytes is h = fails_on z outcome e s bytes finished is h

pub finish_answers : (z : Sizes) → (outcome : Result ⊤ RecordFault) (s : Taken) (bytes : List ℕ) → outcome ≡ Ok tt → MatchResult outcome (λ _. taken_on z begin bytes ≡ Ok s) (λ d. Stops d (taken_on z begin bytes)) → answer_to z bytes ≡ finished s
unfolding answer_to
finish_answers z outcome s bytes is h = goes_on z outcome s bytes finished is h

pub feed_fails : (z : Sizes) → (outcome : Result ⊤ RecordFault) (e : RecordFault) (s : Taken) (bytes piece : List ℕ) → outcome ≡ Err e → MatchResult outcome (λ _. taken_on z begin bytes ≡ Ok s) (λ d. Stops d (taken_on z begin bytes)) → Stops e (taken_on z begin (bytes ++ piece))
feed_fails z outcome e s bytes piece is h = subst (Stops e) (sym (taken_on-append z begin bytes piece)) (fails_on z outcome e s bytes (λ t. taken_on z t piece) is h)

pub feed_goes_on : (z : Sizes) → (outcome : Result ⊤ RecordFault) (s : Taken) (bytes piece : List ℕ) → outcome ≡ Ok tt → MatchResult outcome (λ _. taken_on z begin bytes ≡ Ok s) (λ d. Stops d (taken_on z begin bytes)) → taken_on z begin (bytes ++ piece) ≡ taken_on z s piece
feed_goes_on z outcome s bytes piece is h = taken_on-append z begin bytes piece ∙ goes_on z outcome s bytes (λ t. taken_on z t piece) is h

pub fed : (outcome : Result ⊤ RecordFault) (s t : Taken) (bytes piece : List ℕ) (result : Result ⊤ RecordFault) → outcome ≡ Ok tt → MatchResult outcome (λ _. taken_on limited begin bytes ≡ Ok s) (λ d. Stops d (taken_on limited begin bytes)) → Answers (λ _. t) result (taken_on limited s piece) → MatchResult result (λ _. taken_on limited begin (bytes ++ piece) ≡ Ok t) (λ d. Stops d (taken_on limited begin (bytes ++ piece)))
fed outcome s t bytes piece (Ok x) is h a = feed_goes_on limited outcome s bytes piece is h ∙ a
fed outcome s t bytes piece (Err e) is h a = subst (Stops e) (sym (feed_goes_on limited outcome s bytes piece is h)) a

pub taken_whole : (r s : RecordReader) (piece : List ℕ) (result : Result ⊤ RecordFault) → Feeds TakesOn r piece result s → TakesOn r piece result s
taken_whole r s piece result h =
    fed_whole TakesOn (λ a b c front more end goes then. answers_join (taken_of a) (taken_of b) (taken_of c) front more end goes then) (λ a b front more e stops. stops_on (taken_of a) front more e stops) r s piece result h
