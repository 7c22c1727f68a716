-- Limits on sizes change no answer but that they refuse.
use Rattle.std.proofs.Common.{◌≡◌, ℕ, ◌+◌, Bool, true, false, cond, eqb, List, [], ◌∷◌, ◌++◌, Result, Ok, Err, ◌⊎◌, inl, inr, refl, sym, ap, subst}
use Rattle.moo_dbtext_object.specs.declared.fault.LineFault.{LineFault}
use Rattle.moo_dbtext_object.specs.declared.fault.LineFault.TheVariants.{TooLarge}
use Rattle.moo_dbtext_object.specs.Lines.{Line, unlimited, limited, Cut}
use Rattle.moo_dbtext_record.specs.DumpReading.{Progress, dump_step}
use Rattle.moo_dbtext_record.specs.Answer.{Told, Taken, told, and_then, line_ended, taken_on, finished, begin, answer_to}
use Rattle.moo_dbtext_record.proofs.DumpCut.{dump_cut}

-- an answer under the limits, and the one without them: the same, or that it is too large
abbrev pub IsCut : {A : Type 0} → Result A Told → Result A Told → Type 0
IsCut r q = (r ≡ q) ⊎ ((n : ℕ) × (r ≡ Err (record { line = n; fault = TooLarge })))

told_cut : {A : Type 0} (n : ℕ) (r q : Result A LineFault) → Cut r q → IsCut (told n r) (told n q)
told_cut n r q (inl e) = inl (ap (told n) e)
told_cut n r q (inr e) = inr (n, ap (told n) e)

then_cut : {A B : Type 0} (r q : Result A Told) (f g : A → Result B Told) → IsCut r q → ((x : A) → IsCut (f x) (g x)) → IsCut (and_then r f) (and_then q g)
then_cut r (Ok x) f g (inl e) h = subst (λ s. IsCut (and_then s f) (g x)) (sym e) (h x)
then_cut r (Err d) f g (inl e) h = inl (ap (λ s. and_then s f) e)
then_cut r q f g (inr e) h = inr (e.0, ap (λ s. and_then s f) e.1)

line_cut : (s : Taken) (line : Line) → IsCut (line_ended limited s line) (line_ended unlimited s line)
unfolding line_ended
line_cut s line =
    let next : Progress → Result Taken Told = λ p. Ok (record { lines = s.lines + 1; progress = p; rest = [] }) in
    let x = s.progress.section in
    then_cut (told (s.lines + 1) (dump_step limited x s.progress line)) (told (s.lines + 1) (dump_step unlimited x s.progress line)) next next
    (told_cut (s.lines + 1) (dump_step limited x s.progress line) (dump_step unlimited x s.progress line) (dump_cut x s.progress line)) (λ p. inl refl)

pub taken_cut : (s : Taken) (bs : List ℕ) → IsCut (taken_on limited s bs) (taken_on unlimited s bs)
unfolding taken_on
taken_cut s [] = inl refl
taken_cut s (b ∷ bs) = decide (eqb b 10) (λ t. taken_cut t bs)
  where
    decide : (is : Bool) → ((t : Taken) → IsCut (taken_on limited t bs) (taken_on unlimited t bs))
        → IsCut (cond is (and_then (line_ended limited s s.rest) (λ t. taken_on limited t bs)) (taken_on limited (record s { rest = s.rest ++ b ∷ [] }) bs))
        (cond is (and_then (line_ended unlimited s s.rest) (λ t. taken_on unlimited t bs)) (taken_on unlimited (record s { rest = s.rest ++ b ∷ [] }) bs))
    decide true rest = then_cut (line_ended limited s s.rest) (line_ended unlimited s s.rest) (λ t. taken_on limited t bs) (λ t. taken_on unlimited t bs) (line_cut s s.rest) rest
    decide false rest = rest (record s { rest = s.rest ++ b ∷ [] })

pub answer_cut : (bytes : List ℕ) → IsCut (answer_to limited bytes) (answer_to unlimited bytes)
unfolding answer_to
answer_cut bytes = then_cut (taken_on limited begin bytes) (taken_on unlimited begin bytes) finished finished (taken_cut begin bytes) (λ s. inl refl)
