-- What a piece does, given what its lines and the rest do.
use Rattle.std.proofs.Common.{◌≡◌, ℕ, ◌-◌, List, ◌++◌, length, take, drop, Result, Ok, Err, refl, ap, subst, ◌∙◌}
use Rattle.std.specs.Prelude.{⊤, OnOk, IfErr}
use Rattle.std.proofs.lemmas.List.{take_rest, take-append-drop}
use Rattle.moo_dbtext_record.specs.Answer.{IsWholeLine}
use Rattle.moo_dbtext_record.specs.Cutting.{Feeds, last_part, whole_line, refused_line}

module _ {S E : Type 0} (takes : S → List ℕ → Result ⊤ E → S → Type 0) where
  whole : (more : List ℕ) (n : ℕ) → take n more ++ take (length more - n) (drop n more) ≡ more
  whole more n = ap (λ (b : List ℕ). take n more ++ b) (take_rest more n) ∙ take-append-drop n more

  pub line_then : (s t u : S) (more : List ℕ) (n : ℕ) (result : Result ⊤ E) → IsWholeLine (take n more) → takes s (take n more) (Ok tt) t → Feeds takes t (take (length more - n) (drop n more)) result u → Feeds takes s more result u
  line_then s t u more n result is goes h = subst (λ (b : List ℕ). Feeds takes s b result u) (whole more n) (whole_line is goes h)

  pub line_stops : (s t : S) (more : List ℕ) (n : ℕ) (fault : E) → IsWholeLine (take n more) → takes s (take n more) (Err fault) t → Feeds takes s more (Err fault) t
  line_stops s t more n fault is stops = subst (λ (b : List ℕ). Feeds takes s b (Err fault) t) (whole more n) (refused_line (take (length more - n) (drop n more)) is stops)

  -- A piece does in one step what it does in several, if two steps make one and the fault of a front is that of the whole.
  pub fed_whole : ((s t u : S) (front more : List ℕ) (result : Result ⊤ E) → takes s front (Ok tt) t → takes t more result u → takes s (front ++ more) result u)
      → ((s t : S) (front more : List ℕ) (fault : E) → takes s front (Err fault) t → takes s (front ++ more) (Err fault) t)
      → (s t : S) (bytes : List ℕ) (result : Result ⊤ E) → Feeds takes s bytes result t → takes s bytes result t
  fed_whole join stop s t bytes result (last_part is h) = h
  fed_whole join stop s u bytes result (whole_line is goes h) = join s _ u _ _ result goes (fed_whole join stop _ u _ result h)
  fed_whole join stop s t bytes result (refused_line more is h) = stop s t _ more _ h

-- ---- an outcome that is kept

pub outcome_ok : {E : Type 0} (r : Result ⊤ E) → OnOk r (r ≡ Ok tt)
outcome_ok (Ok x) = refl
outcome_ok (Err e) = tt

pub outcome_err : {E : Type 0} (r : Result ⊤ E) → IfErr r (λ e. r ≡ Err e)
outcome_err (Ok x) = tt
outcome_err (Err e) = refl
