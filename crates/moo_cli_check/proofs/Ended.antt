-- The report of bytes that end, or that are at fault.
use Rattle.std.proofs.Common.{◌≡◌, ℕ, ◌+◌, ◌≤◌, List, [], ◌++◌, length, Some, None, Result, Ok, Err, inl, inr, refl, sym, ap, subst, ◌∙◌, append_assoc, append-nil, arith}
use Rattle.std.specs.Prelude.{⊤}
use Rattle.moo_dbtext_object.specs.Lines.{limited}
use Rattle.moo_dbtext_object.specs.declared.fault.Refusal.{Refusal}
use Rattle.moo_dbtext_object.specs.declared.fault.Refusal.TheVariants as refusal
use Rattle.moo_dbtext_record.specs.Texts.{Text}
use Rattle.moo_dbtext_record.specs.Programs.{entry_at}
use Rattle.moo_dbtext_record.specs.DumpReading.{Progress}
use Rattle.moo_dbtext_record.specs.Answer.{IsWholeLine, Told, Taken, taken_on, begin, StopsAt, Stops, HasNoEnd, Stand, and_then, answer_to, finished}
use Rattle.moo_dbtext_record.specs.Faults.{kind_of_refusal, fault_of}
use Rattle.moo_dbtext_record.specs.declared.record_reader.RecordFault.{RecordFault}
use Rattle.moo_dbtext_record.specs.declared.fault.DbFault.{DbFault}
use Rattle.moo_dbtext_record.proofs.TakenLaws.{taken_on-append, rest_taken}
use Rattle.moo_dbtext_record.proofs.Standing.{stands_on, stand_so, stand_ends, taken_ends, line_fault, told_after, sources_stand}
use Rattle.moo_cli_check.specs.Survey.{AreTheRefused, IsSurvey}
use Rattle.moo_cli_check.specs.Reading.{IsAfter, IsEnded, IsWholly, Surveys, SurveysOn}
use Rattle.moo_cli_check.specs.declared.survey.Survey.{Survey}
use Rattle.moo_cli_check.proofs.Noted.{between_on}

-- if no line of the bytes comes after what was taken
all_looked_at : (r : Survey) (bytes more : List ℕ) (h : IsAfter r bytes) → ((n : ℕ) → Stand limited n (bytes ++ more) → n ≤ h.at.state.lines) → AreTheRefused (bytes ++ more) r.faults.items
all_looked_at r bytes more h few =
    let s = h.at.state in
    let so = stand_so limited bytes s h.at.leads in
    record {
      lines = s.lines;
      refused = between_on bytes more 0 s.lines r.faults.items h.refused;
      others = λ line o v source p.
          let there = sources_stand limited (line + length source + 1) s.lines (bytes ++ more) p.ended (stands_on limited s.lines bytes more so.stand) (few (line + length source + 1) p.ended) o v source p.kept in
          h.others o v source (ap (λ (q : Progress). entry_at q.text.programs o v) (sym so.same) ∙ there);
    }

-- ---- on the way

taken_from : (r : Survey) (bytes more : List ℕ) (h : IsAfter r bytes) → taken_on limited begin (bytes ++ more) ≡ taken_on limited h.at.state more
taken_from r bytes more h = taken_on-append limited begin bytes more ∙ ap (λ (x : Result Taken Told). and_then x (λ t. taken_on limited t more)) h.at.leads

answer_stops : (bytes more : List ℕ) (d : Told) → taken_on limited begin bytes ≡ Err d → answer_to limited (bytes ++ more) ≡ Err d
unfolding answer_to
answer_stops bytes more d e = ap (λ (x : Result Taken Told). and_then x finished) (taken_on-append limited begin bytes more ∙ ap (λ (x : Result Taken Told). and_then x (λ t. taken_on limited t more)) e)

-- at the end of a line
pub line_ended : (r : Survey) (bytes line : List ℕ) (f : RecordFault) → IsWholeLine line → IsAfter r bytes → Stops f (taken_on limited begin (bytes ++ line)) → IsEnded (bytes ++ line) r.faults.items (fault_of f)
line_ended r bytes line f whole h stops = at f.kind refl stops
  where
    at : (k : Refusal) → f.kind ≡ k → StopsAt k f.line (taken_on limited begin (bytes ++ line)) → IsEnded (bytes ++ line) r.faults.items (fault_of f)
    at refusal.Memory is e = inl (ap kind_of_refusal is)
    at (refusal.Fault g) is e = inr (record { fault = d; stops = e; survey = whole_survey })
      where
        d : Told
        d = record { line = f.line; fault = g }

        number : d.line ≡ h.at.state.lines + 1
        number = line_fault limited h.at.state whole.line d whole.clean (ap (taken_on limited h.at.state) (sym whole.is) ∙ sym (taken_from r bytes line h) ∙ e)

        whole_survey : (more : List ℕ) → IsSurvey ((bytes ++ line) ++ more) r.faults.items (Some (fault_of f))
        whole_survey more =
            let answer = answer_stops (bytes ++ line) more d e in
            let split : (bytes ++ line) ++ more ≡ bytes ++ (line ++ more) = append_assoc bytes line more in
            record {
              programs = subst (λ (b : List ℕ). AreTheRefused b r.faults.items) (sym split) (all_looked_at r bytes (line ++ more) h (λ n stand.
                  let before = told_after limited n (bytes ++ (line ++ more)) d (ap (answer_to limited) (sym split) ∙ answer) stand in
                  omega (arith, before, number)));
              end = record { fault = g; kind = ap kind_of_refusal is; answer = answer };
            }

-- bytes without an end stop only if memory runs out
pub part_ended : (r : Survey) (bytes part : List ℕ) (f : RecordFault) (es : List DbFault) → HasNoEnd part → IsAfter r bytes → Stops f (taken_on limited begin (bytes ++ part)) → IsEnded (bytes ++ part) es (fault_of f)
part_ended r bytes part f es clean h stops = at f.kind refl stops
  where
    at : (k : Refusal) → f.kind ≡ k → StopsAt k f.line (taken_on limited begin (bytes ++ part)) → IsEnded (bytes ++ part) es (fault_of f)
    at refusal.Memory is e = inl (ap kind_of_refusal is)
    at (refusal.Fault g) is e = absurd (let goes = taken_from r bytes part h ∙ rest_taken limited h.at.state part clean in let no = sym goes ∙ e in cc)

-- what has ended has ended however the bytes go on
ended_on : (bytes more : List ℕ) (es : List DbFault) (e : DbFault) → IsEnded bytes es e → IsEnded (bytes ++ more) es e
ended_on bytes more es e (inl memory) = inl memory
ended_on bytes more es e (inr ended) = inr (record {
  fault = ended.fault;
  stops = taken_on-append limited begin bytes more ∙ ap (λ (x : Result Taken Told). and_then x (λ t. taken_on limited t more)) ended.stops;
  survey = λ on. subst (λ (b : List ℕ). IsSurvey b es (Some e)) (sym (append_assoc bytes more on)) (ended.survey (more ++ on));
})

pub surveys_join : (r s t : Survey) (front more : List ℕ) (result : Result ⊤ DbFault) → SurveysOn r front (Ok tt) s → SurveysOn s more result t → SurveysOn r (front ++ more) result t
surveys_join r s t front more result a b = λ bytes h. subst (Surveys result t) (append_assoc bytes front more) (b (bytes ++ front) (a bytes h))

pub surveys_stop : (r s : Survey) (front more : List ℕ) (e : DbFault) → SurveysOn r front (Err e) s → SurveysOn r (front ++ more) (Err e) s
surveys_stop r s front more e a = λ bytes h. subst (Surveys (Err e) s) (append_assoc bytes front more) (ended_on (bytes ++ front) more s.faults.items e (a bytes h))

-- ---- at the end

all_taken : (r : Survey) (bytes : List ℕ) → IsAfter r bytes → AreTheRefused bytes r.faults.items
all_taken r bytes h =
    subst (λ (b : List ℕ). AreTheRefused b r.faults.items) (append-nil bytes) (all_looked_at r bytes [] h (λ n stand.
    let few = stand_ends limited n (bytes ++ []) stand in
    let count = taken_ends limited (bytes ++ []) begin h.at.state (ap (taken_on limited begin) (append-nil bytes) ∙ h.at.leads) in
    omega (arith, few, count)))

pub whole_read : (r : Survey) (bytes : List ℕ) (t : Text) → IsAfter r bytes → answer_to limited bytes ≡ Ok t → IsWholly bytes r.faults.items None
whole_read r bytes t h answer = record { programs = all_taken r bytes h; end = (t, answer) }

pub whole_stops : (r : Survey) (bytes : List ℕ) (f : RecordFault) → IsAfter r bytes → Stops f (answer_to limited bytes) → IsWholly bytes r.faults.items (Some (fault_of f))
whole_stops r bytes f h stops = at f.kind refl stops
  where
    at : (k : Refusal) → f.kind ≡ k → StopsAt k f.line (answer_to limited bytes) → IsWholly bytes r.faults.items (Some (fault_of f))
    at refusal.Memory is e = inl (ap kind_of_refusal is)
    at (refusal.Fault g) is e = inr (record { programs = all_taken r bytes h; end = record { fault = g; kind = ap kind_of_refusal is; answer = e } })
