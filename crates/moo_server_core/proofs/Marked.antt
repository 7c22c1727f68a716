-- The places of marks among events, and the worlds that they mark.
use Rattle.std.proofs.Common.{◌≡◌, ◌≢◌, inl, inr, ⊎_elim, ℕ, ◌+◌, ◌≤◌, List, [], ◌∷◌, ◌++◌, length, Option, Some, None, Bool, true, false, refl, sym, ◌∙◌, ap, subst, arith, append_assoc}
use Rattle.std.specs.Prelude.{MatchBool}
use Rattle.std.specs.Option.{option_map}
use Rattle.moo_server_core.specs.Traces.{Report, Done, Failed, Trace}
use Rattle.moo_server_core.specs.Crash.{IsDoneNext, IsOneOf, only_text, texts_of_marks, last_of, after_report, since_done}
use Rattle.moo_server_core.specs.Application.{Layer}
use Rattle.moo_server_core.specs.Meaning.{State, Entry, Marks, Passes, Steps, Takes, Run, is_passed_over, trace_of}
use Rattle.moo_dbtext_read.specs.Saved.{Saved}
use Rattle.moo_server_core.specs.Server.{MarkSpells, MarksSpell, traces_under}
use Rattle.moo_server_core.specs.Calls.{IsPrefix}
use Rattle.moo_server_core.proofs.Joining.{Texts, one_of_either, last_of-push}
use Rattle.moo_server_core.proofs.Running.{traces-append}

-- ---- the event that has a text's mark, counted from 1, and 0 for the start

-- the place of the last mark so far
abbrev pub place_marked : Option (List ℕ) → ℕ → ℕ → ℕ
place_marked None here at = at
place_marked (Some text) here at = here

-- the place of the mark of the last report done so far
abbrev pub place_reported : Option Report → ℕ → ℕ → ℕ
place_reported None at done = done
place_reported (Some Done) at done = at
place_reported (Some report) at done = done

-- the place of the mark of the last report done, after so many events, whose last mark is at that place
abbrev pub place_from : ℕ → ℕ → ℕ → List Trace → ℕ
place_from count at done [] = done
place_from count at done (trace ∷ traces) =
    place_from (count + 1) (place_marked trace.mark (count + 1) at) (place_reported trace.report at done) traces

-- the place of the mark of the last report done, 0 for none
abbrev pub place_done : List Trace → ℕ
place_done traces = place_from 0 0 0 traces

mark_rises : (mark : Option (List ℕ)) (count at : ℕ) → at ≤ count → (at ≤ place_marked mark (count + 1) at) × (place_marked mark (count + 1) at ≤ count + 1)
mark_rises None count at le = (omega arith, omega (arith, le))
mark_rises (Some text) count at le = (omega (arith, le), omega arith)

mark_here : (mark : Option (List ℕ)) (here at : ℕ) → mark ≢ None → place_marked mark here at ≡ here
mark_here None here at some = absurd (some refl)
mark_here (Some text) here at some = refl

report_rises : (report : Option Report) (at done : ℕ) → done ≤ at → (done ≤ place_reported report at done) × (place_reported report at done ≤ at)
report_rises None at done le = (omega arith, le)
report_rises (Some Done) at done le = (le, omega arith)
report_rises (Some Failed) at done le = (omega arith, le)

-- no later event sets it back
place_rises : (ts : List Trace) (count at done : ℕ) → done ≤ at → at ≤ count → done ≤ place_from count at done ts
place_rises [] count at done le within = omega arith
place_rises (t ∷ ts) count at done le within =
    let m = mark_rises t.mark count at within in
    let r = report_rises t.report at done le in
    let rest = place_rises ts (count + 1) (place_marked t.mark (count + 1) at) (place_reported t.report at done) (omega (arith, r.1, m.0)) m.1 in
    omega (arith, r.0, rest)

-- if the next report says done, it is the last mark's place or a later one
done_counts : (ts : List Trace) (count at done : ℕ) → done ≤ at → at ≤ count → IsDoneNext ts → at ≤ place_from count at done ts
done_counts [] count at done le within next = absurd next
done_counts (t ∷ ts) count at done le within next =
    ⊎_elim
    (λ is.
    let same : place_reported t.report at done ≡ at = ap (λ (r : Option Report). place_reported r at done) is in
    let rest = place_rises ts (count + 1) (place_marked t.mark (count + 1) at) (place_reported t.report at done) (omega (arith, same, m.0)) m.1 in
    omega (arith, same, rest))
    (λ later.
    let same : place_reported t.report at done ≡ done = ap (λ (r : Option Report). place_reported r at done) later.0 in
    let rest = done_counts ts (count + 1) (place_marked t.mark (count + 1) at) (place_reported t.report at done) (omega (arith, same, le, m.0)) m.1 later.1 in
    omega (arith, m.0, rest))
    next
  where
    m : (at ≤ place_marked t.mark (count + 1) at) × (place_marked t.mark (count + 1) at ≤ count + 1)
    m = mark_rises t.mark count at within

-- the place of a mark whose next report says done
place_at : (front ts : List Trace) (e : Trace) (count at done : ℕ) → done ≤ at → at ≤ count → e.mark ≢ None → IsDoneNext ts
    → count + length front + 1 ≤ place_from count at done (front ++ e ∷ ts)
place_at [] ts e count at done le within some next =
    let m = mark_rises e.mark count at within in
    let r = report_rises e.report at done le in
    let here = mark_here e.mark (count + 1) at some in
    let rest = done_counts ts (count + 1) (place_marked e.mark (count + 1) at) (place_reported e.report at done) (omega (arith, r.1, m.0)) m.1 next in
    omega (arith, here, rest)
place_at (f ∷ front) ts e count at done le within some next =
    let m = mark_rises f.mark count at within in
    let r = report_rises f.report at done le in
    let rest = place_at front ts e (count + 1) (place_marked f.mark (count + 1) at) (place_reported f.report at done) (omega (arith, r.1, m.0)) m.1 some next in
    omega (arith, rest)

-- ---- the place of a mark

pub last_is : (texts : Texts) (c : List ℕ) → IsOneOf (last_of texts) c → last_of texts ≡ c ∷ []
last_is [] c one = absurd one
last_is (x ∷ []) c (inl same) = ap (λ (t : List ℕ). t ∷ []) (sym same)
last_is (x ∷ []) c (inr none) = absurd none
last_is (x ∷ y ∷ texts) c one = last_is (y ∷ texts) c one

last_last : (texts : Texts) → last_of (last_of texts) ≡ last_of texts
last_last [] = refl
last_last (x ∷ []) = refl
last_last (x ∷ y ∷ texts) = last_last (y ∷ texts)

length-push : {A : Type 0} (xs : List A) (x : A) → length (xs ++ x ∷ []) ≡ length xs + 1
length-push [] x = refl
length-push (y ∷ xs) x = let rest = length-push xs x in omega (arith, rest)

module _ {S Application : Type 0} (l : Layer S Application Saved) where
  -- among all these events one carries the mark of this text, and it isn't before place n
  pub record IsMarkAt (all : List (Entry Saved)) (c : List ℕ) (n : ℕ) : Type 0 where
    pub prefix : List (Entry Saved)
    pub last : Entry Saved
    pub rest : List (Entry Saved)
    pub all_is : all ≡ (prefix ++ last ∷ []) ++ rest
    pub marked : option_map l.meaning.text_of last.mark ≡ Some c
    pub enough : n ≤ length prefix + 1

  no_later : (all : List (Entry Saved)) (c : List ℕ) (n m : ℕ) → m ≤ n → IsMarkAt all c n → IsMarkAt all c m
  no_later all c n m le at = record { prefix = at.prefix; last = at.last; rest = at.rest; all_is = at.all_is; marked = at.marked; enough = omega (arith, le, at.enough) }

  -- the texts so far, after these events
  pub record Placed (all : List (Entry Saved)) (texts : Texts) (count at done : ℕ) : Type 0 where
    pub each : (c : List ℕ) → IsOneOf texts c → IsMarkAt all c done
    pub newest : (c : List ℕ) → last_of texts ≡ c ∷ [] → IsMarkAt all c at
    pub at_in : at ≤ count
    pub done_in : done ≤ count

  -- a report, and then a mark
  reported : (all : List (Entry Saved)) (texts : Texts) (count at done : ℕ) (report : Option Report) → Placed all texts count at done
      → Placed all (after_report report texts) count at (place_reported report at done)
  reported all texts count at done None placed = placed
  reported all texts count at done (Some Failed) placed = placed
  reported all texts count at done (Some Done) placed = record {
    each = λ c one. placed.newest c (last_is texts c one);
    newest = λ c is. placed.newest c (sym (last_last texts) ∙ is);
    at_in = placed.at_in;
    done_in = placed.at_in;
  }

  marked : (all front es tail : List (Entry Saved)) (e : Entry Saved) (texts : Texts) (at done : ℕ) (mark : Option Saved) → e.mark ≡ mark
      → all ≡ (front ++ e ∷ es) ++ tail → Placed all texts (length front) at done
      → Placed all (texts ++ only_text (option_map l.meaning.text_of mark)) (length front + 1) (place_marked (option_map l.meaning.text_of mark) (length front + 1) at) done
  marked all front es tail e texts at done None is all_is placed = record {
    each = λ c one. ⊎_elim (λ was. placed.each c was) (λ none. absurd none) (one_of_either texts [] c one);
    newest = λ c same. placed.newest c (ap last_of (sym (nil texts)) ∙ same);
    at_in = let le = placed.at_in in omega (arith, le);
    done_in = let le = placed.done_in in omega (arith, le);
  }
    where
      nil : (xs : Texts) → xs ++ [] ≡ xs
      nil [] = refl
      nil (x ∷ xs) = ap (λ (ts : Texts). x ∷ ts) (nil xs)
  marked all front es tail e texts at done (Some saved) is all_is placed = record {
    each = λ c one. ⊎_elim (λ was. placed.each c was) (λ new. ⊎_elim (λ same. no_later all c (length front + 1) done (omega (arith, placed.done_in)) (here c (sym same))) (λ none. absurd none) new)
        (one_of_either texts (l.meaning.text_of saved ∷ []) c one);
    newest = λ c same. here c (let pushed = last_of-push texts (l.meaning.text_of saved) in let both : l.meaning.text_of saved ∷ [] ≡ c ∷ [] = sym pushed ∙ same in cc);
    at_in = omega arith;
    done_in = let le = placed.done_in in omega (arith, le);
  }
    where
      here : (c : List ℕ) → l.meaning.text_of saved ≡ c → IsMarkAt all c (length front + 1)
      here c same = record {
        prefix = front;
        last = e;
        rest = es ++ tail;
        all_is = all_is ∙ ap (λ (es' : List (Entry Saved)). es' ++ tail) (sym (append_assoc front (e ∷ []) es)) ∙ append_assoc (front ++ e ∷ []) es tail;
        marked = ap (option_map l.meaning.text_of) is ∙ ap Some same;
        enough = omega arith;
      }

  -- each text that counts has its mark at the place of the last report done, or after it
  placed_on : (all front es tail : List (Entry Saved)) (texts : Texts) (at done : ℕ) → all ≡ (front ++ es) ++ tail → Placed all texts (length front) at done
      → (c : List ℕ) → IsOneOf (since_done texts (traces_under l.meaning es)) c → IsMarkAt all c (place_from (length front) at done (traces_under l.meaning es))
  placed_on all front [] tail texts at done all_is placed c one = placed.each c one
  placed_on all front (e ∷ es) tail texts at done all_is placed c one =
      let next = marked all front es tail e (after_report e.report texts) at (place_reported e.report at done) e.mark refl all_is (reported all texts (length front) at done e.report placed) in
      let count : length (front ++ e ∷ []) ≡ length front + 1 = length-push front e in
      let trace : Trace = trace_of l.meaning.text_of e in
      subst (λ (n : ℕ). IsMarkAt all c (place_from n (place_marked trace.mark (length front + 1) at) (place_reported e.report at done) (traces_under l.meaning es))) count
      (placed_on all (front ++ e ∷ []) es tail (after_report e.report texts ++ only_text trace.mark) (place_marked trace.mark (length front + 1) at) (place_reported e.report at done)
      (all_is ∙ ap (λ (es' : List (Entry Saved)). es' ++ tail) (sym (append_assoc front (e ∷ []) es)))
      (subst (λ (n : ℕ). Placed all (after_report e.report texts ++ only_text trace.mark) n (place_marked trace.mark (length front + 1) at) (place_reported e.report at done)) (sym count) next) c one)

  -- the place is within the events
  placed_within : (es : List Trace) (count at done : ℕ) → at ≤ count → done ≤ count → place_from count at done es ≤ count + length es
  placed_within [] count at done at_in done_in = omega arith
  placed_within (e ∷ es) count at done at_in done_in =
      let rest = placed_within es (count + 1) (place_marked e.mark (count + 1) at) (place_reported e.report at done) (mark_in e.mark) (report_in e.report) in omega (arith, rest)
    where
      mark_in : (mark : Option (List ℕ)) → place_marked mark (count + 1) at ≤ count + 1
      mark_in None = omega arith
      mark_in (Some text) = omega arith

      report_in : (report : Option Report) → place_reported report at done ≤ count + 1
      report_in None = omega arith
      report_in (Some Done) = omega arith
      report_in (Some Failed) = omega arith

  -- the text of any mark
  any_mark : (front es : List (Entry Saved)) (c : List ℕ) → IsOneOf (texts_of_marks (traces_under l.meaning es)) c → IsMarkAt (front ++ es) c (length front + 1)
  any_mark front [] c one = absurd one
  any_mark front (e ∷ es) c one =
      ⊎_elim (λ now. here e.mark refl now)
      (λ later.
      let at = any_mark (front ++ e ∷ []) es c later in
      let count : length (front ++ e ∷ []) ≡ length front + 1 = length-push front e in
      subst (λ (all : List (Entry Saved)). IsMarkAt all c (length front + 1)) (append_assoc front (e ∷ []) es)
      (no_later ((front ++ e ∷ []) ++ es) c (length (front ++ e ∷ []) + 1) (length front + 1) (omega (arith, count)) at))
      (one_of_either (only_text (trace_of l.meaning.text_of e).mark) (texts_of_marks (traces_under l.meaning es)) c one)
    where
      here : (mark : Option Saved) → e.mark ≡ mark → IsOneOf (only_text (option_map l.meaning.text_of mark)) c → IsMarkAt (front ++ e ∷ es) c (length front + 1)
      here None is none = absurd none
      here (Some saved) is (inr none) = absurd none
      here (Some saved) is (inl same) = record {
        prefix = front;
        last = e;
        rest = es;
        all_is = sym (append_assoc front (e ∷ []) es);
        marked = ap (option_map l.meaning.text_of) is ∙ ap Some (sym same);
        enough = omega arith;
      }

  -- what counts after some events, and any mark of the events after them
  pub mark_at : (es es' : List (Entry Saved)) (c : List ℕ) → IsOneOf (since_done [] (traces_under l.meaning es) ++ texts_of_marks (traces_under l.meaning es')) c
      → IsMarkAt (es ++ es') c (place_done (traces_under l.meaning es))
  mark_at es es' c one =
      ⊎_elim
      (λ so_far. placed_on (es ++ es') [] es es' [] 0 0 refl
      (record { each = λ t none. absurd none; newest = λ t is. absurd (cc); at_in = omega arith; done_in = omega arith }) c so_far)
      (λ later. no_later (es ++ es') c (length es + 1) (place_done (traces_under l.meaning es))
      (let le = placed_within (traces_under l.meaning es) 0 0 0 (omega arith) (omega arith) in let same = length-map es in omega (arith, le, same)) (any_mark es es' c later))
      (one_of_either (since_done [] (traces_under l.meaning es)) (texts_of_marks (traces_under l.meaning es')) c one)
    where
      length-map : (xs : List (Entry Saved)) → length (traces_under l.meaning xs) ≡ length xs
      length-map [] = refl
      length-map (x ∷ xs) = let rest = length-map xs in omega (arith, rest)

  -- ---- the world of a mark

  takes_mark' : (b : Bool) (old new : State Application) (entry : Entry Saved) (saved : Saved)
      → MatchBool b (Passes l.meaning old entry new) (Steps l.meaning old entry new) → entry.mark ≡ Some saved → saved ≡ l.meaning.saved_of new.sessions
  takes_mark' true old new entry saved takes is = let none = takes.mark in absurd (cc (none, is))
  takes_mark' false old new entry saved takes is =
      let marks = subst (λ (m : Option Saved). Marks l.meaning m takes.reported takes.started new) is takes.marks in marks.4

  -- a run's parts
  pub run_split : (es es' : List (Entry Saved)) (old new : State Application) → Run l.meaning old (es ++ es') new → (mid : State Application) × Run l.meaning old es mid × Run l.meaning mid es' new
  run_split [] es' old new run = (old, refl, run)
  run_split (e ∷ es) es' old new run = let rest = run_split es es' run.0 new run.2 in (rest.0, (run.0, run.1, rest.1), rest.2)

  pub last_taken : (es : List (Entry Saved)) (e : Entry Saved) (old new : State Application) → Run l.meaning old (es ++ e ∷ []) new → (mid : State Application) × Takes l.meaning mid e new
  last_taken [] e old new run = (old, subst (λ (s : State Application). Takes l.meaning old e s) (sym run.2) run.1)
  last_taken (f ∷ es) e old new run = last_taken es e run.0 new run.2

  spelled_at : (es : List (Entry Saved)) (e : Entry Saved) (rest : List (Entry Saved)) (saved : Saved) → MarksSpell l.meaning ((es ++ e ∷ []) ++ rest) → e.mark ≡ Some saved
      → l.meaning.Spells (l.meaning.text_of saved) saved
  spelled_at [] e rest saved all is = subst (λ (m : Option Saved). MarkSpells l.meaning m) is all.0
  spelled_at (f ∷ es) e rest saved all is = spelled_at es e rest saved all.1 is

  traces_length : (xs : List (Entry Saved)) → length (traces_under l.meaning xs) ≡ length xs
  traces_length [] = refl
  traces_length (x ∷ xs) = let rest = traces_length xs in omega (arith, rest)

  mapped : (mark : Option Saved) → mark ≢ None → option_map l.meaning.text_of mark ≢ None
  mapped None some is = some refl
  mapped (Some saved) some is = cc

  -- a mark is the world after a prefix
  pub mark_is_prefix : (start end : State Application) (returned entries : List (Entry Saved)) (c : List ℕ) → Run l.meaning start entries end → MarksSpell l.meaning entries
      → IsMarkAt entries c (place_done (traces_under l.meaning returned))
      → (saved : Saved) × l.meaning.Spells c saved × IsPrefix l start returned entries saved
  mark_is_prefix start end returned entries c run spelled at = of_mark at.last.mark refl
    where
      -- the mark isn't before one whose next report in `returned` says done
      holds : (front following : List (Entry Saved)) (e : Entry Saved) → returned ≡ front ++ e ∷ following → e.mark ≢ None → IsDoneNext (traces_under l.meaning following)
          → length front ≤ length at.prefix
      holds front following e is some next =
          let place = place_at (traces_under l.meaning front) (traces_under l.meaning following) (trace_of l.meaning.text_of e) 0 0 0 (omega arith) (omega arith) (mapped e.mark some) next in
          let same : place_done (traces_under l.meaning returned) ≡ place_done (traces_under l.meaning front ++ trace_of l.meaning.text_of e ∷ traces_under l.meaning following) =
          ap (λ (es : List (Entry Saved)). place_done (traces_under l.meaning es)) is ∙ ap place_done (traces-append l front (e ∷ following)) in
          omega (arith, place, same, at.enough, traces_length front)

      parts : (mid : State Application) × Run l.meaning start (at.prefix ++ at.last ∷ []) mid × Run l.meaning mid at.rest end
      parts = run_split (at.prefix ++ at.last ∷ []) at.rest start end (subst (λ (es : List (Entry Saved)). Run l.meaning start es end) at.all_is run)

      of_mark : (mark : Option Saved) → at.last.mark ≡ mark → (saved : Saved) × l.meaning.Spells c saved × IsPrefix l start returned entries saved
      of_mark None is = let none : option_map l.meaning.text_of at.last.mark ≡ None = ap (option_map l.meaning.text_of) is in absurd (cc (none, at.marked))
      of_mark (Some saved) is =
          let text : Some (l.meaning.text_of saved) ≡ Some c = sym (ap (option_map l.meaning.text_of) is) ∙ at.marked in
          let same : l.meaning.text_of saved ≡ c = cc in
          let taken = last_taken at.prefix at.last start parts.0 parts.1 in (
            saved,
            subst (λ (t : List ℕ). l.meaning.Spells t saved) same (spelled_at at.prefix at.last at.rest saved (subst (λ (es : List (Entry Saved)). MarksSpell l.meaning es) at.all_is spelled) is),
            record {
              prefix = at.prefix;
              last = at.last;
              rest = at.rest;
              state = parts.0;
              all = at.all_is;
              marked = is;
              run = parts.1;
              world = takes_mark' (is_passed_over l.meaning taken.0 at.last.event) taken.0 parts.0 at.last saved taken.1.takes is;
              enough = holds;
            },
          )
