-- What a crash may leave, over events one after another.
use Rattle.std.proofs.Common.{◌≡◌, ◌≢◌, ◌⊎◌, inl, inr, ⊎_elim, ℕ, List, [], ◌∷◌, ◌++◌, Option, Some, None, Bool, refl, sym, ◌∙◌, ap, subst, arith, append_assoc}
use Rattle.std.proofs.lemmas.List.{append-nil}
use Rattle.moo_disk.specs.Disk.{DiskKind, DiskView, Gains}
use Rattle.moo_server_core.specs.Traces.{Report, Done, Failed, Trace}
use Rattle.moo_server_core.specs.Crash.{IsOneOf, only_text, texts_of_marks, last_of, after_report, since_done, NoneDone, Survives}

abbrev pub Texts : Type 0
Texts = List (List ℕ)

pub one_of_left : (xs ys : Texts) (c : List ℕ) → IsOneOf xs c → IsOneOf (xs ++ ys) c
one_of_left [] ys c one = absurd one
one_of_left (x ∷ xs) ys c (inl here) = inl here
one_of_left (x ∷ xs) ys c (inr there) = inr (one_of_left xs ys c there)

pub one_of_right : (xs ys : Texts) (c : List ℕ) → IsOneOf ys c → IsOneOf (xs ++ ys) c
one_of_right [] ys c one = one
one_of_right (x ∷ xs) ys c one = inr (one_of_right xs ys c one)

pub one_of_either : (xs ys : Texts) (c : List ℕ) → IsOneOf (xs ++ ys) c → IsOneOf xs c ⊎ IsOneOf ys c
one_of_either [] ys c one = inr one
one_of_either (x ∷ xs) ys c (inl here) = inl (inl here)
one_of_either (x ∷ xs) ys c (inr there) = ⊎_elim (λ left. inl (inr left)) (λ right. inr right) (one_of_either xs ys c there)

pub one_of_last : (texts : Texts) (c : List ℕ) → IsOneOf (last_of texts) c → IsOneOf texts c
one_of_last [] c one = one
one_of_last (x ∷ []) c one = one
one_of_last (x ∷ y ∷ texts) c one = inr (one_of_last (y ∷ texts) c one)

pub last_of-push : (texts : Texts) (text : List ℕ) → last_of (texts ++ text ∷ []) ≡ text ∷ []
last_of-push [] text = refl
last_of-push (x ∷ []) text = refl
last_of-push (x ∷ y ∷ texts) text = last_of-push (y ∷ texts) text

-- a list is its front and its last one
pub last_split : (texts : Texts) (text : List ℕ) → last_of texts ≡ text ∷ [] → (front : Texts) × (texts ≡ front ++ text ∷ [])
last_split [] text is = absurd (cc)
last_split (x ∷ []) text is = ([], is)
last_split (x ∷ y ∷ texts) text is = let rest = last_split (y ∷ texts) text is in (x ∷ rest.0, ap (λ (l : Texts). x ∷ l) rest.1)

pub since_done-append : (texts : Texts) (es es' : List Trace) → since_done texts (es ++ es') ≡ since_done (since_done texts es) es'
since_done-append texts [] es' = refl
since_done-append texts (e ∷ es) es' = since_done-append (after_report e.report texts ++ only_text e.mark) es es'

pub texts_of_marks-append : (es es' : List Trace) → texts_of_marks (es ++ es') ≡ texts_of_marks es ++ texts_of_marks es'
texts_of_marks-append [] es' = refl
texts_of_marks-append (e ∷ es) es' =
    ap (λ (l : Texts). only_text e.mark ++ l) (texts_of_marks-append es es') ∙ sym (append_assoc (only_text e.mark) (texts_of_marks es) (texts_of_marks es'))

pub none_done-append : (es es' : List Trace) → NoneDone es → NoneDone es' → NoneDone (es ++ es')
none_done-append [] es' none none' = none'
none_done-append (e ∷ es) es' none none' = (none.0, none_done-append es es' none.1 none')

pub after_other : (report : Option Report) (texts : Texts) → report ≢ Some Done → after_report report texts ≡ texts
after_other None texts other = refl
after_other (Some Done) texts other = absurd (other refl)
after_other (Some Failed) texts other = refl

after_fewer : (report : Option Report) (texts : Texts) (c : List ℕ) → IsOneOf (after_report report texts) c → IsOneOf texts c
after_fewer None texts c one = one
after_fewer (Some Done) texts c one = one_of_last texts c one
after_fewer (Some Failed) texts c one = one

-- where no report says done, each stays
pub keeps_all : (texts : Texts) (es : List Trace) (c : List ℕ) → NoneDone es → IsOneOf texts c → IsOneOf (since_done texts es) c
keeps_all texts [] c none one = one
keeps_all texts (e ∷ es) c none one =
    keeps_all (after_report e.report texts ++ only_text e.mark) es c none.1
    (one_of_left (after_report e.report texts) (only_text e.mark) c (subst (λ (l : Texts). IsOneOf l c) (sym (after_other e.report texts none.0)) one))

-- none is added but the marks'
pub no_others : (texts : Texts) (es : List Trace) (c : List ℕ) → IsOneOf (since_done texts es) c → IsOneOf (texts ++ texts_of_marks es) c
no_others texts [] c one = one_of_left texts [] c one
no_others texts (e ∷ es) c one =
    ⊎_elim
    (λ now. ⊎_elim (λ was. one_of_left texts (texts_of_marks (e ∷ es)) c (after_fewer e.report texts c was)) (λ mark. one_of_right texts (texts_of_marks (e ∷ es)) c (one_of_left (only_text e.mark) (texts_of_marks es) c mark))
    (one_of_either (after_report e.report texts) (only_text e.mark) c now))
    (λ later. one_of_right texts (texts_of_marks (e ∷ es)) c (one_of_right (only_text e.mark) (texts_of_marks es) c later))
    (one_of_either (after_report e.report texts ++ only_text e.mark) (texts_of_marks es) c (no_others (after_report e.report texts ++ only_text e.mark) es c one))

-- one text or none
abbrev pub IsOneOrNone : Texts → Type 0
IsOneOrNone texts = (texts ≡ []) ⊎ ((text : List ℕ) × (texts ≡ text ∷ []))

pub gains_less : {P Q : List ℕ → Type 0} {old new : DiskView} → ((c : List ℕ) → P c → Q c) → Gains P old new → Gains Q old new
gains_less less gains = record {
  later = gains.later;
  now = λ c left. ⊎_elim (λ was. inl was) (λ p. inr (less c p)) (gains.now c left);
  since = λ t c le left. ⊎_elim (λ was. inl was) (λ p. inr (less c p)) (gains.since t c le left);
  remembers = gains.remembers;
}

pub gains_join : {P : List ℕ → Type 0} {old mid new : DiskView} → Gains P old mid → Gains P mid new → Gains P old new
gains_join first second = record {
  later = omega (arith, first.later, second.later);
  now = λ c left. ⊎_elim (λ was. first.now c was) (λ p. inr p) (second.now c left);
  since = λ t c le left. ⊎_elim (λ was. first.since t c le was) (λ p. inr p) (second.since t c (omega (arith, le, first.later)) left);
  remembers = λ t c le left. second.remembers t c (omega (arith, le, first.later)) (first.remembers t c le left);
}

pub gains_none : {P : List ℕ → Type 0} (disk : DiskView) → Gains P disk disk
gains_none disk = record { later = omega arith; now = λ c left. inl left; since = λ t c le left. inl left; remembers = λ t c le left. left }

-- ---- whatever texts came before

last_front : (earlier texts : Texts) → (front : Texts) × (last_of (earlier ++ texts) ≡ front ++ last_of texts)
last_front earlier [] = (last_of earlier, ap last_of (append-nil earlier) ∙ sym (append-nil (last_of earlier)))
last_front [] (x ∷ texts) = ([], refl)
last_front (y ∷ []) (x ∷ texts) = ([], refl)
last_front (y ∷ z ∷ earlier) (x ∷ texts) = last_front (z ∷ earlier) (x ∷ texts)

report_front : (report : Option Report) (earlier texts : Texts) → (front : Texts) × (after_report report (earlier ++ texts) ≡ front ++ after_report report texts)
report_front None earlier texts = (earlier, refl)
report_front (Some Done) earlier texts = last_front earlier texts
report_front (Some Failed) earlier texts = (earlier, refl)

front_of : (earlier texts : Texts) (es : List Trace) → (front : Texts) × (since_done (earlier ++ texts) es ≡ front ++ since_done texts es)
front_of earlier texts [] = (earlier, refl)
front_of earlier texts (e ∷ es) =
    let first = report_front e.report earlier texts in
    let rest = front_of first.0 (after_report e.report texts ++ only_text e.mark) es in (
      rest.0,
      ap (λ (l : Texts). since_done (l ++ only_text e.mark) es) first.1
          ∙ ap (λ (l : Texts). since_done l es) (append_assoc first.0 (after_report e.report texts) (only_text e.mark)) ∙ rest.1,
    )

-- `Survives`, whatever texts came before those
pub record SurvivesAfter {D : Type 0} (kind : DiskKind D) (old new : D) (texts after : Texts) (traces : List Trace) : Type 0 where
  pub gains : Gains (IsOneOf (texts ++ texts_of_marks traces)) (kind.view old) (kind.view new)
  pub left : (earlier : Texts) (c : List ℕ) → (kind.view new).may_leave c
      → (NoneDone traces × (kind.view old).may_leave c) ⊎ IsOneOf (since_done (earlier ++ texts) traces) c
  pub latest : (earlier : Texts) (text : List ℕ) → after ≡ text ∷ [] → last_of (since_done (earlier ++ texts) traces) ≡ text ∷ []

shown : {D : Type 0} (kind : DiskKind D) (old new : D) (texts after : Texts) (es : List Trace) → SurvivesAfter kind old new texts after es → Survives kind old new texts after es
shown kind old new texts after es so = record { always = so.gains; in_the_end = λ c left. so.left [] c left; latest = λ text is. so.latest [] text is }

pub over : {D : Type 0} (kind : DiskKind D) (old new : D) (texts after : Texts) (es : List Trace) → Survives kind old new texts after es → SurvivesAfter kind old new texts after es
over kind old new texts after es survives = record {
  gains = survives.always;
  left = λ earlier c left.
      let front = front_of earlier texts es in
      ⊎_elim (λ was. inl was) (λ one. inr (subst (λ (l : Texts). IsOneOf l c) (sym front.1) (one_of_right front.0 (since_done texts es) c one))) (survives.in_the_end c left);
  latest = λ earlier text is.
      let front = front_of earlier texts es in
      let split = last_split (since_done texts es) text (survives.latest text is) in
      ap last_of (front.1 ∙ ap (λ (l : Texts). front.0 ++ l) split.1 ∙ sym (append_assoc front.0 split.0 (text ∷ []))) ∙ last_of-push (front.0 ++ split.0) text;
}

module _ {D : Type 0} (kind : DiskKind D) where
  -- the texts before and after the events, where the text that is on its way between them is the last of those so far
  split : (first mid : D) (texts between : Texts) (es : List Trace) → SurvivesAfter kind first mid texts between es → IsOneOrNone between
      → (earlier : Texts) → (front : Texts) × (since_done (earlier ++ texts) es ≡ front ++ between)
  split first mid texts between es survives (inl none) earlier =
      (since_done (earlier ++ texts) es, sym (append-nil (since_done (earlier ++ texts) es)) ∙ ap (λ (l : Texts). since_done (earlier ++ texts) es ++ l) (sym none))
  split first mid texts between es survives (inr one) earlier =
      let parts = last_split (since_done (earlier ++ texts) es) one.0 (survives.latest earlier one.0 one.1) in
      (parts.0, parts.1 ∙ ap (λ (l : Texts). parts.0 ++ l) (sym one.1))

  -- events, and then events
  join : (first mid last : D) (texts between after : Texts) (es es' : List Trace) → IsOneOrNone between
      → SurvivesAfter kind first mid texts between es → SurvivesAfter kind mid last between after es' → SurvivesAfter kind first last texts after (es ++ es')
  join first mid last texts between after es es' one_or_none survives survives' = record {
    gains = gains_join (gains_less so_far survives.gains) (gains_less from_there survives'.gains);
    left = ends;
    latest = λ earlier text is.
        let parts = split first mid texts between es survives one_or_none earlier in
        ap last_of (since_done-append (earlier ++ texts) es es' ∙ ap (λ (l : Texts). since_done l es') parts.1) ∙ survives'.latest parts.0 text is;
  }
    where
      all_is : texts ++ texts_of_marks (es ++ es') ≡ (texts ++ texts_of_marks es) ++ texts_of_marks es'
      all_is = ap (λ (l : Texts). texts ++ l) (texts_of_marks-append es es') ∙ sym (append_assoc texts (texts_of_marks es) (texts_of_marks es'))

      so_far : (c : List ℕ) → IsOneOf (texts ++ texts_of_marks es) c → IsOneOf (texts ++ texts_of_marks (es ++ es')) c
      so_far c one = subst (λ (l : Texts). IsOneOf l c) (sym all_is) (one_of_left (texts ++ texts_of_marks es) (texts_of_marks es') c one)

      on_the_way : (c : List ℕ) → IsOneOf between c → IsOneOf (texts ++ texts_of_marks es) c
      on_the_way c one =
          let parts = split first mid texts between es survives one_or_none [] in
          no_others texts es c (subst (λ (l : Texts). IsOneOf l c) (sym parts.1) (one_of_right parts.0 between c one))

      from_there : (c : List ℕ) → IsOneOf (between ++ texts_of_marks es') c → IsOneOf (texts ++ texts_of_marks (es ++ es')) c
      from_there c one =
          ⊎_elim (λ way. so_far c (on_the_way c way)) (λ mark. subst (λ (l : Texts). IsOneOf l c) (sym all_is) (one_of_right (texts ++ texts_of_marks es) (texts_of_marks es') c mark))
          (one_of_either between (texts_of_marks es') c one)

      ends : (earlier : Texts) (c : List ℕ) → (kind.view last).may_leave c
          → (NoneDone (es ++ es') × (kind.view first).may_leave c) ⊎ IsOneOf (since_done (earlier ++ texts) (es ++ es')) c
      ends earlier c left =
          let parts = split first mid texts between es survives one_or_none earlier in
          let same : since_done (earlier ++ texts) (es ++ es') ≡ since_done (since_done (earlier ++ texts) es) es' = since_done-append (earlier ++ texts) es es' in
          ⊎_elim
          (λ was. ⊎_elim
          (λ before. inl (none_done-append es es' before.0 was.0, before.1))
          (λ one. inr (subst (λ (l : Texts). IsOneOf l c) (sym same) (keeps_all (since_done (earlier ++ texts) es) es' c was.0 one)))
          (survives.left earlier c was.1))
          (λ one. inr (subst (λ (l : Texts). IsOneOf l c) (ap (λ (l : Texts). since_done l es') (sym parts.1) ∙ sym same) one))
          (survives'.left parts.0 c left)

  -- no event
  pub survives_none : (disk : D) (texts : Texts) → Survives kind disk disk texts texts []
  survives_none disk texts = shown kind disk disk texts texts [] (record {
    gains = gains_none (kind.view disk);
    left = λ earlier c left. inl (tt, left);
    latest = λ earlier text is. ap last_of (ap (λ (l : Texts). earlier ++ l) is) ∙ last_of-push earlier text;
  })

  -- one event: first its report, then its mark
  one' : (old new : D) (texts told after : Texts) (flush : Bool) (report : Option Report) (mark : Option (List ℕ)) → IsOneOrNone texts
      → Gains (IsOneOf texts) (kind.view old) (kind.view new) → (report ≡ Some Done → (c : List ℕ) → (kind.view new).may_leave c → IsOneOf texts c)
      → (report ≡ None → told ≡ texts) → (report ≢ None → told ≡ []) → (mark ≡ None → after ≡ told)
      → ((saved : List ℕ) → mark ≡ Some saved → after ≡ saved ∷ [])
      → SurvivesAfter kind old new texts after (record { flush = flush; report = report; mark = mark } ∷ [])
  one' old new texts told after flush report mark one_or_none gains done unreported reported unmarked marked = record {
    gains = gains_less (λ c one. one_of_left texts _ c one) gains;
    left = λ earlier c left. ends report done earlier c left;
    latest = λ earlier text is. newest mark report unreported reported unmarked marked earlier text is;
  }
    where
      ends : (r : Option Report) → (r ≡ Some Done → (c : List ℕ) → (kind.view new).may_leave c → IsOneOf texts c) → (earlier : Texts) (c : List ℕ) → (kind.view new).may_leave c
          → (NoneDone (record { flush = flush; report = r; mark = mark } ∷ []) × (kind.view old).may_leave c) ⊎ IsOneOf (after_report r (earlier ++ texts) ++ only_text mark) c
      ends None done earlier c left =
          ⊎_elim (λ was. inl (((λ is. absurd (cc)), tt), was)) (λ one. inr (one_of_left (earlier ++ texts) (only_text mark) c (one_of_right earlier texts c one))) (gains.now c left)
      ends (Some Failed) done earlier c left =
          ⊎_elim (λ was. inl (((λ is. absurd (cc)), tt), was)) (λ one. inr (one_of_left (earlier ++ texts) (only_text mark) c (one_of_right earlier texts c one))) (gains.now c left)
      ends (Some Done) done earlier c left = inr (one_of_left (last_of (earlier ++ texts)) (only_text mark) c (only one_or_none (done refl c left)))
        where
          only : IsOneOrNone texts → IsOneOf texts c → IsOneOf (last_of (earlier ++ texts)) c
          only (inl none) one = absurd (subst (λ (l : Texts). IsOneOf l c) none one)
          only (inr single) one =
              subst (λ (l : Texts). IsOneOf l c) (single.1 ∙ sym (ap last_of (ap (λ (l : Texts). earlier ++ l) single.1) ∙ last_of-push earlier single.0)) one

      newest : (m : Option (List ℕ)) (r : Option Report) → (r ≡ None → told ≡ texts) → (r ≢ None → told ≡ []) → (m ≡ None → after ≡ told) → ((saved : List ℕ) → m ≡ Some saved → after ≡ saved ∷ [])
          → (earlier : Texts) (text : List ℕ) → after ≡ text ∷ [] → last_of (after_report r (earlier ++ texts) ++ only_text m) ≡ text ∷ []
      newest None None unreported reported unmarked marked earlier text is =
          let texts_is : texts ≡ text ∷ [] = sym (unreported refl) ∙ sym (unmarked refl) ∙ is in
          ap last_of (append-nil (earlier ++ texts) ∙ ap (λ (l : Texts). earlier ++ l) texts_is) ∙ last_of-push earlier text
      newest None (Some r) unreported reported unmarked marked earlier text is =
          let none : told ≡ [] = reported (λ some. absurd (cc)) in absurd (cc (unmarked refl, none, is))
      newest (Some saved) r unreported reported unmarked marked earlier text is =
          last_of-push (after_report r (earlier ++ texts)) (saved) ∙ sym (marked saved refl) ∙ is

  pub survives_one : (old new : D) (texts told after : Texts) (e : Trace) → IsOneOrNone texts
      → Gains (IsOneOf texts) (kind.view old) (kind.view new) → (e.report ≡ Some Done → (c : List ℕ) → (kind.view new).may_leave c → IsOneOf texts c)
      → (e.report ≡ None → told ≡ texts) → (e.report ≢ None → told ≡ []) → (e.mark ≡ None → after ≡ told)
      → ((saved : List ℕ) → e.mark ≡ Some saved → after ≡ saved ∷ [])
      → Survives kind old new texts after (e ∷ [])
  survives_one old new texts told after e one_or_none gains done unreported reported unmarked marked =
      shown kind old new texts after (e ∷ [])
      (one' old new texts told after e.flush e.report e.mark one_or_none gains done unreported reported unmarked marked)

  pub survives_join : (first mid last : D) (texts between after : Texts) (es es' : List Trace) → IsOneOrNone between
      → Survives kind first mid texts between es → Survives kind mid last between after es' → Survives kind first last texts after (es ++ es')
  survives_join first mid last texts between after es es' one_or_none survives survives' =
      shown kind first last texts after (es ++ es')
      (join first mid last texts between after es es' one_or_none (over kind first mid texts between es survives) (over kind mid last between after es' survives'))
