-- What a crash may leave, by the marks and the reports of events.
use Rattle.std.specs.Prelude.{◌≡◌, ◌≢◌, ◌⊎◌, ℕ, List, [], ◌∷◌, ◌++◌, Option, Some, None}
use Rattle.moo_disk.specs.Disk.{DiskKind, Gains}
use Rattle.moo_server_core.specs.Traces.{Report, Done, Trace}

-- one of these texts is c
abbrev pub IsOneOf : List (List ℕ) → List ℕ → Type 0
IsOneOf [] c = ⊥
IsOneOf (text ∷ texts) c = (c ≡ text) ⊎ IsOneOf texts c

-- a text, if there is one
abbrev pub only_text : Option (List ℕ) → List (List ℕ)
only_text None = []
only_text (Some text) = text ∷ []

-- the texts of the marks
abbrev pub texts_of_marks : List Trace → List (List ℕ)
texts_of_marks [] = []
texts_of_marks (trace ∷ traces) = only_text trace.mark ++ texts_of_marks traces

-- only the last one
abbrev pub last_of : {A : Type 0} → List A → List A
last_of [] = []
last_of (x ∷ []) = x ∷ []
last_of (x ∷ y ∷ xs) = last_of (y ∷ xs)

-- after a report done, the texts before that of the last mark no longer count
abbrev pub after_report : Option Report → List (List ℕ) → List (List ℕ)
after_report None texts = texts
after_report (Some Done) texts = last_of texts
after_report (Some report) texts = texts

-- the text of the mark of the last report done, and those of the later marks; if no report is done, also those before
abbrev pub since_done : List (List ℕ) → List Trace → List (List ℕ)
since_done texts [] = texts
since_done texts (trace ∷ traces) = since_done (after_report trace.report texts ++ only_text trace.mark) traces

-- no report says done
abbrev pub NoneDone : List Trace → Type 0
NoneDone [] = Unit {0}
NoneDone (trace ∷ traces) = (trace.report ≢ Some Done) × NoneDone traces

-- the next report says done
abbrev pub IsDoneNext : List Trace → Type 0
IsDoneNext [] = ⊥
IsDoneNext (trace ∷ traces) = (trace.report ≡ Some Done) ⊎ ((trace.report ≡ None) × IsDoneNext traces)

-- What a crash may leave of a disk that events carried from old to new. The text of the open checkpoint, if there is one, is in `texts`
-- before them and in `after` afterwards.
pub record Survives {D : Type 0} (kind : DiskKind D) (old new : D) (texts after : List (List ℕ)) (traces : List Trace) : Type 0 where
  -- at each moment a crash leaves what it left before, the open checkpoint's text, or that of a mark
  pub always : Gains (IsOneOf (texts ++ texts_of_marks traces)) (kind.view old) (kind.view new)
  -- in the end it leaves none from before the mark of the last report done
  pub in_the_end : (c : List ℕ) → (kind.view new).may_leave c → (NoneDone traces × (kind.view old).may_leave c) ⊎ IsOneOf (since_done texts traces) c
  -- the open checkpoint then writes the text of the last mark
  pub latest : (text : List ℕ) → after ≡ text ∷ [] → last_of (since_done texts traces) ≡ text ∷ []
