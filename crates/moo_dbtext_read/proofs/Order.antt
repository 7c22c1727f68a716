-- Two answers to the same bytes are alike.
use Rattle.std.proofs.Common.{◌≡◌, ◌≢◌, ℕ, ℤ, ◌<◌, List, length, Option, Some, None, Result, Ok, Err, ◌⊎◌, inl, inr, sym, ap, subst, ◌∙◌, arith}
use Rattle.std.proofs.lemmas.Bool.{cases_lt}
use Rattle.moo_syntax_grammar.specs.declared.names.Names.TheVariants.{Any}
use Rattle.moo_syntax_grammar.specs.Texts.{IsParsed}
use Rattle.moo_dbtext_object.specs.Lines.{limited}
use Rattle.moo_dbtext_object.specs.Objects as recorded
use Rattle.moo_dbtext_record.specs.Placing.{BeginsWithObjects}
use Rattle.moo_dbtext_record.specs.Answer.{answer_to}
use Rattle.moo_dbtext_record.specs.declared.fault.DbFault.{DbFault}
use Rattle.moo_dbtext_record.specs.declared.fault.DbFaultKind.TheVariants as kind
use Rattle.moo_dbtext_record.proofs.AnswerFound.{answer_found}
use Rattle.moo_dbtext_record.proofs.Placed.{one_set_of_objects}
use Rattle.moo_dbtext_read.specs.Faults.{AreToldAlike, Choice, TellsBy, chosen_by}
use Rattle.moo_dbtext_read.specs.Reading.{IsRefused}
use Rattle.moo_dbtext_read.proofs.Blame.{blamed_is_outside}
use Rattle.moo_dbtext_read.proofs.ProgramWhole.{source_told}
use Rattle.moo_dbtext_read.proofs.ProgramOrder.{AreSame, same_alike, same_fault, told_line, one_is_told, one_by_choice}
use Rattle.moo_dbtext_restore.specs.First.{IsFirst}
use Rattle.moo_dbtext_restore.specs.Faults.{IsHierarchyFault, IsCountFault}
use Rattle.moo_dbtext_read.specs.Saved.{saved_of}
use Rattle.moo_dbtext_read.specs.declared.saved.Saved as stored
use Rattle.moo_dbtext_read.specs.Objects.{of_objects, AreFaultless, HasNoObjectFault, HasObjectFault, line_of_object}
use Rattle.moo_dbtext_read.specs.Loading.{IsLoaded, HasToldObject, IsRefusedSo, LoadAnswers, LoadAnswersBy, IsKnown, AreAlike}
use Rattle.moo_dbtext_read.specs.Loading as loading
use Rattle.moo_dbtext_read.proofs.Worlds.{one_spelled}
use Rattle.moo_dbtext_read.proofs.Whole.{is_found, has_source, no_saved}

-- what is read isn't refused
read_or_refused : (bytes : List ℕ) (s : stored.Saved) (e : DbFault) → IsLoaded bytes (saved_of s) → IsRefused bytes (answer_to limited bytes) e → e.kind ≢ kind.Memory → ⊥
read_or_refused bytes s e h (inl memory) known = known memory
read_or_refused bytes s e h (inr (inl f)) known = let t = told_line bytes (answer_to limited bytes) e f known in let no = sym h.answer ∙ t.answers in cc
read_or_refused bytes s e h (inr (inr p)) known =
    let there = source_told bytes e h.text p (answer_found limited bytes h.text h.answer) in
    let b = has_source (IsParsed Any) h.text (saved_of s) h.is p.object p.verb p.is.source there in
    blamed_is_outside p.is.source p.fault b.0 p.is.blamed b.1

loaded_or_refused : (bytes : List ℕ) (s : stored.Saved) (e : DbFault) → IsLoaded bytes (saved_of s) → IsRefusedSo bytes e → e.kind ≢ kind.Memory → ⊥
loaded_or_refused bytes s e h (inl told) known = read_or_refused bytes s e h told.refused known
loaded_or_refused bytes s e h (inr told) known = no_saved bytes e (saved_of s) told (is_found bytes (Ok s) h)

-- ---- objects

first_of_two : (P : ℕ → Type 0) (n x y : ℕ) → IsFirst P n (Some x) → IsFirst P n (Some y) → x < y → ⊥
first_of_two P n x y h k lt = h.1 (k.2 x lt)

one_first : (P : ℕ → Type 0) (n x y : ℕ) → IsFirst P n (Some x) → IsFirst P n (Some y) → x ≡ y
one_first P n x y h k = elim (cases_lt x y) [
  | inl before ↦ absurd (first_of_two P n x y h k before)
  | inr not_before ↦ elim (cases_lt y x) [
    | inl following ↦ absurd (first_of_two P n y x k h following)
    | inr not_after ↦ omega arith
  ]
]

no_first : (P : ℕ → Type 0) (n x : ℕ) → IsFirst P n (Some x) → IsFirst P n None → ⊥
no_first P n x h k = h.1 (k x h.0)

-- these players and these objects have come
begun : (bytes : List ℕ) (ps qs : List ℤ) (os us : List (Option recorded.Object)) → BeginsWithObjects bytes ps os → BeginsWithObjects bytes qs us → (qs ≡ ps) × (us ≡ os)
begun bytes ps qs os us h k =
    let one = one_set_of_objects limited h.lines k.lines bytes h.stand k.stand h.all k.all in
    (sym k.players_come ∙ one.players ∙ h.players_come, sym k.objects_come ∙ one.objects ∙ h.objects_come)

pub faultless_begun : (bytes : List ℕ) (ps : List ℤ) (os : List (Option recorded.Object)) → BeginsWithObjects bytes ps os → HasNoObjectFault bytes → AreFaultless os
faultless_begun bytes ps os h none = subst AreFaultless h.objects_come (none h.lines h.stand h.all)

-- if no object is at fault none is reported
no_object : (bytes : List ℕ) (e : DbFault) → HasNoObjectFault bytes → HasToldObject bytes e → ⊥
no_object bytes e none h = at h.is
  where
    at : ((e.kind ≡ kind.BadHierarchy h.object) × HasObjectFault IsHierarchyFault bytes e.line h.object) ⊎ ((e.kind ≡ kind.PropertyCount h.object) × HasObjectFault IsCountFault bytes e.line h.object) → ⊥
    at (inl p) = no_first _ (length p.1.objects) h.object p.1.fault (faultless_begun bytes p.1.players p.1.objects p.1.begins none).placed
    at (inr p) = no_first _ (length p.1.objects) h.object p.1.fault.1 (faultless_begun bytes p.1.players p.1.objects p.1.begins none).counted

same_line : (ps qs : List ℤ) (os us : List (Option recorded.Object)) (x y : ℕ) → ps ≡ qs → os ≡ us → x ≡ y → line_of_object ps os x ≡ line_of_object qs us y
same_line ps qs os us x y p o e = ap (λ (l : List ℤ). line_of_object l os x) p ∙ ap (λ (l : List (Option recorded.Object)). line_of_object qs l x) o ∙ ap (line_of_object qs us) e

one_object : (bytes : List ℕ) (d e : DbFault) → HasToldObject bytes d → HasToldObject bytes e → AreSame d e
one_object bytes d e h k = at h.is k.is
  where
    at : ((d.kind ≡ kind.BadHierarchy h.object) × HasObjectFault IsHierarchyFault bytes d.line h.object) ⊎ ((d.kind ≡ kind.PropertyCount h.object) × HasObjectFault IsCountFault bytes d.line h.object)
        → ((e.kind ≡ kind.BadHierarchy k.object) × HasObjectFault IsHierarchyFault bytes e.line k.object) ⊎ ((e.kind ≡ kind.PropertyCount k.object) × HasObjectFault IsCountFault bytes e.line k.object) → AreSame d e
    at (inl p) (inl q) =
        let same = begun bytes q.1.players p.1.players q.1.objects p.1.objects q.1.begins p.1.begins in
        let x = one_first _ (length q.1.objects) h.object k.object (subst (λ (os : List (Option recorded.Object)). IsHierarchyFault (of_objects os) h.object) same.1 p.1.fault) q.1.fault in
        (p.1.line ∙ same_line p.1.players q.1.players p.1.objects q.1.objects h.object k.object same.0 same.1 x ∙ sym q.1.line, p.0 ∙ ap kind.BadHierarchy x ∙ sym q.0)
    at (inr p) (inr q) =
        let same = begun bytes q.1.players p.1.players q.1.objects p.1.objects q.1.begins p.1.begins in
        let x = one_first _ (length q.1.objects) h.object k.object (subst (λ (os : List (Option recorded.Object)). IsCountFault (of_objects os) h.object) same.1 p.1.fault).1 q.1.fault.1 in
        (p.1.line ∙ same_line p.1.players q.1.players p.1.objects q.1.objects h.object k.object same.0 same.1 x ∙ sym q.1.line, p.0 ∙ ap kind.PropertyCount x ∙ sym q.0)
    at (inl p) (inr q) =
        let same = begun bytes q.1.players p.1.players q.1.objects p.1.objects q.1.begins p.1.begins in
        absurd (no_first _ (length q.1.objects) h.object (subst (λ (os : List (Option recorded.Object)). IsHierarchyFault (of_objects os) h.object) same.1 p.1.fault) q.1.fault.0)
    at (inr p) (inl q) =
        let same = begun bytes p.1.players q.1.players p.1.objects q.1.objects p.1.begins q.1.begins in
        absurd (no_first _ (length p.1.objects) k.object (subst (λ (os : List (Option recorded.Object)). IsHierarchyFault (of_objects os) k.object) same.1 q.1.fault) p.1.fault.0)

-- ---- two answers

one_refusal : (bytes : List ℕ) (d e : DbFault) → IsRefusedSo bytes d → IsRefusedSo bytes e → d.kind ≢ kind.Memory → e.kind ≢ kind.Memory → AreToldAlike d e
one_refusal bytes d e (inl h) (inl k) known other = one_is_told bytes d e h.refused k.refused known other
one_refusal bytes d e (inl h) (inr k) known other = absurd (no_object bytes e (h.objects known) k)
one_refusal bytes d e (inr h) (inl k) known other = absurd (no_object bytes d (k.objects other) h)
one_refusal bytes d e (inr h) (inr k) known other = same_alike d e (one_object bytes d e h k)

pub one_answer : (bytes : List ℕ) (a b : Result stored.Saved DbFault) → LoadAnswers a bytes → LoadAnswers b bytes → IsKnown a → IsKnown b → AreAlike a b
one_answer bytes (Ok s) (Ok t) h k known other = one_spelled bytes (saved_of s) (saved_of t) (is_found bytes (Ok s) h) (is_found bytes (Ok t) k)
one_answer bytes (Ok s) (Err e) h k known other = loaded_or_refused bytes s e h k other
one_answer bytes (Err d) (Ok t) h k known other = loaded_or_refused bytes t d k h known
one_answer bytes (Err d) (Err e) h k known other = one_refusal bytes d e h k known other

-- ---- for a choice of the fault that is reported of each source

chosen_refusal : (choice : Choice) (bytes : List ℕ) (d e : DbFault) → IsRefusedSo bytes d → IsRefusedSo bytes e → TellsBy (chosen_by choice) bytes d → TellsBy (chosen_by choice) bytes e
    → d.kind ≢ kind.Memory → e.kind ≢ kind.Memory → AreSame d e
chosen_refusal choice bytes d e (inl h) (inl k) by also known other = one_by_choice choice bytes d e h.refused k.refused by also known other
chosen_refusal choice bytes d e (inl h) (inr k) by also known other = absurd (no_object bytes e (h.objects known) k)
chosen_refusal choice bytes d e (inr h) (inl k) by also known other = absurd (no_object bytes d (k.objects other) h)
chosen_refusal choice bytes d e (inr h) (inr k) by also known other = one_object bytes d e h k

pub one_answer_by_choice : (choice : Choice) (bytes : List ℕ) (a b : Result stored.Saved DbFault) → LoadAnswersBy (chosen_by choice) a bytes → LoadAnswersBy (chosen_by choice) b bytes
    → IsKnown a → IsKnown b → loading.AreSame a b
one_answer_by_choice choice bytes (Ok s) (Ok t) h k known other = one_spelled bytes (saved_of s) (saved_of t) (is_found bytes (Ok s) h.0) (is_found bytes (Ok t) k.0)
one_answer_by_choice choice bytes (Ok s) (Err e) h k known other = loaded_or_refused bytes s e h.0 k.0 other
one_answer_by_choice choice bytes (Err d) (Ok t) h k known other = loaded_or_refused bytes t d k.0 h.0 known
one_answer_by_choice choice bytes (Err d) (Err e) h k known other = same_fault d e (chosen_refusal choice bytes d e h.0 k.0 h.1 k.1 known other)
