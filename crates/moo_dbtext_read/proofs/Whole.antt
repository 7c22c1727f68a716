-- Consequences of the answer to the bytes of a whole text.
use Rattle.std.proofs.Common.{◌≡◌, ℕ, ℤ, suc, ◌≤◌, Bool, true, false, List, [], ◌∷◌, ◌++◌, length, arith, Option, Some, None, Result, Ok, Err, ◌⊎◌, inl, inr, refl, sym, ap, subst, ◌∙◌, append-nil}
use Rattle.std.specs.Prelude.{IfOk, IfErr, MatchResult, map, slice_index_or, count_by, is_some}
use Rattle.std.specs.List.{sum_by, AllByRecursion}
use Rattle.moo_syntax_ast.specs.Tree.{Block}
use Rattle.moo_syntax_grammar.specs.declared.names.Names.TheVariants.{Any}
use Rattle.moo_syntax_grammar.specs.Texts.{IsProgramOf, IsParsed}
use Rattle.moo_dbtext_object.specs.Lines.{Line, limited}
use Rattle.moo_dbtext_object.specs.declared.fault.LineFault.{LineFault}
use Rattle.moo_dbtext_object.specs.declared.fault.LineFault.TheVariants as line
use Rattle.moo_dbtext_object.specs.declared.fault.Refusal.{Refusal}
use Rattle.moo_dbtext_object.specs.declared.fault.Refusal.TheVariants as refusal
use Rattle.moo_dbtext_record.specs.Programs.{Table, entry_at}
use Rattle.moo_world_table.specs.World.{most}
use Rattle.moo_dbtext_object.specs.Objects as recorded
use Rattle.moo_dbtext_record.specs.Texts.{Text, IsEntry, Spells, SpellsWithin}
use Rattle.moo_dbtext_record.specs.Placing.{BeginsWithObjects}
use Rattle.moo_dbtext_record.specs.Answer.{answer_to, front_lines, Stand, StandWithoutLimits}
use Rattle.moo_dbtext_record.specs.Faults.{kind_of, kind_of_refusal}
use Rattle.moo_dbtext_record.specs.declared.fault.DbFault.{DbFault}
use Rattle.moo_dbtext_record.specs.declared.fault.DbFaultKind.{DbFaultKind}
use Rattle.moo_dbtext_record.specs.declared.fault.DbFaultKind.TheVariants as kind
use Rattle.moo_dbtext_record.specs.declared.fault.ProgramFault.{ProgramFault}
use Rattle.moo_dbtext_record.proofs.AnswerFound.{answer_found}
use Rattle.moo_dbtext_record.proofs.DumpSmall.{answer_within, answer_spelled, some_more, none_more, rows_more}
use Rattle.moo_dbtext_read.specs.Says.{Programs, HasSource, HaveSources}
use Rattle.moo_dbtext_read.specs.Faults.{IsProgramFault, IsOfLine, IsOfLimits}
use Rattle.moo_dbtext_read.specs.Reading.{IsRefused, IsRead}
use Rattle.moo_dbtext_read.specs.declared.database.Database.{Database}
use Rattle.moo_dbtext_read.proofs.After.{some_source}
use Rattle.moo_dbtext_read.proofs.ProgramWhole.{is_read_only, is_read_within, is_placed, is_sized, is_told_large, is_told_past}
use Rattle.moo_dbtext_restore.specs.Records.{Records}
use Rattle.moo_dbtext_restore.specs.Faults.{IsWellPlaced, HasItsCells, IsHierarchyFault, IsCountFault}
use Rattle.moo_dbtext_restore.specs.Restoring.{IsEntryWithin, AreWithinLimits, IsFaultOf}
use Rattle.moo_dbtext_restore.specs.declared.fault.RestoreFault.{RestoreFault}
use Rattle.moo_dbtext_restore.specs.declared.fault.RestoreFault.TheVariants as restoring
use Rattle.moo_dbtext_restore.proofs.Worlds.{shaped, well_placed, has_its_cells}
use Rattle.moo_dbtext_read.specs.Saved.{Saved, saved_of, IsTextOf, SpellsSaved, SpellsSavedWithin}
use Rattle.moo_dbtext_read.specs.Objects.{of_objects, HasObjectFault}
use Rattle.moo_dbtext_read.specs.Loading.{records_kept, who_of, IsTold, IsSavedFrom, IsLoaded, HasToldObject, IsRefusedSo, LoadAnswers}
use Rattle.moo_dbtext_read.specs.declared.saved.Saved as stored
use Rattle.moo_dbtext_read.proofs.Worlds.{placed_as, cells_as, loose_text, one_spelled, spelled_within}

-- ---- kinds of faults

is_of_line : DbFaultKind → Bool
is_of_line (kind.Version n) = true
is_of_line (kind.BadHierarchy o) = false
is_of_line (kind.PropertyCount o) = false
is_of_line (kind.Program o v f) = false
is_of_line kind.Memory = false
is_of_line kind.BadHeader = true
is_of_line kind.BadNumber = true
is_of_line kind.Truncated = true
is_of_line kind.BadString = true
is_of_line kind.FloatValue = true
is_of_line kind.BadType = true
is_of_line kind.BadObjectLine = true
is_of_line kind.BadProgramLine = true
is_of_line kind.PendingTasks = true
is_of_line kind.BadConnections = true
is_of_line kind.TrailingBytes = true
is_of_line kind.TooLarge = true

line_is : (f : LineFault) → is_of_line (kind_of f) ≡ true
unfolding is_of_line
line_is (line.Version n) = refl
line_is line.BadHeader = refl
line_is line.BadNumber = refl
line_is line.Truncated = refl
line_is line.BadString = refl
line_is line.FloatValue = refl
line_is line.BadType = refl
line_is line.BadObjectLine = refl
line_is line.BadProgramLine = refl
line_is line.PendingTasks = refl
line_is line.BadConnections = refl
line_is line.TrailingBytes = refl
line_is line.TooLarge = refl

no_line : (k : DbFaultKind) (f : LineFault) → is_of_line k ≡ false → k ≡ kind_of f → ⊥
no_line k f e is = let g : false ≡ true = sym e ∙ ap is_of_line is ∙ line_is f in cc

-- a refusal of the records is of a line, or memory ran out
no_refusal : (r : Refusal) (k : DbFaultKind) → is_of_line k ≡ false → (k ≡ kind.Memory → ⊥) → k ≡ kind_of_refusal r → ⊥
no_refusal refusal.Memory k e other is = other is
no_refusal (refusal.Fault f) k e other is = no_line k f e is

no_hierarchy_refused : (bytes : List ℕ) (e : DbFault) (x : ℕ) → IsRefused bytes (answer_to limited bytes) e → e.kind ≡ kind.BadHierarchy x → ⊥
unfolding is_of_line
no_hierarchy_refused bytes e x (inl memory) is = cc
no_hierarchy_refused bytes e x (inr (inl r)) is = no_refusal r.fault.kind (kind.BadHierarchy x) refl (λ g. cc) (sym is ∙ ap (λ (d : DbFault). d.kind) r.told)
no_hierarchy_refused bytes e x (inr (inr p)) is = let g = p.told in cc

no_count_refused : (bytes : List ℕ) (e : DbFault) (x : ℕ) → IsRefused bytes (answer_to limited bytes) e → e.kind ≡ kind.PropertyCount x → ⊥
unfolding is_of_line
no_count_refused bytes e x (inl memory) is = cc
no_count_refused bytes e x (inr (inl r)) is = no_refusal r.fault.kind (kind.PropertyCount x) refl (λ g. cc) (sym is ∙ ap (λ (d : DbFault). d.kind) r.told)
no_count_refused bytes e x (inr (inr p)) is = let g = p.told in cc

program_refused : (bytes : List ℕ) (e : DbFault) (o v : ℕ) (f : ProgramFault) → IsRefused bytes (answer_to limited bytes) e → e.kind ≡ kind.Program o v f → IsProgramFault bytes e.line o v f
unfolding is_of_line
program_refused bytes e o v f (inl memory) is = absurd cc
program_refused bytes e o v f (inr (inl r)) is = absurd (no_refusal r.fault.kind (kind.Program o v f) refl (λ g. cc) (sym is ∙ ap (λ (d : DbFault). d.kind) r.told))
program_refused bytes e o v f (inr (inr p)) is =
    let same : kind.Program p.object p.verb p.fault ≡ kind.Program o v f = sym p.told ∙ is in
    let object : p.object ≡ o = cc in
    let verb : p.verb ≡ v = cc in
    let fault : p.fault ≡ f = cc in
    subst (λ (x : ℕ). IsProgramFault bytes e.line x v f) object (subst (λ (x : ℕ). IsProgramFault bytes e.line p.object x f) verb (subst (λ (x : ProgramFault). IsProgramFault bytes e.line p.object p.verb x) fault p.is))

no_object_line : (e : DbFault) (f : LineFault) (bytes : List ℕ) → HasToldObject bytes e → e.kind ≡ kind_of f → ⊥
unfolding is_of_line
no_object_line e f bytes h is = at h.is
  where
    at : ((e.kind ≡ kind.BadHierarchy h.object) × HasObjectFault IsHierarchyFault bytes e.line h.object) ⊎ ((e.kind ≡ kind.PropertyCount h.object) × HasObjectFault IsCountFault bytes e.line h.object) → ⊥
    at (inl p) = no_line (kind.BadHierarchy h.object) f refl (sym p.0 ∙ is)
    at (inr p) = no_line (kind.PropertyCount h.object) f refl (sym p.0 ∙ is)

-- ---- the limits of what was read

row_fewer : (P : List Line → Block → Type 0) (row : List (Option (List Line))) (ps : List (Option Block)) → ((v : ℕ) → HasSource P (slice_index_or row v None) (slice_index_or ps v None)) → count_by is_some ps ≤ count_by is_some row
row_fewer P row [] h = omega arith
row_fewer P [] (None ∷ ps) h = let e = row_fewer P [] ps (λ v. h (suc v)) in let f = none_more ps in omega arith
row_fewer P [] (Some b ∷ ps) h = absurd (h 0)
row_fewer P (None ∷ row) (None ∷ ps) h = let e = row_fewer P row ps (λ v. h (suc v)) in let f = none_more ps in let g = none_more row in omega arith
row_fewer P (None ∷ row) (Some b ∷ ps) h = absurd (h 0)
row_fewer P (Some s ∷ row) (None ∷ ps) h = absurd (h 0)
row_fewer P (Some s ∷ row) (Some b ∷ ps) h = let e = row_fewer P row ps (λ v. h (suc v)) in let f = some_more b ps in let g = some_more s row in omega arith

programs_fewer : (P : List Line → Block → Type 0) (table : Table) (ps : Programs) → HaveSources P table ps → sum_by (count_by is_some) ps ≤ sum_by (count_by is_some) table
programs_fewer P table [] h = omega arith
programs_fewer P [] (row ∷ ps) h = let e = row_fewer P [] row (h 0) in let f = programs_fewer P [] ps (λ o. h (suc o)) in let g = rows_more row ps in omega arith
programs_fewer P (sources ∷ table) (row ∷ ps) h =
    let e = row_fewer P sources row (h 0) in
    let f = programs_fewer P table ps (λ o. h (suc o)) in
    let g = rows_more row ps in
    let i = rows_more sources table in
    omega arith

entries_within : (os : List (Option recorded.Object)) → AllByRecursion (IsEntry limited) os → AllByRecursion IsEntryWithin os
entries_within [] h = tt
entries_within (None ∷ os) h = (tt, entries_within os h.1)
entries_within (Some o ∷ os) h = (h.0, entries_within os h.1)

pub kept_within : (bytes : List ℕ) (d : Database) → IsRead bytes d → AreWithinLimits (records_kept d)
kept_within bytes d h =
    let w = answer_within bytes h.text h.records in
    let fewer = programs_fewer (IsParsed Any) h.text.programs (records_kept d).programs h.says.programs in
    let programs = w.program_count in
    record {
      objects = subst (AllByRecursion IsEntryWithin) (sym h.says.objects) (entries_within h.text.objects w.objects);
      object_count = subst (λ (os : List (Option recorded.Object)). length os ≤ most) (sym h.says.objects) w.object_count;
      player_count = subst (λ (ps : List ℤ). length ps ≤ most) (sym h.says.players) w.player_count;
      program_count = omega arith;
    }

-- ---- from what is kept

pub saved_loaded : (bytes : List ℕ) (d : Database) (s : stored.Saved) → IsRead bytes d → IsSavedFrom d s → IsLoaded bytes (saved_of s)
saved_loaded bytes d s h k = record {
  text = h.text;
  answer = h.records;
  is = record { records = records_kept d; objects = h.says.objects; players = h.says.players; sources = h.says.programs; says = k.says; connected = ap (map who_of) (sym h.says.links) ∙ sym k.connected };
  sound = k.sound;
}

pub without_memory : (bytes : List ℕ) (e : DbFault) → e.kind ≡ kind.Memory → IsRefusedSo bytes e
without_memory bytes e memory = inl (record { refused = inl memory; objects = λ known. absurd (known memory) })

-- an object is reported if the bytes begin a text
pub told_begun : (bytes : List ℕ) (players : List ℤ) (objects : List (Option recorded.Object)) (e : DbFault) (f : RestoreFault) → BeginsWithObjects bytes players objects → IsFaultOf (of_objects objects) f → IsTold (length players) objects f e
    → IsRefusedSo bytes e
told_begun bytes players objects e (restoring.Hierarchy x) begins fault told = inr (record { object = x; is = inl (told.0, record { players = players; objects = objects; begins = begins; fault = fault; line = told.1 }) })
told_begun bytes players objects e (restoring.PropertyCount x) begins fault told = inr (record { object = x; is = inr (told.0, record { players = players; objects = objects; begins = begins; fault = fault; line = told.1 }) })
told_begun bytes players objects e restoring.Memory begins fault told = without_memory bytes e told

-- ---- what is read

pub is_found : (bytes : List ℕ) (r : Result stored.Saved DbFault) → LoadAnswers r bytes → IfOk r (λ s. SpellsSaved bytes (saved_of s))
is_found bytes (Ok s) h = record { text = h.text; spelled = answer_found limited bytes h.text h.answer; says = loose_text h.text (saved_of s) h.is; shaped = shaped s.world h.sound }
is_found bytes (Err e) h = tt

pub is_found_within : (bytes : List ℕ) (r : Result stored.Saved DbFault) → LoadAnswers r bytes → IfOk r (λ s. SpellsSavedWithin bytes (saved_of s))
is_found_within bytes (Ok s) h = record { text = h.text; spelled = answer_spelled bytes h.text h.answer; says = h.is; formed = h.sound }
is_found_within bytes (Err e) h = tt

pub has_source : (P : List Line → Block → Type 0) (t : Text) (s : Saved) (k : IsTextOf P t s) → (o v : ℕ) (x : List Line) → entry_at t.programs o v ≡ Some x → (b : Block) × P x b
has_source P t s k o v x e = some_source P (entry_at k.records.programs o v) x (subst (λ (y : Option (List Line)). HasSource P y (entry_at k.records.programs o v)) e (k.sources o v))

-- if an object is at fault no saved world is spelled
pub no_saved : (bytes : List ℕ) (e : DbFault) (s : Saved) → HasToldObject bytes e → SpellsSaved bytes s → ⊥
no_saved bytes e s h k = at h.is
  where
    r : Records
    r = k.says.records

    same : (players : List ℤ) (objects : List (Option recorded.Object)) → BeginsWithObjects bytes players objects → r.objects ≡ objects
    same players objects begins = k.says.objects ∙ begins.objects_there [] k.text (subst (λ (b : List ℕ). Spells b k.text) (sym (append-nil bytes)) k.spelled)

    at : ((e.kind ≡ kind.BadHierarchy h.object) × HasObjectFault IsHierarchyFault bytes e.line h.object) ⊎ ((e.kind ≡ kind.PropertyCount h.object) × HasObjectFault IsCountFault bytes e.line h.object) → ⊥
    at (inl p) = p.1.fault.1 (subst (λ (os : List (Option recorded.Object)). IsWellPlaced (of_objects os) h.object) (same p.1.players p.1.objects p.1.begins) (placed_as r h.object (well_placed r s.world k.says.says k.shaped h.object)))
    at (inr p) = p.1.fault.1.1 (subst (λ (os : List (Option recorded.Object)). HasItsCells (of_objects os) h.object) (same p.1.players p.1.objects p.1.begins) (cells_as r h.object (has_its_cells r s.world k.says.says k.shaped h.object)))

pub is_loaded_only : (bytes : List ℕ) (r : Result stored.Saved DbFault) → LoadAnswers r bytes → (s : Saved) → SpellsSaved bytes s → MatchResult r (λ x. saved_of x ≡ s) (λ e. IsOfLimits e.kind)
is_loaded_only bytes (Ok x) h s k = one_spelled bytes (saved_of x) s (is_found bytes (Ok x) h) k
is_loaded_only bytes (Err e) (inl told) s k = is_read_only bytes (Err e) told.refused k.text k.spelled (has_source (IsProgramOf Any) k.text s k.says)
is_loaded_only bytes (Err e) (inr told) s k = absurd (no_saved bytes e s told k)

pub is_loaded_within : (bytes : List ℕ) (r : Result stored.Saved DbFault) → LoadAnswers r bytes → (s : Saved) → SpellsSavedWithin bytes s → MatchResult r (λ x. saved_of x ≡ s) (λ e. e.kind ≡ kind.Memory)
is_loaded_within bytes (Ok x) h s k = one_spelled bytes (saved_of x) s (is_found bytes (Ok x) h) (spelled_within bytes s k)
is_loaded_within bytes (Err e) (inl told) s k = is_read_within bytes (Err e) told.refused k.text k.spelled (has_source (IsParsed Any) k.text s k.says)
is_loaded_within bytes (Err e) (inr told) s k = absurd (no_saved bytes e s told (spelled_within bytes s k))

-- ---- what is refused

pub is_loaded_place : (bytes : List ℕ) (r : Result stored.Saved DbFault) → LoadAnswers r bytes → IfErr r (λ e. IsOfLine e.kind → (more : List ℕ) (t : Text) → ¬ (Spells (front_lines e.line bytes ++ more) t))
is_loaded_place bytes (Ok s) h = tt
is_loaded_place bytes (Err e) (inl told) = is_placed bytes (Err e) told.refused
is_loaded_place bytes (Err e) (inr told) = λ f. absurd (no_object_line e f.0 bytes told f.1)

pub is_loaded_program : (bytes : List ℕ) (r : Result stored.Saved DbFault) → LoadAnswers r bytes → IfErr r (λ e. (object verb : ℕ) (fault : ProgramFault) → e.kind ≡ kind.Program object verb fault → IsProgramFault bytes e.line object verb fault)
is_loaded_program bytes (Ok s) h = tt
is_loaded_program bytes (Err e) (inl told) = λ o v f is. program_refused bytes e o v f told.refused is
is_loaded_program bytes (Err e) (inr told) = λ o v f is. absurd (no_program told.is is)
  where
    no_program : {o v : ℕ} {f : ProgramFault} → ((e.kind ≡ kind.BadHierarchy told.object) × HasObjectFault IsHierarchyFault bytes e.line told.object) ⊎ ((e.kind ≡ kind.PropertyCount told.object) × HasObjectFault IsCountFault bytes e.line told.object) → e.kind ≡ kind.Program o v f → ⊥
    no_program (inl p) is = let g = p.0 in cc
    no_program (inr p) is = let g = p.0 in cc

pub is_loaded_hierarchy : (bytes : List ℕ) (r : Result stored.Saved DbFault) → LoadAnswers r bytes → IfErr r (λ e. (x : ℕ) → e.kind ≡ kind.BadHierarchy x → HasObjectFault IsHierarchyFault bytes e.line x)
is_loaded_hierarchy bytes (Ok s) h = tt
is_loaded_hierarchy bytes (Err e) (inl told) = λ x is. absurd (no_hierarchy_refused bytes e x told.refused is)
is_loaded_hierarchy bytes (Err e) (inr told) = λ x is. at x told.is is
  where
    at : (x : ℕ) → ((e.kind ≡ kind.BadHierarchy told.object) × HasObjectFault IsHierarchyFault bytes e.line told.object) ⊎ ((e.kind ≡ kind.PropertyCount told.object) × HasObjectFault IsCountFault bytes e.line told.object) → e.kind ≡ kind.BadHierarchy x → HasObjectFault IsHierarchyFault bytes e.line x
    at x (inl p) is = let f : kind.BadHierarchy told.object ≡ kind.BadHierarchy x = sym p.0 ∙ is in let same : told.object ≡ x = cc in subst (HasObjectFault IsHierarchyFault bytes e.line) same p.1
    at x (inr p) is = absurd (let g = p.0 in cc)

pub is_loaded_count : (bytes : List ℕ) (r : Result stored.Saved DbFault) → LoadAnswers r bytes → IfErr r (λ e. (x : ℕ) → e.kind ≡ kind.PropertyCount x → HasObjectFault IsCountFault bytes e.line x)
is_loaded_count bytes (Ok s) h = tt
is_loaded_count bytes (Err e) (inl told) = λ x is. absurd (no_count_refused bytes e x told.refused is)
is_loaded_count bytes (Err e) (inr told) = λ x is. at x told.is is
  where
    at : (x : ℕ) → ((e.kind ≡ kind.BadHierarchy told.object) × HasObjectFault IsHierarchyFault bytes e.line told.object) ⊎ ((e.kind ≡ kind.PropertyCount told.object) × HasObjectFault IsCountFault bytes e.line told.object) → e.kind ≡ kind.PropertyCount x → HasObjectFault IsCountFault bytes e.line x
    at x (inr p) is = let f : kind.PropertyCount told.object ≡ kind.PropertyCount x = sym p.0 ∙ is in let same : told.object ≡ x = cc in subst (HasObjectFault IsCountFault bytes e.line) same p.1
    at x (inl p) is = absurd (let g = p.0 in cc)

pub is_loaded_size : (bytes : List ℕ) (r : Result stored.Saved DbFault) → LoadAnswers r bytes → IfErr r (λ e. e.kind ≡ kind.TooLarge → (more : List ℕ) (t : Text) → ¬ (SpellsWithin (front_lines e.line bytes ++ more) t))
is_loaded_size bytes (Ok s) h = tt
is_loaded_size bytes (Err e) (inl told) = is_sized bytes (Err e) told.refused
is_loaded_size bytes (Err e) (inr told) = λ is. absurd (no_object_line e line.TooLarge bytes told is)

pub is_loaded_large : (bytes : List ℕ) (r : Result stored.Saved DbFault) → LoadAnswers r bytes → IfErr r (λ e. e.kind ≡ kind.TooLarge → StandWithoutLimits e.line bytes)
is_loaded_large bytes (Ok s) h = tt
is_loaded_large bytes (Err e) (inl told) = is_told_large bytes (Err e) told.refused
is_loaded_large bytes (Err e) (inr told) = λ is. absurd (no_object_line e line.TooLarge bytes told is)

pub is_loaded_past : (bytes : List ℕ) (r : Result stored.Saved DbFault) → LoadAnswers r bytes → IfErr r (λ e. e.kind ≡ kind.TooLarge → ¬ (Stand limited e.line bytes))
is_loaded_past bytes (Ok s) h = tt
is_loaded_past bytes (Err e) (inl told) = is_told_past bytes (Err e) told.refused
is_loaded_past bytes (Err e) (inr told) = λ is. absurd (no_object_line e line.TooLarge bytes told is)

-- ---- what is answered

pub loaded_answer : (bytes : List ℕ) (d : Database) (r : Result stored.Saved DbFault) → IsRead bytes d → IfOk r (IsSavedFrom d) → IfErr r (λ e. e.kind ≡ kind.Memory) → LoadAnswers r bytes
loaded_answer bytes d (Ok s) h saved fault = saved_loaded bytes d s h saved
loaded_answer bytes d (Err e) h saved fault = without_memory bytes e fault
