-- The moment at which the objects have come, and its consequences for them.
use Rattle.std.proofs.Common.{◌≡◌, ◌≢◌, ℕ, ◌+◌, ◌≤◌, Bool, true, false, List, [], ◌∷◌, ◌++◌, length, Option, Some, None, Result, Ok, Err, ◌⊎◌, inl, inr, refl, sym, ap, subst, ◌∙◌, append-nil, append_assoc, arith}
use Rattle.std.specs.Prelude.{map, option_map}
use Rattle.std.proofs.lemmas.List.{length-map}
use Rattle.moo_dbtext_object.specs.Lines.{limited}
use Rattle.moo_dbtext_object.specs.Objects.{object_of}
use Rattle.moo_dbtext_object.specs.declared.object_record.ObjectRecord.{ObjectRecord}
use Rattle.moo_dbtext_record.specs.DumpReading.{Progress, verb_read}
use Rattle.moo_dbtext_record.specs.Answer.{IsWholeLine, Told, Taken, and_then, taken_on, begin, answer_to, HasNoEnd, Stand}
use Rattle.moo_dbtext_record.specs.Sparing.{has_objects}
use Rattle.moo_dbtext_record.specs.declared.fault.DbFault.{DbFault}
use Rattle.moo_dbtext_record.specs.declared.fault.DbFaultKind.TheVariants as kind
use Rattle.moo_dbtext_record.specs.declared.dump_reader.Section.{Section}
use Rattle.moo_dbtext_record.specs.declared.dump_reader.Section.TheVariants as section
use Rattle.moo_dbtext_record.proofs.TakenLaws.{taken_on-append}
use Rattle.moo_dbtext_record.proofs.Standing.{stand_so, stands_on, stand_in, stand_ends, stopped_after, ends, ends_append, clean_ends, taken_ends, fault_ends}
use Rattle.moo_dbtext_record.proofs.Placed.{bytes_past, objects_stand, one_set_of_objects, whole_begins}
use Rattle.moo_dbtext_read.specs.Reading as programs
use Rattle.moo_dbtext_read.specs.Reading.{IsAfter, IsRead, IsToldProgram, IsRefused, HasRead, IsWell, place_of}
use Rattle.moo_dbtext_read.specs.declared.database.Database.{Database}
use Rattle.moo_dbtext_read.specs.declared.program_reader.ProgramReader.{ProgramReader}
use Rattle.moo_dbtext_read.proofs.After.{taken_between, part_sources}
use Rattle.moo_dbtext_read.proofs.Refused.{refused_then, refused_whole, read_failed, read_well}
use Rattle.moo_dbtext_read.proofs.ProgramOrder.{told_line}
use Rattle.moo_dbtext_restore.specs.First.{IsFirst}
use Rattle.moo_dbtext_restore.specs.Faults.{IsWellPlaced, HasItsCells}
use Rattle.moo_dbtext_restore.specs.Names.{with_objects}
use Rattle.moo_dbtext_read.specs.Objects.{AreFaultless, HasNoObjectFault}
use Rattle.moo_dbtext_read.specs.Loading.{records_kept, IsRefusedFrom, HasToldLine}
use Rattle.moo_dbtext_read.specs.Taking.{IsLoading}
use Rattle.moo_dbtext_read.specs.declared.world_reader.WorldReader.{WorldReader}
use Rattle.moo_dbtext_read.proofs.Order.{faultless_begun}

-- ---- the state of the reader

abbrev after_of : (r : WorldReader) (bytes : List ℕ) → IsLoading r bytes → IsAfter r.programs bytes
after_of r bytes h = read_well r.programs bytes h.well h.read

abbrev state_of : (r : WorldReader) (bytes : List ℕ) → IsLoading r bytes → Taken
state_of r bytes h = (after_of r bytes h).at.state

section_of : (p : ProgramReader) (bytes : List ℕ) (h : IsAfter p bytes) → has_objects h.at.state.progress.section ≡ has_objects (place_of p).section
section_of p bytes h = ap (λ (x : Progress). has_objects x.section) h.at.alike.progress.rest

objects_of : (p : ProgramReader) (bytes : List ℕ) (h : IsAfter p bytes) → h.at.state.progress.text.objects ≡ (place_of p).text.objects
objects_of p bytes h = ap (λ (x : Progress). x.text.objects) h.at.alike.progress.rest

-- ---- objects that have been looked at

pub looked_faultless : (r : WorldReader) (bytes more : List ℕ) → IsLoading r bytes → r.is_checked ≡ true → HasNoObjectFault (bytes ++ more)
looked_faultless r bytes more h checked n k past =
    let b = after_of r bytes h in
    let so = stand_so limited bytes b.at.state b.at.leads in
    let here = stands_on limited b.at.state.lines bytes more so.stand in
    let all = ap (λ (p : Progress). has_objects p.section) so.same ∙ section_of r.programs bytes b ∙ sym h.looked ∙ checked in
    let one = one_set_of_objects limited b.at.state.lines n (bytes ++ more) here k all past in
    let same : (place_of r.programs).text.objects ≡ k.state.progress.text.objects = sym (objects_of r.programs bytes b) ∙ sym (ap (λ (p : Progress). p.text.objects) so.same) ∙ sym one.objects in
    subst AreFaultless same (h.faultless checked)

-- ---- objects that have not all come

unlooked : (r : WorldReader) (bytes more : List ℕ) (h : IsLoading r bytes) → r.is_checked ≡ false → (n : ℕ) (k : Stand limited n (bytes ++ more)) → n ≤ (state_of r bytes h).lines → has_objects k.state.progress.section ≡ true → ⊥
unlooked r bytes more h early n k le past =
    let b = after_of r bytes h in
    let so = stand_so limited bytes b.at.state b.at.leads in
    let here = stands_on limited b.at.state.lines bytes more so.stand in
    let on = objects_stand limited n b.at.state.lines (bytes ++ more) k here le past in
    let none = ap (λ (p : Progress). has_objects p.section) so.same ∙ section_of r.programs bytes b ∙ sym h.looked ∙ early in
    let e : true ≡ false = sym on.past ∙ none in
    cc

-- a program comes after the objects
read_past : (x : Section) (p : Progress) (v : ℕ × ℕ) → verb_read x p ≡ Some v → has_objects x ≡ true
read_past section.Source p v e = refl
read_past section.Header p v e = absurd cc
read_past section.ObjectCount p v e = absurd cc
read_past section.ProgramCount p v e = absurd cc
read_past section.Unused p v e = absurd cc
read_past section.PlayerCount p v e = absurd cc
read_past section.Player p v e = absurd cc
read_past section.Head p v e = absurd cc
read_past section.Object p v e = absurd cc
read_past section.ProgramHead p v e = absurd cc
read_past section.Clocks p v e = absurd cc
read_past section.Queued p v e = absurd cc
read_past section.Suspended p v e = absurd cc
read_past section.ConnectionCount p v e = absurd cc
read_past section.Connection p v e = absurd cc
read_past section.End p v e = absurd cc

pub program_past : (bytes : List ℕ) (e : DbFault) (p : IsToldProgram bytes e) → has_objects p.is.place.reading.state.progress.section ≡ true
program_past bytes e p = let q = p.is.place.reading.state.progress in read_past q.section q (p.object, p.verb) p.is.place.verb

-- how many lines end in a line, or in what has no end
abbrev pub IsPart : List ℕ → Type 0
IsPart part = ends part ≤ 1

pub line_is_part : (line : List ℕ) → IsWholeLine line → ends line ≤ 1
line_is_part line h =
    let count : ends line ≡ ends h.line + 1 = ap ends h.is ∙ ends_append h.line (10 ∷ []) in
    let none = clean_ends h.line h.clean in
    omega arith

pub clean_is_part : (part : List ℕ) → HasNoEnd part → ends part ≤ 1
clean_is_part part h = let none = clean_ends part h in omega arith

-- what is refused of a line before which not all objects had come is refused with objects that haven't all come
refused_early : (r : WorldReader) (bytes part more : List ℕ) (e : DbFault) → IsLoading r bytes → r.is_checked ≡ false → IsPart part → IsRefused (bytes ++ part) (taken_on limited begin (bytes ++ part)) e → e.kind ≢ kind.Memory
    → HasNoObjectFault ((bytes ++ part) ++ more)
refused_early r bytes part more e h early few refused known n k past = absurd (at refused)
  where
    s : Taken
    s = state_of r bytes h

    leads : taken_on limited begin bytes ≡ Ok s
    leads = (after_of r bytes h).at.leads

    no_more : (m : ℕ) (j : Stand limited m ((bytes ++ part) ++ more)) → m ≤ s.lines → has_objects j.state.progress.section ≡ true → ⊥
    no_more m j le all = unlooked r bytes (part ++ more) h early m (stand_in limited m ((bytes ++ part) ++ more) (bytes ++ (part ++ more)) (append_assoc bytes part more) j) le all

    at : IsRefused (bytes ++ part) (taken_on limited begin (bytes ++ part)) e → ⊥
    at (inl memory) = known memory
    at (inr (inl f)) =
        let t = told_line (bytes ++ part) (taken_on limited begin (bytes ++ part)) e f known in
        let d : Told = record { line = e.line; fault = t.fault } in
        let stops : taken_on limited s part ≡ Err d = sym (taken_on-append limited begin bytes part ∙ ap (λ (x : Result Taken Told). and_then x (λ u. taken_on limited u part)) leads) ∙ t.answers in
        let whole : taken_on limited begin ((bytes ++ part) ++ more) ≡ Err d = taken_on-append limited begin (bytes ++ part) more ∙ ap (λ (x : Result Taken Told). and_then x (λ u. taken_on limited u more)) t.answers in
        let low = fault_ends limited part s d stops in
        let high = stopped_after limited n ((bytes ++ part) ++ more) d whole k in
        no_more n k (omega arith) past
    at (inr (inr p)) =
        let place = p.is.place in
        let m = e.line + length p.is.source in
        let end = stand_ends limited (m + 1) (bytes ++ part) place.ended in
        let count = ends_append bytes part in
        let lines = taken_ends limited bytes begin s leads in
        no_more m (stands_on limited m (bytes ++ part) more place.reading) (omega arith) (program_past (bytes ++ part) e p)

-- ---- what is refused of a piece, and at the end

-- this holds of each reader, whether it has looked at the objects or not
either_way : (checked : Bool) → (checked ≡ true) ⊎ (checked ≡ false)
either_way true = inl refl
either_way false = inr refl

pub piece_refused : (r : WorldReader) (p : ProgramReader) (bytes part : List ℕ) (e : DbFault) → IsLoading r bytes → IsPart part → programs.HasRefused p e → HasRead p (bytes ++ part) → IsRefusedFrom (bytes ++ part) e
piece_refused r p bytes part e h is_part failed read = λ more. inl (record {
  refused = refused_whole ((bytes ++ part) ++ more) e (refused_then (bytes ++ part) more e refused);
  objects = λ known. elim (either_way r.is_checked) [
    | inl checked ↦ subst HasNoObjectFault (sym (append_assoc bytes part more)) (looked_faultless r bytes (part ++ more) h checked)
    | inr early ↦ refused_early r bytes part more e h early is_part refused known
  ];
})
  where
    refused : IsRefused (bytes ++ part) (taken_on limited begin (bytes ++ part)) e
    refused = read_failed p e (bytes ++ part) failed read

-- at the end no object of the bytes is at fault
ended_faultless : (r : WorldReader) (bytes : List ℕ) → IsLoading r bytes → HasNoObjectFault bytes
ended_faultless r bytes h = elim (either_way r.is_checked) [
  | inl checked ↦ subst HasNoObjectFault (append-nil bytes) (looked_faultless r bytes [] h checked)
  | inr early ↦ λ n k past. absurd (
      let few = stand_ends limited n bytes k in
      let count = taken_ends limited bytes begin (state_of r bytes h) (after_of r bytes h).at.leads in
      unlooked r bytes [] h early n (stand_in limited n bytes (bytes ++ []) (sym (append-nil bytes)) k) (omega arith) past
      )
]

pub end_refused : (r : WorldReader) (bytes : List ℕ) (e : DbFault) → IsLoading r bytes → IsRefused bytes (answer_to limited bytes) e → HasToldLine bytes e
end_refused r bytes e h refused = record { refused = refused; objects = λ known. ended_faultless r bytes h }

-- nor is one that is kept
pub kept_faultless : (r : WorldReader) (bytes : List ℕ) (d : Database) → IsLoading r bytes → IsRead bytes d → AreFaultless (records_kept d).objects
kept_faultless r bytes d h k = subst AreFaultless (sym k.says.objects) (faultless_begun bytes k.text.players k.text.objects (whole_begins bytes k.text k.records) (ended_faultless r bytes h))

-- ---- a reader that goes on

-- before the first byte
pub loading_nothing : (r : WorldReader) → HasRead r.programs [] → IsWell r.programs → r.is_checked ≡ false → IsLoading r []
unfolding taken_on
loading_nothing r read well early =
    let b = read_well r.programs [] well read in
    let ok : Taken → Result Taken Told = λ x. Ok x in
    let e : ok begin ≡ ok b.at.state = b.at.leads in
    let same : begin ≡ b.at.state = cc in
    record {
      read = read;
      well = well;
      looked = early ∙ ap (λ (s : Taken). has_objects s.progress.section) same ∙ section_of r.programs [] b;
      faultless = λ checked. absurd (let f : true ≡ false = sym checked ∙ early in cc);
    }

-- bytes that end no line bring no object, and bytes after the objects change none
on_of : (p q : ProgramReader) (bytes part : List ℕ) (checked : Bool) → IsAfter p bytes → IsAfter q (bytes ++ part) → checked ≡ has_objects (place_of p).section → (checked ≡ true) ⊎ HasNoEnd part
    → (checked ≡ has_objects (place_of q).section) × (checked ≡ true → (place_of q).text.objects ≡ (place_of p).text.objects)
on_of p q bytes part checked b c looked (inl is) =
    let past = bytes_past limited part b.at.state c.at.state (section_of p bytes b ∙ sym looked ∙ is) (taken_between bytes part b.at.state c.at.state b.at.leads c.at.leads) in
    (is ∙ sym past.past ∙ section_of q (bytes ++ part) c, λ all. sym (objects_of q (bytes ++ part) c) ∙ past.objects ∙ objects_of p bytes b)
on_of p q bytes part checked b c looked (inr clean) =
    let same = part_sources bytes part b.at.state c.at.state clean b.at.leads c.at.leads in (
      looked ∙ sym (section_of p bytes b) ∙ sym (ap (λ (x : Progress). has_objects x.section) same) ∙ section_of q (bytes ++ part) c,
      λ all. sym (objects_of q (bytes ++ part) c) ∙ ap (λ (x : Progress). x.text.objects) same ∙ objects_of p bytes b,
    )

pub loading_on : (r u : WorldReader) (bytes part : List ℕ) → IsLoading r bytes → u.is_checked ≡ r.is_checked → HasRead u.programs (bytes ++ part) → IsWell u.programs → (r.is_checked ≡ true) ⊎ HasNoEnd part → IsLoading u (bytes ++ part)
loading_on r u bytes part h same read well parts =
    let on = on_of r.programs u.programs bytes part r.is_checked (after_of r bytes h) (read_well u.programs (bytes ++ part) well read) h.looked parts in
    record {
      read = read;
      well = well;
      looked = same ∙ on.0;
      faultless = λ checked. let was = sym same ∙ checked in subst AreFaultless (sym (on.1 was)) (h.faultless was);
    }

pub loading_line : (u : WorldReader) (bytes : List ℕ) → HasRead u.programs bytes → IsWell u.programs → u.is_checked ≡ has_objects (place_of u.programs).section
    → (has_objects (place_of u.programs).section ≡ true → AreFaultless (place_of u.programs).text.objects) → IsLoading u bytes
loading_line u bytes read well looked faultless = record { read = read; well = well; looked = looked; faultless = λ checked. faultless (sym looked ∙ checked) }

-- ---- consequences of a check of the objects

pub faultless_placed : (os : List (Option ObjectRecord)) → AreFaultless (map (option_map object_of) os) → IsFirst (IsWellPlaced (with_objects os)) (length os) None
faultless_placed os h = let many = length-map os (option_map object_of) in λ x low. h.placed x (omega (arith, low, many))

pub faultless_counted : (os : List (Option ObjectRecord)) → AreFaultless (map (option_map object_of) os) → IsFirst (HasItsCells (with_objects os)) (length os) None
faultless_counted os h = let many = length-map os (option_map object_of) in λ x low. h.counted x (omega (arith, low, many))

pub checked_faultless : (os : List (Option ObjectRecord)) → IsFirst (IsWellPlaced (with_objects os)) (length os) None → IsFirst (HasItsCells (with_objects os)) (length os) None → AreFaultless (map (option_map object_of) os)
checked_faultless os placed counted =
    let many = length-map os (option_map object_of) in
    record { placed = λ x low. placed x (omega (arith, low, many)); counted = λ x low. counted x (omega (arith, low, many)) }
