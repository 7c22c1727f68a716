-- From what a reader is fed and answers to what recovery answers.
use Rattle.std.proofs.Common.{◌≡◌, ◌≢◌, ℕ, ◌+◌, ◌-◌, ◌<◌, ◌≤◌, min, List, ◌++◌, length, take, drop, Result, Ok, Err, ◌⊎◌, ⊎_elim, inl, inr, refl, sym, ap, subst, ◌∙◌, arith}
use Rattle.std.specs.Prelude.{IfOk, IfErr, MatchResult, Option}
use Rattle.std.proofs.Math.Seq.{take-add}
use Rattle.std.proofs.lemmas.List.{length-drop, length-take, take-append-drop, take_all}
use Rattle.moo_dbtext_record.specs.declared.fault.DbFault.{DbFault}
use Rattle.moo_dbtext_record.specs.declared.fault.DbFaultKind.TheVariants as fault_kind
use Rattle.moo_disk.specs.Disk.{DiskKind, DiskView, HasRisen, NoText, KeepsMain, ReadMain, Reads}
use Rattle.moo_disk.proofs.GainsLemmas.{gains_join, gains_less, gains_none}
use Rattle.moo_dbtext_read.specs.Saved.{Saved, saved_of, SpellsSaved, SpellsSavedWithin}
use Rattle.moo_dbtext_read.specs.declared.saved.Saved as stored
use Rattle.moo_dbtext_read.specs.declared.db_reader.DbReader.{DbReader}
use Rattle.moo_dbtext_read.specs.Feeding.{HasFed}
use Rattle.moo_dbtext_read.specs.Loading.{IsRefusedSo, IsRefusedFrom}
use Rattle.moo_dbtext_read.specs.Refusals.{Refuses}
use Rattle.moo_dbtext_read.proofs.Whole.{is_found, is_found_within, is_loaded_within}
use Rattle.moo_dbtext_read.proofs.Pieces.{refusal_says}
use Rattle.moo_checkpoint.specs.Recovering.{CountsFault, IsToldAs, Keeps, Recovers, Tells, front_to}
use Rattle.moo_checkpoint.specs.declared.open_fault.OpenFault.{OpenFault}
use Rattle.moo_checkpoint.specs.declared.open_fault.OpenFault.TheVariants.{Device, Db, Memory}

-- ---- disks to which nothing was written

main_then : (old mid new : DiskView) → KeepsMain old mid → KeepsMain mid new → KeepsMain old new
main_then old mid new h k = record {
  text = k.text ∙ h.text;
  crash = gains_less (λ c. NoText c ⊎ NoText c) NoText old new none (gains_join NoText NoText old mid new h.crash k.crash);
}
  where
    none : (c : List ℕ) → NoText c ⊎ NoText c → NoText c
    none c (inl h) = h
    none c (inr h) = h

pub keeps_still : {D : Type 0} (kind : DiskKind D) (disk : D) → Keeps kind disk disk
keeps_still kind disk = record {
  main = λ h. record { text = refl; crash = gains_none NoText (kind.view disk) };
  spare = λ h. record { text = refl; stable = λ s. s };
  has_spare = λ s. s;
  honest = (λ h. h, λ h. h);
}

pub keeps_then : {D : Type 0} (kind : DiskKind D) (old mid new : D) → Keeps kind old mid → Keeps kind mid new → Keeps kind old new
keeps_then kind old mid new h k = record {
  main = λ is. main_then (kind.view old) (kind.view mid) (kind.view new) (h.main is) (k.main (h.honest.0 is));
  spare = λ is. record { text = (k.spare (h.honest.0 is)).text ∙ (h.spare is).text; stable = λ s. (k.spare (h.honest.0 is)).stable ((h.spare is).stable s) };
  has_spare = λ s. k.has_spare (h.has_spare s);
  honest = (λ is. k.honest.0 (h.honest.0 is), λ is. h.honest.1 (k.honest.1 is));
}

-- a read into a buffer that was lent whole asks for as many bytes as it has
pub reads_whole : {D : Type 0} (kind : DiskKind D) (at : ℕ) (old new : D) (lent buffer : List ℕ) → lent ≡ buffer → length buffer ≡ 65536
    → kind.made (ReadMain at (length lent)) old new → kind.made (ReadMain at 65536) old new
reads_whole kind at old new lent buffer is size made =
    subst (λ (n : ℕ). kind.made (ReadMain at n) old new) (ap (λ (b : List ℕ). length b) is ∙ size) made

-- ---- pieces of a text

-- after the front that was read come the bytes that a call returned
pub front_then : (text buffer : List ℕ) (at n : ℕ) → Reads text at buffer n → take at text ++ take n buffer ≡ take (at + n) text
front_then text buffer at n h = ap (λ (l : List ℕ). take at text ++ l) h.bytes ∙ sym (take-add at n text)

-- the offset after them isn't past the text's end
pub place_in : (text buffer : List ℕ) (at n : ℕ) → Reads text at buffer n → n ≢ 0 → at + n ≤ length text
place_in text buffer at n h some =
    let given : length (take n buffer) ≡ min n (length buffer) = length-take n buffer in
    let there : length (take n (drop at text)) ≡ min n (length (drop at text)) = length-take n (drop at text) in
    let left : length (drop at text) ≡ length text - at = length-drop at text in
    let same : length (take n buffer) ≡ length (take n (drop at text)) = ap (λ (l : List ℕ). length l) h.bytes in
    omega (arith, given, there, left, same, h.within, some)

pub front_whole : (text buffer : List ℕ) (at n : ℕ) → Reads text at buffer n → n ≡ 0 → 0 < length buffer → take at text ≡ text
front_whole text buffer at n h none some = ⊎_elim (λ past. take_all at text past) (λ empty. absurd (omega (arith, empty, some))) (h.progress none)

-- ---- faults

pub fault_tells : (text : List ℕ) (f : DbFault) (e : OpenFault) → IsToldAs f e → IsRefusedSo text f → Tells text e
fault_tells text f Device told h = absurd told
fault_tells text f (Db g) told h = (subst (IsRefusedSo text) (sym told.0) h, λ is. told.1 (sym (ap (λ (d : DbFault). d.kind) told.0) ∙ is))
fault_tells text f Memory told h = tt

-- a fault on the way is that of the whole text
pub front_tells : (text : List ℕ) (n : ℕ) (f : DbFault) (e : OpenFault) → IsToldAs f e → IsRefusedFrom (take n text) f → Tells text e
front_tells text n f e told h = fault_tells text f e told (subst (λ (b : List ℕ). IsRefusedSo b f) (take-append-drop n text) (h (drop n text)))

-- ---- after calls in which the device didn't fail

pub counts_on : (Before After : Type 0) (old mid new : ℕ) (e : OpenFault) → (Before → After) → mid ≡ old → CountsFault After mid new e → CountsFault Before old new e
counts_on Before After old mid new Device still same h = λ honest. subst (λ (n : ℕ). HasRisen n new) same (h (still honest))
counts_on Before After old mid new (Db f) still same h = h ∙ same
counts_on Before After old mid new Memory still same h = h ∙ same

pub tells_on : (old mid : List ℕ) (e : OpenFault) → mid ≡ old → Tells mid e → Tells old e
tells_on old mid e same h = subst (λ (t : List ℕ). Tells t e) same h

pub fed_on : (r : DbReader) (old mid : List ℕ) (at : ℕ) → mid ≡ old → HasFed r (take at old) → HasFed r (take at mid)
fed_on r old mid at same h = subst (λ (t : List ℕ). HasFed r (take at t)) (sym same) h

pub fed_to : (r : DbReader) (old mid : List ℕ) (next end : Option ℕ) → mid ≡ old → next ≡ end → HasFed r (front_to mid next) → HasFed r (front_to old end)
fed_to r old mid next end same is h = subst (λ (t : List ℕ). HasFed r (front_to t end)) same (subst (λ (n : Option ℕ). HasFed r (front_to mid n)) is h)

-- ---- what is answered

pub recovers_found : (text : List ℕ) (r : Result stored.Saved OpenFault) → Recovers text r → IfOk r (λ s. SpellsSaved text (saved_of s))
recovers_found text (Ok s) h = is_found text (Ok s) h
recovers_found text (Err e) h = tt

pub recovers_sizes : (text : List ℕ) (r : Result stored.Saved OpenFault) → Recovers text r → IfOk r (λ s. SpellsSavedWithin text (saved_of s))
recovers_sizes text (Ok s) h = is_found_within text (Ok s) h
recovers_sizes text (Err e) h = tt

pub recovers_within : (text : List ℕ) (r : Result stored.Saved OpenFault) → Recovers text r → (s : Saved) → SpellsSavedWithin text s
    → MatchResult r (λ x. saved_of x ≡ s) (λ e. (e ≡ Device) ⊎ (e ≡ Memory))
recovers_within text (Ok x) h s k = is_loaded_within text (Ok x) h s k
recovers_within text (Err Device) h s k = inl refl
recovers_within text (Err (Db f)) h s k = absurd (h.1 (is_loaded_within text (Err f) h.0 s k))
recovers_within text (Err Memory) h s k = inr refl

pub recovers_refused : (text : List ℕ) (r : Result stored.Saved OpenFault) → Recovers text r
    → IfErr r (λ e. (f : DbFault) → e ≡ Db f → Refuses text f × (f.kind ≢ fault_kind.Memory))
recovers_refused text (Ok s) h = tt
recovers_refused text (Err Device) h = λ f is. absurd cc
recovers_refused text (Err (Db g)) h = λ f is. let same : g ≡ f = cc in (subst (Refuses text) same (refusal_says text g h.0), subst (λ (d : DbFault). d.kind ≢ fault_kind.Memory) same h.1)
recovers_refused text (Err Memory) h = λ f is. absurd cc
