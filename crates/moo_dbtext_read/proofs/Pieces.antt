-- A text that is refused on the way, or at its end.
use Rattle.std.proofs.Common.{◌≡◌, ℕ, ℤ, true, List, [], ◌++◌, Option, Result, Ok, Err, inl, inr, sym, ap, subst, ◌∙◌, append-nil, append_assoc}
use Rattle.std.specs.Prelude.{IfErr, map, option_map, ⊤}
use Rattle.moo_dbtext_record.specs.declared.fault.DbFault.{DbFault}
use Rattle.moo_dbtext_object.specs.Lines.{limited, unlines}
use Rattle.moo_dbtext_object.specs.Objects.{Object, object_of}
use Rattle.moo_dbtext_object.specs.declared.object_record.ObjectRecord.{ObjectRecord}
use Rattle.moo_dbtext_record.specs.Texts.{Text, text_of, Spells}
use Rattle.moo_dbtext_record.specs.DumpReading.{Progress}
use Rattle.moo_dbtext_record.specs.Sparing.{outline_read, has_objects}
use Rattle.moo_dbtext_record.specs.Placing.{lines_to_objects, BeginsWithObjects}
use Rattle.moo_dbtext_record.specs.declared.dump.Dump.{Dump}
use Rattle.moo_dbtext_record.proofs.Standing.{stands_on}
use Rattle.moo_dbtext_record.proofs.Placed.{objects_begin}
use Rattle.moo_dbtext_read.specs.Reading.{HasRead, IsWell, IsAfter, place_of}
use Rattle.moo_dbtext_read.specs.declared.program_reader.ProgramReader.{ProgramReader}
use Rattle.moo_dbtext_read.proofs.Refused.{read_well}
use Rattle.moo_dbtext_read.specs.Loading.{IsRefusedSo, IsRefusedFrom, IsTextUntold, LoadAnswers}
use Rattle.moo_dbtext_read.specs.Taking.{IsLoading, Loads, LoadsOn, HasTaken, IsGoing, HasFailed}
use Rattle.moo_dbtext_read.specs.declared.world_reader.WorldReader.{WorldReader}
use Rattle.moo_dbtext_read.specs.Refusals.{Refuses}
use Rattle.moo_dbtext_read.proofs.Whole.{without_memory, told_begun, is_loaded_only, is_loaded_within, is_loaded_place, is_loaded_program, is_loaded_hierarchy, is_loaded_count, is_loaded_size, is_loaded_large, is_loaded_past}
use Rattle.moo_dbtext_read.specs.declared.saved.Saved as stored

pub refused_alone : (bytes : List ℕ) (e : DbFault) → IsRefusedFrom bytes e → IsRefusedSo bytes e
refused_alone bytes e h = subst (λ (b : List ℕ). IsRefusedSo b e) (append-nil bytes) (h [])

pub refusal_says : (bytes : List ℕ) (e : DbFault) → IsRefusedSo bytes e → Refuses bytes e
refusal_says bytes e h = record {
  only = λ s k. is_loaded_only bytes (Err e) h s k;
  within = λ s k. is_loaded_within bytes (Err e) h s k;
  place = is_loaded_place bytes (Err e) h;
  program = is_loaded_program bytes (Err e) h;
  hierarchy = is_loaded_hierarchy bytes (Err e) h;
  count = is_loaded_count bytes (Err e) h;
  size = is_loaded_size bytes (Err e) h;
  large = is_loaded_large bytes (Err e) h;
  past = is_loaded_past bytes (Err e) h;
}

pub answer_says : (bytes : List ℕ) (r : Result stored.Saved DbFault) → LoadAnswers r bytes → IfErr r (Refuses bytes)
answer_says bytes (Ok s) h = tt
answer_says bytes (Err e) h = refusal_says bytes e h

-- ---- objects that are checked after the last of them

begins_on : (bytes more : List ℕ) (players : List ℤ) (objects : List (Option Object)) → BeginsWithObjects bytes players objects → BeginsWithObjects (bytes ++ more) players objects
begins_on bytes more players objects h = record {
  version = h.version;
  programs = h.programs;
  unused = h.unused;
  notes = h.notes;
  after = h.after ++ more;
  whole = ap (λ (b : List ℕ). b ++ more) h.whole ∙ append_assoc (unlines (lines_to_objects h.version h.programs h.unused h.notes players objects)) h.after more;
  lines = h.lines;
  stand = stands_on limited h.lines bytes more h.stand;
  all = h.all;
  players_come = h.players_come;
  objects_come = h.objects_come;
  players_there = λ on t spelled. h.players_there (more ++ on) t (subst (λ (b : List ℕ). Spells b t) (append_assoc bytes more on) spelled);
  objects_there = λ on t spelled. h.objects_there (more ++ on) t (subst (λ (b : List ℕ). Spells b t) (append_assoc bytes more on) spelled);
}

module _ (p : ProgramReader) (bytes : List ℕ) (d : Dump) (read : HasRead p bytes) (well : IsWell p) (past : has_objects (place_of p).section ≡ true) (text : text_of d ≡ (place_of p).text) where
  following : IsAfter p bytes
  following = read_well p bytes well read

  alike : outline_read following.at.state.progress ≡ outline_read (place_of p)
  alike = following.at.alike.progress.rest

  begins : BeginsWithObjects bytes (text_of d).players (text_of d).objects
  begins =
      subst (λ (ps : List ℤ). BeginsWithObjects bytes ps (text_of d).objects) (ap (λ (r : Progress). r.text.players) alike ∙ sym (ap (λ (t : Text). t.players) text))
      (subst (BeginsWithObjects bytes following.at.state.progress.text.players) (ap (λ (r : Progress). r.text.objects) alike ∙ sym (ap (λ (t : Text). t.objects) text))
      (objects_begin bytes following.at.state following.at.leads (ap (λ (r : Progress). has_objects r.section) alike ∙ past)))

  early_refused : (e : DbFault) → IsTextUntold (text_of d).players (text_of d).objects e → IsRefusedFrom bytes e
  early_refused e (inl memory) = λ more. without_memory (bytes ++ more) e memory
  early_refused e (inr told) = λ more. told_begun (bytes ++ more) (text_of d).players (text_of d).objects e told.fault (begins_on bytes more (text_of d).players (text_of d).objects begins) told.is told.told

  pub looked_at : {X : Type 0} (r : Result X DbFault) (ps : List ℤ) (os : List (Option ObjectRecord)) → ps ≡ d.players.items → os ≡ d.objects.items → IfErr r (IsTextUntold ps (map (option_map object_of) os)) → IfErr r (IsRefusedFrom bytes)
  looked_at (Ok x) ps os players objects h = tt
  looked_at (Err e) ps os players objects h =
      early_refused e (subst (λ (l : List ℤ). IsTextUntold l (text_of d).objects e) players (subst (λ (l : List (Option ObjectRecord)). IsTextUntold ps (map (option_map object_of) l) e) objects h))

-- ---- a reader of worlds

pub taken_failed : (r : WorldReader) (e : DbFault) (bytes : List ℕ) → HasFailed r e → HasTaken r bytes → IsRefusedFrom bytes e
taken_failed r e bytes failed h = at r.outcome failed h
  where
    at : (o : Result ⊤ DbFault) → o ≡ Err e → Loads o r bytes → IsRefusedFrom bytes e
    at (Ok x) is k = absurd cc
    at (Err d) is k = subst (IsRefusedFrom bytes) (let same : d ≡ e = cc in same) k

pub taken_going : (r : WorldReader) (bytes : List ℕ) → IsGoing r → HasTaken r bytes → IsLoading r bytes
taken_going r bytes going h = at r.outcome going h
  where
    at : (o : Result ⊤ DbFault) → o ≡ Ok tt → Loads o r bytes → IsLoading r bytes
    at (Ok x) is k = k
    at (Err d) is k = absurd cc

-- the result of the bytes is kept
pub taken_kept : (result : Result ⊤ DbFault) (s : WorldReader) (bytes : List ℕ) → Loads result s bytes → HasTaken (record s { outcome = result }) bytes
taken_kept (Ok x) s bytes h = record { read = h.read; well = h.well; looked = h.looked; faultless = h.faultless }
taken_kept (Err e) s bytes h = h

-- what is refused so is refused however the bytes go on
pub refused_on : (bytes more : List ℕ) (e : DbFault) → IsRefusedFrom bytes e → IsRefusedFrom (bytes ++ more) e
refused_on bytes more e h = λ on. subst (λ (b : List ℕ). IsRefusedSo b e) (sym (append_assoc bytes more on)) (h (more ++ on))

pub loads_join : (r s t : WorldReader) (front more : List ℕ) (result : Result ⊤ DbFault) → LoadsOn r front (Ok tt) s → LoadsOn s more result t → LoadsOn r (front ++ more) result t
loads_join r s t front more result a b = λ bytes h. subst (Loads result t) (append_assoc bytes front more) (b (bytes ++ front) (a bytes h))

pub loads_stop : (r s : WorldReader) (front more : List ℕ) (e : DbFault) → LoadsOn r front (Err e) s → LoadsOn r (front ++ more) (Err e) s
loads_stop r s front more e a = λ bytes h. subst (Loads (Err e) s) (append_assoc bytes front more) (refused_on (bytes ++ front) more e (a bytes h))
