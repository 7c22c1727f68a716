-- What two readers of the same bytes answer.
use Rattle.std.proofs.Common.{◌≡◌, ◌≢◌, ℕ, true, false, List, ◌++◌, ◌⊎◌, Option, Some, None, Ok, Err, IfSome, inl, inr, sym, ap, subst, ◌∙◌, arith}
use Rattle.std.specs.Global.{Vec}
use Rattle.std.specs.Io.KnownBytes.{Appends}
use Rattle.moo_dbtext_object.specs.Lines.{limited}
use Rattle.moo_dbtext_record.specs.Answer.{Told, taken_on, begin}
use Rattle.moo_dbtext_record.specs.declared.fault.DbFault.{DbFault}
use Rattle.moo_dbtext_record.specs.declared.fault.DbFaultKind.{DbFaultKind}
use Rattle.moo_dbtext_record.specs.declared.fault.DbFaultKind.TheVariants as kind
use Rattle.moo_dbtext_read.proofs.Refused.{read_well}
use Rattle.moo_dbtext_read.specs.Saved.{saved_of, SpellsSaved}
use Rattle.moo_dbtext_read.specs.declared.saved.Saved as stored
use Rattle.moo_dbtext_read.specs.Loading.{LoadAnswers, IsRefusedFrom}
use Rattle.moo_dbtext_read.specs.Feeding.{HasFed, IsWell}
use Rattle.moo_dbtext_read.specs.declared.db_reader.DbReader.{DbReader}
use Rattle.moo_dbtext_read.proofs.Pieces.{taken_going, refusal_says}
use Rattle.moo_dbtext_read.proofs.Whole.{is_found, is_loaded_within}
use Rattle.moo_cli_io.specs.Told.{fault_line}
use Rattle.moo_cli_io.specs.GivingUp.{HasGivenUp}
use Rattle.moo_cli_io.specs.declared.watch.Watch.{Watch}
use Rattle.moo_cli_io.proofs.GivenUp.{if_some}
use Rattle.moo_cli_check.specs.Database.{counts_line}
use Rattle.moo_cli_check.proofs.Shown.{read_shown}
use Rattle.moo_cli_check.specs.Reading.{IsEnded, IsWholly}
use Rattle.moo_cli_check.specs.Shown.{is_of_program, HasToldAll, HasToldOther, IsAnswered, ShowsAll, survey_text}
use Rattle.moo_cli_check.specs.Answers.{GoesOn, AreSurveyed, LacksMemory, IsHalted, Answers}
use Rattle.moo_cli_check.specs.declared.readers.Halt.{Halt}
use Rattle.moo_cli_check.specs.declared.readers.Halt.TheVariants as halt
use Rattle.moo_cli_check.specs.declared.readers.Answer.{Answer}
use Rattle.moo_cli_check.specs.declared.readers.Answer.TheVariants as answer

-- ---- a piece

-- a reader of worlds that is well has met no line that stops it
well_goes : (c : DbReader) (bytes : List ℕ) (d : Told) → IsWell c → HasFed c bytes → taken_on limited begin bytes ≡ Err d → ⊥
well_goes c bytes d well fed stops =
    let loading = taken_going c bytes well fed in
    let after = read_well c.programs bytes loading.well loading.read in
    let no = sym after.at.leads ∙ stops in
    cc

pub program_goes : (c : DbReader) (bytes : List ℕ) (e : DbFault) → is_of_program e.kind ≡ true → IsRefusedFrom bytes e → GoesOn c bytes
program_goes c bytes e program refused = inr (λ more. record { fault = e; program = program; answer = refused more })

pub piece_ends : (c : DbReader) (bytes : List ℕ) (es : List DbFault) (e : DbFault) → HasFed c bytes → GoesOn c bytes → IsEnded bytes es e → IsHalted bytes es (halt.Ended e)
piece_ends c bytes es e fed goes (inl memory) = inl memory
piece_ends c bytes es e fed (inl well) (inr stopped) = absurd (well_goes c bytes stopped.fault well fed stopped.stops)
piece_ends c bytes es e fed (inr check) (inr stopped) = inr (λ more. record { check = check more; survey = stopped.survey more })

-- ---- the end

pub whole_surveyed : (bytes : List ℕ) (es : List DbFault) (end : Option DbFault) (e : DbFault) → is_of_program e.kind ≡ true → LoadAnswers (Err e) bytes → IsWholly bytes es end → LacksMemory end ⊎ AreSurveyed bytes es end
whole_surveyed bytes es None e program refused h = inr (record { check = record { fault = e; program = program; answer = refused }; survey = h })
whole_surveyed bytes es (Some x) e program refused (inl memory) = inl memory
whole_surveyed bytes es (Some x) e program refused (inr h) = inr (record { check = record { fault = e; program = program; answer = refused }; survey = h })

-- ---- the report

no_memory : (k : DbFaultKind) → is_of_program k ≡ true → k ≡ kind.Memory → ⊥
no_memory k program is = let no : true ≡ false = sym program ∙ ap is_of_program is in cc

pub all_told : (known old new : Option (List ℕ)) (es : List DbFault) (end : Option DbFault) (status : ℕ) → IfSome known (λ b. LacksMemory end ⊎ AreSurveyed b es end) → (LacksMemory end → ⊥) → status ≡ 1 → Appends old new (survey_text es end) → IsAnswered known old new status
all_told known old new es end status answer known_end one grows = record {
  known = inr one;
  read = λ zero. absurd (omega (arith, zero, one));
  refused = λ o. if_some (λ b. LacksMemory end ⊎ AreSurveyed b es end) (λ b. HasToldAll b old new ⊎ HasToldOther b old new) known
      (λ b h. inl (elim h [
        | inl memory ↦ absurd (known_end memory)
        | inr s ↦ record {
          check = s.check;
          none = λ w within. no_memory s.check.fault.kind s.check.program (is_loaded_within b (Err s.check.fault) s.check.answer w within);
          faults = es;
          end = end;
          survey = s.survey;
          told = grows;
        }
      ])) answer;
}

pub shows : (known old new : Option (List ℕ)) (watch : Watch) (status : ℕ) → IsAnswered known old new status ⊎ HasGivenUp old new watch status → ShowsAll known old new status
shows known old new watch status (inl a) = inl a
shows known old new watch status (inr g) = inr (g.refusal, g.is)

pub saved_shown : (known old new : Option (List ℕ)) (line : List ℕ) (a : Answer) (s : stored.Saved) (status : ℕ) → a ≡ answer.Checked (Ok s) → IfSome known (Answers a) → line ≡ counts_line (saved_of s) → status ≡ 0 → Appends old new line → IsAnswered known old new status
saved_shown known old new line a s status is found text zero grows =
    let loaded = subst (λ (x : Answer). IfSome known (Answers x)) is found in
    let spelled = if_some (Answers (answer.Checked (Ok s))) (λ b. SpellsSaved b (saved_of s)) known (λ b h. is_found b (Ok s) h.0) loaded in
    let shown = read_shown counts_line known old new line status (saved_of s) spelled text zero grows in
    record { known = inl zero; read = shown.read; refused = λ one. absurd (omega (arith, zero, one)) }

pub other_told : (known old new : Option (List ℕ)) (a : Answer) (e : DbFault) (status : ℕ) → a ≡ answer.Checked (Err e) → IfSome known (Answers a) → e.kind ≢ kind.Memory → status ≡ 1 → Appends old new (fault_line e) → IsAnswered known old new status
other_told known old new a e status same found is one grows = record {
  known = inr one;
  read = λ zero. absurd (omega (arith, zero, one));
  refused = λ o. if_some (Answers (answer.Checked (Err e))) (λ b. HasToldAll b old new ⊎ HasToldOther b old new) known
      (λ b h. inr (record {
        told = record { fault = e; answer = h.0; why = refusal_says b e h.0; is = is; none = λ s within. is (is_loaded_within b (Err e) h.0 s within); told = grows };
        other = h.1;
      })) (subst (λ (x : Answer). IfSome known (Answers x)) same found);
}

pub surveyed_told : (known old new : Option (List ℕ)) (a : Answer) (faults : Vec DbFault) (end : Option DbFault) (status : ℕ) → a ≡ answer.Surveyed faults end → IfSome known (Answers a) → (LacksMemory end → ⊥) → status ≡ 1 → Appends old new (survey_text faults.items end) → IsAnswered known old new status
surveyed_told known old new a faults end status same found = all_told known old new faults.items end status (subst (λ (x : Answer). IfSome known (Answers x)) same found)

-- ---- if the reading has ended

pub refused_answers : (front more : List ℕ) (es : List DbFault) (h : Halt) (e : DbFault) → h ≡ halt.Refused e → IsHalted front es h → Answers (answer.Checked (Err e)) (front ++ more)
refused_answers front more es h e is k = let s = subst (IsHalted front es) is k in (s.1 more, s.0)
