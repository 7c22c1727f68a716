-- The output for a database: its contents, or why it is refused.
use Rattle.std.proofs.Common.{◌≡◌, ◌≢◌, ℕ, List, [], ◌++◌, ◌⊎◌, Some, None, IfSome, inl, inr, sym, subst, arith}
use Rattle.std.specs.Prelude.{Option, Err}
use Rattle.std.specs.Io.KnownBytes.{Appends, Consumes, Keeps}
use Rattle.moo_dbtext_record.specs.declared.fault.DbFault.{DbFault}
use Rattle.moo_dbtext_record.specs.declared.fault.DbFaultKind.TheVariants.{Memory}
use Rattle.moo_dbtext_read.specs.Saved.{Saved, SpellsSaved}
use Rattle.moo_dbtext_read.specs.Loading.{LoadAnswers}
use Rattle.moo_dbtext_read.proofs.Pieces.{refusal_says}
use Rattle.moo_dbtext_read.proofs.Whole.{is_loaded_within}
use Rattle.moo_cli_io.specs.Told.{fault_line}
use Rattle.moo_cli_io.specs.GivingUp.{HasGivenUp}
use Rattle.moo_cli_io.specs.declared.watch.Watch.{Watch}
use Rattle.moo_cli_io.proofs.GivenUp.{if_some}
use Rattle.moo_cli_check.specs.Database.{HasShown, HasTold, IsAnswered, ShowsDatabase}

-- ---- devices

pub keeps_nothing : (a b : Option (List ℕ)) → Keeps a b → Consumes a b []
keeps_nothing None b h = tt
keeps_nothing (Some x) None h = absurd h
keeps_nothing (Some x) (Some y) h = sym h

-- whatever comes after the bytes that were read
pub consumed_front : (a b : Option (List ℕ)) (bs : List ℕ) (P : List ℕ → Type 0) → Consumes a b bs → ((more : List ℕ) → P (bs ++ more)) → IfSome a P
consumed_front None b bs P c h = tt
consumed_front (Some x) None bs P c h = absurd c
consumed_front (Some x) (Some y) bs P c h = subst P (sym c) (h y)

-- ---- answers

pub read_shown : (show : Saved → List ℕ) (known old new : Option (List ℕ)) (text : List ℕ) (status : ℕ) (s : Saved)
    → IfSome known (λ b. SpellsSaved b s) → text ≡ show s → status ≡ 0 → Appends old new text → IsAnswered show known old new status
read_shown show known old new text status s spelled is zero grows = record {
  known = inl zero;
  read = λ z. if_some (λ b. SpellsSaved b s) (λ b. HasShown show b old new) known
      (λ b spells. record { saved = s; spelled = spells; shown = subst (λ (l : List ℕ). Appends old new l) is grows }) spelled;
  refused = λ one. absurd (omega (arith, zero, one));
}

pub refused_told : (show : Saved → List ℕ) (known old new : Option (List ℕ)) (e : DbFault) (status : ℕ)
    → IfSome known (λ b. LoadAnswers (Err e) b) → e.kind ≢ Memory → status ≡ 1 → Appends old new (fault_line e) → IsAnswered show known old new status
refused_told show known old new e status answer is one grows = record {
  known = inr one;
  read = λ zero. absurd (omega (arith, zero, one));
  refused = λ o. if_some (λ b. LoadAnswers (Err e) b) (λ b. HasTold b old new) known
      (λ b h. record { fault = e; answer = h; why = refusal_says b e h; is = is; none = λ s within. is (is_loaded_within b (Err e) h s within); told = grows }) answer;
}

pub shows : (show : Saved → List ℕ) (known old new : Option (List ℕ)) (watch : Watch) (status : ℕ) → IsAnswered show known old new status ⊎ HasGivenUp old new watch status → ShowsDatabase show known old new status
shows show known old new watch status (inl a) = inl a
shows show known old new watch status (inr g) = inr (g.refusal, g.is)
