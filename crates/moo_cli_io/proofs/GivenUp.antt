-- That a program that gave up said so.
use Rattle.std.proofs.Common.{◌≡◌, ℕ, List, ◌++◌, ◌⊎◌, Some, None, IfSome, inl, inr, ap, subst, ◌∙◌}
use Rattle.std.specs.Prelude.{Option, Result, Ok, Err, IfOk}
use Rattle.std.specs.Io.KnownBytes.{Appends, Keeps}
use Rattle.moo_cli_io.specs.GivingUp.{HasGivenUp}
use Rattle.moo_cli_io.specs.Refused.{refusal_status, refusal_line, IsEarned}
use Rattle.moo_cli_io.specs.Watching.{HasFailed, Remembers}
use Rattle.moo_cli_io.specs.declared.exit_reason.ExitReason.{ExitReason}
use Rattle.moo_cli_io.specs.declared.watch.Watch.{Watch}

keeps_appends : (a b c : Option (List ℕ)) (bs : List ℕ) → Keeps a b → Appends b c bs → Appends a c bs
keeps_appends None b c bs k h = tt
keeps_appends (Some x) None c bs k h = absurd k
keeps_appends (Some x) (Some y) None bs k h = absurd h
keeps_appends (Some x) (Some y) (Some z) bs k h = h ∙ ap (λ (l : List ℕ). l ++ bs) k

pub given_up : (old mid new : Option (List ℕ)) (before after : Watch) (r : ExitReason) (status : ℕ) → IsEarned before r → (HasFailed before ⊎ Keeps old mid) → status ≡ refusal_status r
    → (HasFailed after ⊎ Appends mid new (refusal_line r)) → Remembers before after → HasGivenUp old new after status
given_up old mid new before after r status earned silent is told remembers = record {
  refusal = r;
  is = is;
  device = λ e. remembers.failed (subst (IsEarned before) e earned);
  memory = λ e. remembers.lacked (subst (IsEarned before) e earned);
  told = by silent told;
}
  where
    by : (HasFailed before ⊎ Keeps old mid) → (HasFailed after ⊎ Appends mid new (refusal_line r)) → HasFailed after ⊎ Appends old new (refusal_line r)
    by (inl failed) t = inl (remembers.failed failed)
    by (inr keeps) (inl failed) = inl failed
    by (inr keeps) (inr grows) = inr (keeps_appends old mid new (refusal_line r) keeps grows)

pub if_some : {A : Type 0} (P Q : A → Type 0) (o : Option A) → ((x : A) → P x → Q x) → IfSome o P → IfSome o Q
if_some P Q None step h = tt
if_some P Q (Some x) step h = step x h

pub if_ok : {A E : Type 0} (P Q : A → Type 0) (r : Result A E) → ((x : A) → P x → Q x) → IfOk r P → IfOk r Q
if_ok P Q (Ok x) step h = step x h
if_ok P Q (Err e) step h = tt
