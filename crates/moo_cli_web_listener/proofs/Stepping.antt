-- Callers that are accepted, and those that make a step.
use Rattle.std.proofs.Common.{◌≡◌, ◌≢◌, ◌⊎◌, ℕ, ◌-◌, ◌<◌, ◌≤◌, length, nat_le, Option, None, Some, inl, inr, refl, sym, ◌∙◌, ap, subst, true, false, arith}
use Rattle.std.specs.Prelude.{IfSome, IsSome}
use Rattle.std.proofs.lemmas.Bool.{cases_eq, cases_lt}
use Rattle.std.proofs.lemmas.Bool.Decides.{nat_tests}
use Rattle.std.proofs.lemmas.List.{get_or_past}
use Rattle.slab.specs.Slab.{SameValues, Slab, Updates, get, with_value}
use Rattle.slab.proofs.SlabLemmas.{Updates-with_value}
use Rattle.moo_cli_web_listener.specs.declared.caller.Caller.{Caller}
use Rattle.moo_cli_web_listener.specs.declared.caller.Stage.{Stage}
use Rattle.moo_cli_web_listener.specs.declared.caller.Stage.TheVariants as stage
use Rattle.moo_cli_web_listener.specs.Callers.{Accepts, BeginsToLinger, GoesOnLingering, IsStepped, IsTimely, Lingers, MakesRoom, is_over, is_upgrading}

-- a stage that stays
pub lingers_same : (now : ℕ) (s : Stage) → Lingers now s s
lingers_same now stage.Reading = tt
lingers_same now (stage.Writing rest) = tt
lingers_same now (stage.Upgrading accept n) = tt
lingers_same now (stage.Lingering left since) = (omega arith, refl)

goes_goes : (left since more later : ℕ) (is : Stage) → GoesOnLingering left since (stage.Lingering more later) → GoesOnLingering more later is → GoesOnLingering left since is
goes_goes left since more later (stage.Lingering last at) first second = (omega (arith, first.0, second.0), second.1 ∙ first.1)
goes_goes left since more later stage.Reading first second = absurd second
goes_goes left since more later (stage.Writing rest) first second = absurd second
goes_goes left since more later (stage.Upgrading accept n) first second = absurd second

goes_on : (now left since : ℕ) (between is : Stage) → GoesOnLingering left since between → Lingers now between is → GoesOnLingering left since is
goes_on now left since (stage.Lingering more later) is first second = goes_goes left since more later is first second
goes_on now left since stage.Reading is first second = absurd first
goes_on now left since (stage.Writing rest) is first second = absurd first
goes_on now left since (stage.Upgrading accept n) is first second = absurd first

begins_goes : (now left since : ℕ) (is : Stage) → BeginsToLinger now (stage.Lingering left since) → GoesOnLingering left since is → BeginsToLinger now is
begins_goes now left since (stage.Lingering more later) first second = (omega (arith, first.0, second.0), second.1 ∙ first.1)
begins_goes now left since stage.Reading first second = absurd second
begins_goes now left since (stage.Writing rest) first second = absurd second
begins_goes now left since (stage.Upgrading accept n) first second = absurd second

begins_on : (now : ℕ) (between is : Stage) → BeginsToLinger now between → Lingers now between is → BeginsToLinger now is
begins_on now (stage.Lingering left since) is first second = begins_goes now left since is first second
begins_on now stage.Reading is first second = second
begins_on now (stage.Writing rest) is first second = second
begins_on now (stage.Upgrading accept n) is first second = second

-- two steps in one second
pub lingers_through : (now : ℕ) (was between is : Stage) → Lingers now was between → Lingers now between is → Lingers now was is
lingers_through now (stage.Lingering left since) between is first second = goes_on now left since between is first second
lingers_through now stage.Reading between is first second = begins_on now between is first second
lingers_through now (stage.Writing rest) between is first second = begins_on now between is first second
lingers_through now (stage.Upgrading accept n) between is first second = begins_on now between is first second

just_begun : (now since : ℕ) → since ≡ now → nat_le 2 (now - since) ≡ false
just_begun now since same = grind (arith, nat_tests)

begins_timely : (now : ℕ) (is : Stage) → BeginsToLinger now is → is_over now is ≡ false
begins_timely now (stage.Lingering left since) begins = just_begun now since begins.1
begins_timely now stage.Reading begins = refl
begins_timely now (stage.Writing rest) begins = refl
begins_timely now (stage.Upgrading accept n) begins = refl

goes_timely : (now left since : ℕ) (is : Stage) → GoesOnLingering left since is → is_over now (stage.Lingering left since) ≡ false → is_over now is ≡ false
goes_timely now left since (stage.Lingering more later) goes over = ap (λ (at : ℕ). nat_le 2 (now - at)) goes.1 ∙ over
goes_timely now left since stage.Reading goes over = absurd goes
goes_timely now left since (stage.Writing rest) goes over = absurd goes
goes_timely now left since (stage.Upgrading accept n) goes over = absurd goes

-- who begins to linger in this second isn't over in it
stays_timely : (now : ℕ) (was is : Stage) → Lingers now was is → is_over now was ≡ false → is_over now is ≡ false
stays_timely now (stage.Lingering left since) is lingers over = goes_timely now left since is lingers over
stays_timely now stage.Reading is lingers over = begins_timely now is lingers
stays_timely now (stage.Writing rest) is lingers over = begins_timely now is lingers
stays_timely now (stage.Upgrading accept n) is lingers over = begins_timely now is lingers

pub timely_on : (now : ℕ) (was is : Option Caller) → IsStepped now was is → IsTimely now was → IsTimely now is
timely_on now None is stepped timely = subst (λ (slot : Option Caller). IsTimely now slot) (sym stepped) tt
timely_on now (Some was) None stepped timely = tt
timely_on now (Some was) (Some caller) stepped timely = stays_timely now was.stage caller.stage stepped.1.2 timely

-- keys past the end have no caller
pub timely_all : (now end : ℕ) (start is : Slab Caller) → length start.slots ≤ end → ((k : ℕ) → IsStepped now (get start k) (get is k))
    → ((k : ℕ) → k < end → IsTimely now (get is k)) → (k : ℕ) → IsTimely now (get is k)
timely_all now end start is short steps timely k = by_place (cases_lt k end)
  where
    none : end ≤ k → get start k ≡ None
    none past = get_or_past start.slots k None (omega (arith, short, past))

    by_place : (k < end) ⊎ (end ≤ k) → IsTimely now (get is k)
    by_place (inl less) = timely k less
    by_place (inr past) = timely_on now (get start k) (get is k) (steps k) (subst (λ (slot : Option Caller). IsTimely now slot) (sym (none past)) tt)

pub stepped_same : (now : ℕ) (was is : Option Caller) → is ≡ was → IsStepped now was is
stepped_same now None is same = same
stepped_same now (Some caller) is same =
    (λ _. same, subst (λ (slot : Option Caller). IfSome slot (λ c. (c.stream ≡ caller.stream) × (c.arrival ≡ caller.arrival) × Lingers now caller.stage c.stage)) (sym same) (refl, refl, lingers_same now caller.stage))

pub stepped_on : (now : ℕ) (was between is : Option Caller) → IsStepped now was between → IsStepped now between is → IsStepped now was is
stepped_on now None between is first second = subst (λ (slot : Option Caller). IsStepped now slot is) first second
stepped_on now (Some was) None is first second =
    (λ waits. let lost = first.0 waits in absurd cc, subst (λ (slot : Option Caller). IfSome slot (λ c. (c.stream ≡ was.stream) × (c.arrival ≡ was.arrival) × Lingers now was.stage c.stage)) (sym second) tt)
stepped_on now (Some was) (Some between) is first second = (
  λ waits.
      let same : Some between ≡ Some was = first.0 waits in
      let here : between ≡ was = cc in second.0 (ap (λ (c : Caller). is_upgrading c.stage) here ∙ waits) ∙ same,
  by_slot is second.1,
)
  where
    by_slot : (slot : Option Caller) → IfSome slot (λ c. (c.stream ≡ between.stream) × (c.arrival ≡ between.arrival) × Lingers now between.stage c.stage)
        → IfSome slot (λ c. (c.stream ≡ was.stream) × (c.arrival ≡ was.arrival) × Lingers now was.stage c.stage)
    by_slot None same = tt
    by_slot (Some caller) same = (same.0 ∙ first.1.0, same.1 ∙ first.1.1, lingers_through now was.stage between.stage caller.stage first.1.2 same.2)

stepped_updated : (now : ℕ) (old new : Slab Caller) (key : ℕ) (slot : Option Caller) → Updates old new key slot → IsStepped now (get old key) slot → (k : ℕ)
    → IsStepped now (get old k) (get new k)
stepped_updated now old new key slot updates here k = by_key (cases_eq k key)
  where
    by_key : (k ≡ key) ⊎ (k ≢ key) → IsStepped now (get old k) (get new k)
    by_key (inl same) =
        subst (λ (j : ℕ). IsStepped now (get old j) (get new j)) (sym same) (subst (λ (s : Option Caller). IsStepped now (get old key) s) (sym updates.changed) here)
    by_key (inr differs) = stepped_same now (get old k) (get new k) (updates.others k differs)

written : (callers : Slab Caller) (key : ℕ) (was is : Caller) → Some was ≡ get callers key → Updates callers (with_value callers key is) key (Some is)
written callers key was is found = Updates-with_value callers key is (subst (λ (slot : Option Caller). IsSome slot) found refl)

-- a caller that made a step
pub stepped_written : (now : ℕ) (callers : Slab Caller) (key : ℕ) (was is : Caller) (k : ℕ) → Some was ≡ get callers key → (is_upgrading was.stage ≡ true → is ≡ was)
    → (is.stream ≡ was.stream) × (is.arrival ≡ was.arrival) → Lingers now was.stage is.stage → IsStepped now (get callers k) (get (with_value callers key is) k)
stepped_written now callers key was is k found waits same lingers =
    stepped_updated now callers (with_value callers key is) key (Some is) (written callers key was is found)
    (subst (λ (slot : Option Caller). IsStepped now slot (Some is)) found (λ w. ap (λ (c : Caller). Some c) (waits w), (same.0, same.1, lingers))) k

-- one that was closed after that
pub stepped_removed : (now : ℕ) (callers new : Slab Caller) (key : ℕ) (was is : Caller) (k : ℕ) → Some was ≡ get callers key → (is_upgrading was.stage ≡ true → ⊥)
    → Updates (with_value callers key is) new key None → IsStepped now (get callers k) (get new k)
stepped_removed now callers new key was is k found waits updates = by_key (cases_eq k key)
  where
    by_key : (k ≡ key) ⊎ (k ≢ key) → IsStepped now (get callers k) (get new k)
    by_key (inl same) =
        subst (λ (j : ℕ). IsStepped now (get callers j) (get new j)) (sym same)
        (subst (λ (s : Option Caller). IsStepped now (get callers key) s) (sym updates.changed)
        (subst (λ (slot : Option Caller). IsStepped now slot None) found (λ w. absurd (waits w), tt)))
    by_key (inr differs) =
        stepped_same now (get callers k) (get new k) (updates.others k differs ∙ (written callers key was is found).others k differs)

-- room is made, and nobody is kept, or one more
pub keeps_none : (old room new : Slab Caller) → MakesRoom old room → SameValues room new → Accepts old new
keeps_none old room new makes same = inr (room, makes, inl same)

pub keeps_one : (old room reserved new : Slab Caller) (key : ℕ) (caller : Caller) → MakesRoom old room → SameValues room reserved → get reserved key ≡ None
    → Updates reserved new key (Some caller) → Accepts old new
keeps_one old room reserved new key caller makes same vacant updates =
    inr (room, makes, inr (key, caller, sym (same key) ∙ vacant, record { changed = updates.changed; others = λ k differs. updates.others k differs ∙ same k }))
