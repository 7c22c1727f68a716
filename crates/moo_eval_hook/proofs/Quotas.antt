-- Quotas that are read and changed.
use Rattle.std.proofs.Common.{◌≡◌, ℤ, Option, Some, None, Result, Ok, Err, refl, sym, ap, subst, ◌∙◌}
use Rattle.moo_value.specs.declared.error_code.ErrorCode.{ErrorCode}
use Rattle.moo_world_table.specs.World.{World}
use Rattle.moo_world.specs.declared.fault.WorldFault.{WorldFault}
use Rattle.moo_world.specs.declared.fault.WorldFault.TheVariants as fault
use Rattle.moo_world.specs.Calls.{Answers, Changes, TakesNoMemory}
use Rattle.moo_eval_semantics.specs.Quota.{where_allowed, with_quota}

-- a call that takes no memory has changed the world, or raises and leaves it
pub set_or_left : {T : Type 0} (r : Result T WorldFault) (w w' : World) (raises : Option ErrorCode) (after : World) → Changes r w w' raises after → TakesNoMemory r → w' ≡ where_allowed raises after w
set_or_left (Ok v) w w' raises after c m = c.1 ∙ sym (ap (λ x. where_allowed x after w) c.0)
set_or_left (Err (fault.Raise e)) w w' raises after c m = c.1 ∙ sym (ap (λ x. where_allowed x after w) c.0)
set_or_left (Err fault.Memory) w w' raises after c m = absurd m

-- who has no quota is not counted
pub uncounted : (w : World) (owner change : ℤ) (q : Option ℤ) → ((n : ℤ) → q ≡ Some n → ⊥) → w ≡ with_quota w owner q change
unfolding with_quota
uncounted w owner change None h = refl
uncounted w owner change (Some n) h = absurd (h n refl)

-- what was read, and what reading raises
pub was_read : {T : Type 0} (r : Result T WorldFault) (raises : Option ErrorCode) (P : T → Type 0) (v : T) → Answers r raises P → r ≡ Ok v → (raises ≡ None) × P v
was_read (Ok u) raises P v h e = let q : u ≡ v = cc in (h.0, subst P q h.1)
was_read (Err (fault.Raise code)) raises P v h e = absurd cc
was_read (Err fault.Memory) raises P v h e = absurd cc

pub was_raised : {T : Type 0} (r : Result T WorldFault) (raises : Option ErrorCode) (P : T → Type 0) (code : ErrorCode) → Answers r raises P → r ≡ Err (fault.Raise code) → raises ≡ Some code
was_raised (Ok u) raises P code h e = absurd cc
was_raised (Err (fault.Raise other)) raises P code h e = let q : ◌≡◌ {A = WorldFault} (fault.Raise other) (fault.Raise code) = cc in let same : other ≡ code = cc in h ∙ ap Some same
was_raised (Err fault.Memory) raises P code h e = absurd cc
