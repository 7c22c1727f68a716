-- What the world raises, and what a function comes to.
use Rattle.std.proofs.Common.{◌≡◌, Option, None, Result, Ok, Err, IfOk, sym, ap, subst, ◌∙◌}
use Rattle.moo_value.specs.declared.error_code.ErrorCode.{ErrorCode}
use Rattle.moo_world_table.specs.World.{World}
use Rattle.moo_eval_frame.specs.declared.outcome.Failure.{Failure}
use Rattle.moo_eval_frame.specs.declared.outcome.Failure.TheVariants.{Fails, Stops}
use Rattle.moo_eval_frame.specs.declared.outcome.Stop.TheVariants as stop
use Rattle.moo_eval_frame.specs.Seen.{failure_of, HadMemoryIn}
use Rattle.moo_world.specs.declared.fault.WorldFault.{WorldFault}
use Rattle.moo_world.specs.declared.fault.WorldFault.TheVariants as fault
use Rattle.moo_world.specs.Calls.{Changes, Tests}
use Rattle.moo_eval_semantics.specs.Progressing.{Progress, done, after_raise}
use Rattle.moo_eval_hook.specs.SeenByHooks.{as_outcome}

-- a change that was refused, with memory enough
pub refused : {T : Type 0} (r : Result T WorldFault) (w w' : World) (raises : Option ErrorCode) (after : World) (next : Progress × World) (f : Failure) →
    Changes r w w' raises after → as_outcome r ≡ Err f → HadMemoryIn f → after_raise w raises next ≡ (done (Err (failure_of f)), w')
refused (Ok v) w w' raises after next f c e k = absurd cc
refused (Err (fault.Raise code)) w w' raises after next f c e k =
    let q : ◌≡◌ {A = Failure} (Fails code) f = cc in
    ap (λ x. after_raise w x next) c.0 ∙ ap (λ g. (done (Err (failure_of g)), w)) q ∙ ap (λ x. (done (Err (failure_of f)), x)) (sym c.1)
refused (Err fault.Memory) w w' raises after next f c e k =
    let q : ◌≡◌ {A = Failure} (Stops stop.Memory) f = cc in
    absurd (subst HadMemoryIn (sym q) k)

-- a change that was made
pub changed : {T : Type 0} (r : Result T WorldFault) (v : T) (w w' : World) (raises : Option ErrorCode) (after : World) (next : World → Progress × World) (p : Progress × World) →
    Changes r w w' raises after → as_outcome r ≡ Ok v → next w' ≡ p → after_raise w raises (next after) ≡ p
changed (Ok u) v w w' raises after next p c e q = ap (λ x. after_raise w x (next after)) c.0 ∙ ap next (sym c.1) ∙ q
changed (Err (fault.Raise code)) v w w' raises after next p c e q = absurd cc
changed (Err fault.Memory) v w w' raises after next p c e q = absurd cc

-- a test that is refused, with memory enough
pub test_refused : {T : Type 0} (r : Result T WorldFault) (w : World) (raises : Option ErrorCode) (next : Progress × World) (f : Failure) →
    Tests r raises → as_outcome r ≡ Err f → HadMemoryIn f → after_raise w raises next ≡ (done (Err (failure_of f)), w)
test_refused (Ok v) w raises next f t e k = absurd cc
test_refused (Err (fault.Raise code)) w raises next f t e k =
    let q : ◌≡◌ {A = Failure} (Fails code) f = cc in
    ap (λ x. after_raise w x next) t ∙ ap (λ g. (done (Err (failure_of g)), w)) q
test_refused (Err fault.Memory) w raises next f t e k =
    let q : ◌≡◌ {A = Failure} (Stops stop.Memory) f = cc in
    absurd (subst HadMemoryIn (sym q) k)

-- a test that holds
pub test_passed : {T : Type 0} (r : Result T WorldFault) (v : T) (raises : Option ErrorCode) → Tests r raises → as_outcome r ≡ Ok v → raises ≡ None
test_passed (Ok u) v raises t e = t.0
test_passed (Err (fault.Raise code)) v raises t e = absurd cc
test_passed (Err fault.Memory) v raises t e = absurd cc

-- what a call gives
pub given : {T : Type 0} (r : Result T WorldFault) (v : T) (P : T → Type 0) → IfOk r P → as_outcome r ≡ Ok v → P v
given (Ok u) v P h e = let q : u ≡ v = cc in subst P q h
given (Err (fault.Raise code)) v P h e = absurd cc
given (Err fault.Memory) v P h e = absurd cc

-- a call that was made
pub made : {T : Type 0} (r : Result T WorldFault) (v : T) (w w' : World) (raises : Option ErrorCode) (after : World) → Changes r w w' raises after → as_outcome r ≡ Ok v → w' ≡ after
made (Ok u) v w w' raises after c e = c.1
made (Err (fault.Raise code)) v w w' raises after c e = absurd cc
made (Err fault.Memory) v w w' raises after c e = absurd cc
