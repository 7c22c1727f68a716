-- What setting a property with the rights of a programmer comes to.
use Rattle.std.proofs.Common.{◌≡◌, ℕ, ℤ, List, refl, Option, Some, None, Bool, true, false, if◌then◌else◌, Result, Ok, Err, IfErr, sym, ◌∙◌, ap}
use Rattle.std.specs.Option.{option_or}
use Rattle.moo_value.specs.declared.error_code.ErrorCode.{ErrorCode}
use Rattle.moo_value.specs.declared.error_code.ErrorCode.TheVariants.{Permission}
use Rattle.moo_world_table.specs.World.{World}
use Rattle.moo_value.specs.Compare.{folded}
use Rattle.moo_value.specs.Tree.{Tree, object, string}
use Rattle.moo_world.specs.ByRight.{IsDropped, set_by_raises}
use Rattle.moo_world.specs.Calls.{Changes, TakesNoMemory, number_of}
use Rattle.moo_world.specs.EditCalls.{set_raises, world_set}
use Rattle.moo_world.specs.Rights.{may_write_property}
use Rattle.moo_world.specs.declared.fault.WorldFault.{WorldFault}
use Rattle.moo_world.specs.declared.fault.WorldFault.TheVariants as fault
use Rattle.moo_eval_frame.specs.declared.outcome.Failure as code_failure
use Rattle.moo_eval_frame.specs.Outcome.{answers, fails}
use Rattle.moo_eval_frame.specs.Seen.{failure_of, seen_by, HadMemoryIn}
use Rattle.moo_eval_access.specs.Calls.{unless_raised, write_property, write_result, IsSetAlike}
use Rattle.moo_eval_access.specs.Fault.{failed}

-- a missing right is raised last
abbrev pub raises_with : Option ErrorCode → Bool → Option ErrorCode
raises_with first may = option_or first (if may then None else Some Permission)

abbrev pub world_with : Option ErrorCode → Bool → World → Result World ErrorCode
world_with first may after = unless_raised first (if may then Ok after else Err Permission)

pub set_to : (first : Option ErrorCode) (may : Bool) (after new : World) → raises_with first may ≡ None → new ≡ after → answers (world_with first may after) ≡ Ok new
set_to (Some code) may after new free is = absurd (cc)
set_to None true after new free is = ap (λ w. Ok w) (sym is)
set_to None false after new free is = absurd (cc)

not_set : (first : Option ErrorCode) (may : Bool) (after : World) (code : ErrorCode) → raises_with first may ≡ Some code → answers (world_with first may after) ≡ Err (fails code)
not_set (Some own) may after code raised = let same : own ≡ code = cc in ap (λ c. Err (fails c)) same
not_set None true after code raised = absurd (cc)
not_set None false after code raised = let same : Permission ≡ code = cc in ap (λ c. Err (fails c)) same

pub refused : (reason : WorldFault) (failure : code_failure.Failure) (first : Option ErrorCode) (may : Bool) (old new after : World) → Changes {T = Unit {0}} (Err reason) old new (raises_with first may) after →
    TakesNoMemory {T = Unit {0}} (Err reason) → failure ≡ failed reason → answers (world_with first may after) ≡ Err (failure_of failure)
refused (fault.Raise code) failure first may old new after raised takes is = not_set first may after code raised.0 ∙ ap (λ f. Err (failure_of f)) (sym is)
refused fault.Memory failure first may old new after raised takes is = absurd takes

allowed : (first : Option ErrorCode) (may : Bool) (after : World) → raises_with first may ≡ None → world_with first may after ≡ Ok after
allowed (Some code) may after free = absurd (cc)
allowed None true after free = refl
allowed None false after free = absurd (cc)

-- what raises nothing is set
set_free : (w : World) (p o : ℤ) (name : List ℕ) (v : Tree) → set_by_raises w p o name v ≡ None → write_property w p (object o) (string name) v ≡ Ok (world_set w (number_of w.objects o) (folded name) v)
set_free w p o name v free = allowed (set_raises w (number_of w.objects o) (folded name) v) (may_write_property w p o name) (world_set w (number_of w.objects o) (folded name) v) free

-- a property whose value was dropped is set as before
pub dropped_alike : (old new : World) (p o : ℤ) (name : List ℕ) → IsDropped old new p o name → IsSetAlike old new p (object o) (string name)
dropped_alike old new p o name d = record {
  sets = λ v. set_free new p o name v (d.after v) ∙ ap (λ w. Ok w) (d.again v) ∙ sym (set_free old p o name v (d.before v));
  refused = λ v code e. let free = set_free old p o name v (d.before v) in absurd (cc);
}

pub unchanged_alike : (old new : World) (p : ℤ) (base name : Tree) → new ≡ old → IsSetAlike old new p base name
unchanged_alike old new p base name e = rw e (record { sets = λ v. refl; refused = λ v code e. refl })

module _ {old mid : World} {p : ℤ} {base name : Tree} (alike : IsSetAlike old mid p base name) where
  -- after its value was dropped, a property is set to what was made
  pub set_after_drop : {made : Result Tree ErrorCode} (new : World) (v : Tree) (r : Result (Unit {0}) code_failure.Failure) → made ≡ Ok v → answers (write_property mid p base name v) ≡ seen_by (λ _. new) r → answers (write_result old p base name made) ≡ seen_by (λ _. new) r
  set_after_drop new v r is e = rw is (ap answers (sym (alike.sets v)) ∙ e)

  -- what is refused then was not dropped
  pub kept_after_drop : (new : World) (v : Tree) (r : Result (Unit {0}) code_failure.Failure) → answers (write_property mid p base name v) ≡ seen_by (λ _. new) r → IfErr r (λ failure. new ≡ mid) → IfErr r (λ failure. HadMemoryIn failure → new ≡ old)
  kept_after_drop new v (Ok done) e kept = tt
  kept_after_drop new v (Err failure) e kept = λ k. kept ∙ over (write_property old p base name v) refl
    where
      over : (x : Result World ErrorCode) → write_property old p base name v ≡ x → mid ≡ old
      over (Ok w) is = let found : answers (Ok w) ≡ Err (failure_of failure) = ap answers (sym is) ∙ ap answers (sym (alike.sets v)) ∙ e in absurd (cc)
      over (Err code) is = alike.refused v code is
