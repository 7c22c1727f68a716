-- What is refused beforehand, and what is not.
use Rattle.std.proofs.Common.{◌≡◌, Option, Some, None, Result, Ok, Err, IfErr, refl, ap}
use Rattle.std.specs.Result.{result_err}
use Rattle.moo_value.specs.declared.error_code.ErrorCode.{ErrorCode}
use Rattle.moo_value.specs.Tree.{Tree}
use Rattle.moo_eval_frame.specs.Outcome.{Failure, fails, answers}
use Rattle.moo_eval_frame.specs.declared.outcome.Failure as code_failure
use Rattle.moo_eval_frame.specs.Seen.{HadMemoryIn, failure_of}

-- what is none of the errors there are is none
pub none_left : {X : Type 0} (o : Option X) → ((x : X) → o ≡ Some x → ⊥) → o ≡ None
none_left None h = refl
none_left (Some x) h = absurd (h x refl)

-- what is refused beforehand, and what is not
pub refused_before : (r : Result Tree ErrorCode) (code : ErrorCode) → Some code ≡ result_err r → answers r ≡ Err (fails code)
refused_before (Ok w) code h = absurd cc
refused_before (Err e) code h =
    let q : ◌≡◌ {A = Option ErrorCode} (Some code) (Some e) = h in
    let same : e ≡ code = cc in
    ap (λ x. Err (fails x)) same

unrefused : (made : Result Tree ErrorCode) {f : Failure} → result_err made ≡ None → answers made ≡ Err f → ⊥
unrefused (Ok w) {f = f} n e = let q : ◌≡◌ {A = Result Tree Failure} (Ok w) (Err f) = e in absurd cc
unrefused (Err code) n e = let q : ◌≡◌ {A = Option ErrorCode} (Some code) None = n in absurd cc

-- what isn't refused fails only if memory runs out
pub never_refused : {A : Type 0} (Q : Type 0) (r : Result A code_failure.Failure) (made : Result Tree ErrorCode) → result_err made ≡ None → IfErr r (λ f. HadMemoryIn f → answers made ≡ Err (failure_of f)) → IfErr r (λ f. HadMemoryIn f → Q)
never_refused Q (Ok x) made n h = tt
never_refused Q (Err f) made n h = λ k. absurd (unrefused made n (h k))
