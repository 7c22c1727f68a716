-- `pass` with arguments that make no list.
use Rattle.std.proofs.Common.{◌≡◌, ℕ, length, ℤ, List, [], ◌∷◌, Bool, true, Option, None, Some, Result, Ok, Err, refl, ap, ◌∙◌, ◌+◌, if◌then◌else◌, not, is_some, ◌&&◌}
use Rattle.std.proofs.Math.Dec.{leb-zero}
use Rattle.moo_value.specs.declared.error_code.ErrorCode.{ErrorCode}
use Rattle.moo_value.specs.declared.error_code.ErrorCode.TheVariants.{Arguments, TypeMismatch, InvalidArgument}
use Rattle.moo_value.specs.Tree.{Tree}
use Rattle.moo_builtin_operator.specs.Places.{made_list}
use Rattle.moo_syntax_function.specs.declared.function.Function.TheVariants as function
use Rattle.moo_syntax_function.specs.Table.{row}
use Rattle.moo_syntax_function.specs.Check.{is_count, fits, kind_at, names_valid, holds_from, all_fit, all_valid, refusal}
use Rattle.moo_world_table.specs.World.{World}
use Rattle.moo_eval_frame.specs.Outcome.{Failure, answers}
use Rattle.moo_eval_access.specs.Entering.{Entered, after_list}
use Rattle.moo_eval_semantics.specs.declared.stage.Stage.TheVariants.{Passed}
use Rattle.moo_eval_semantics.specs.Progressing.{Calling, Progress, done}
use Rattle.moo_eval_semantics.specs.Passing.{run_by, passing}
use Rattle.moo_eval_semantics.specs.VerbCalls.{first_progress}

abbrev failing : Failure → Result Tree Failure
failing failure = Err failure

same_failure : {a b : Failure} → failing a ≡ failing b → a ≡ b
same_failure h = cc

-- a call that has no list of arguments
listless : (m : Result Tree ErrorCode) (r : Result Entered ErrorCode) (failure : Failure) → answers m ≡ Err failure → answers (after_list m r) ≡ Err failure
listless (Ok v) r failure h = absurd cc
listless (Err code) r failure h = ap (λ (x : Failure). Err x) (same_failure h)

no_list : (k : Calling) (w : World) (vs : List Tree) (failure : Failure) → answers (made_list vs) ≡ Err failure → passing k w vs ≡ done (Err failure)
unfolding passing
no_list k w vs failure h = ap (run_by Passed) (listless (made_list vs) _ failure h)

-- it ends at once
pub ends : (k : Calling) (w : World) (vs : List Tree) (failure : Failure) → answers (made_list vs) ≡ Err failure → first_progress function.Pass k w vs ≡ (done (Err failure), w)
ends k w vs failure h = ap {B = Progress × World} (λ x. (x, w)) (no_list k w vs failure h)

any_fits : (place : ℕ) (vs : List Tree) → holds_from (λ i t. fits (kind_at (row function.Pass) i) t) place vs ≡ true
any_fits place [] = refl
any_fits place (t ∷ vs) = any_fits (place + 1) vs

any_valid : (valid : ℤ → Bool) (place : ℕ) (vs : List Tree) → holds_from (λ i t. names_valid valid (kind_at (row function.Pass) i) t) place vs ≡ true
any_valid valid place [] = refl
any_valid valid place (t ∷ vs) = any_valid valid (place + 1) vs

any_count : (vs : List Tree) → is_count (row function.Pass) (length vs) ≡ true
any_count vs = ap (λ b. b && true) (leb-zero (length vs))

abbrev judged : (count fit valid : Bool) → Option ErrorCode
judged count fit valid =
    let first = if not count then Some Arguments else if not fit then Some TypeMismatch else None in
    if is_some first then first else if not valid then Some InvalidArgument else None

-- it takes any arguments
pub takes_any : (valid : ℤ → Bool) (vs : List Tree) → refusal valid (row function.Pass) vs ≡ None
takes_any valid vs =
    ap (λ b. judged b (all_fit (row function.Pass) vs) (all_valid valid (row function.Pass) vs)) (any_count vs)
    ∙ ap (λ b. judged true b (all_valid valid (row function.Pass) vs)) (any_fits 0 vs)
    ∙ ap (λ b. judged true true b) (any_valid valid 0 vs)
