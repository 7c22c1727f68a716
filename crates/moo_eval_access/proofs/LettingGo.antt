-- A variable that is let go of before it is set.
use Rattle.std.proofs.Common.{◌≡◌, ℕ, Bool, true, false, cond, List, Option, Some, None, Result, Ok, Err, refl, sym, ap, ◌∙◌}
use Rattle.std.specs.Str.{bytes_eq}
use Rattle.std.specs.Result.{result_err}
use Rattle.moo_value.specs.declared.error_code.ErrorCode.{ErrorCode}
use Rattle.moo_value.specs.Tree.{Tree}
use Rattle.moo_value.specs.Compare.{folded}
use Rattle.moo_eval_slot.specs.Bindings.{bind, with_variable}
use Rattle.moo_eval_frame.specs.Outcome.{Failure, fails, answers}
use Rattle.moo_eval_access.specs.LetGo.{IsLetGo, kept, let_go}

one_test : (a : Bool) (x y z : Option Tree) → cond a x (cond a y z) ≡ cond a x z
one_test true x y z = refl
one_test false x y z = refl

-- the later of two values of a variable is left
set_twice : (vars : List ℕ → Option Tree) (name : List ℕ) (v w : Tree) → with_variable (with_variable vars (bind name v)) (bind name w) ≡ with_variable vars (bind name w)
set_twice vars name v w = λ j n. one_test (bytes_eq (folded name) n) (Some w) (Some v) (vars n) j

-- A variable that was let go of is set as if it had not been.
pub set_after : {whole : Result Tree ErrorCode} {before after last : List ℕ → Option Tree} (name : List ℕ) (w : Tree) → IsLetGo before name whole after → last ≡ with_variable after (bind name w) → last ≡ with_variable before (bind name w)
set_after name w (kept e) h = h ∙ ap (λ vars. with_variable vars (bind name w)) e
set_after {before = before} name w (let_go u v o e) h = h ∙ ap (λ vars. with_variable vars (bind name w)) e ∙ set_twice before name v w

-- What can't be put is not let go of.
pub not_let_go : {before after : List ℕ → Option Tree} (name : List ℕ) (code : ErrorCode) {whole : Result Tree ErrorCode} → IsLetGo before name whole after → whole ≡ Err code → after ≡ before
not_let_go name code (kept e) h = e
not_let_go name code (let_go w v o e) h = let q = sym o ∙ h in absurd cc

-- if there is no error there is a value
pub some_value : (r : Result Tree ErrorCode) → result_err r ≡ None → (w : Tree) × (r ≡ Ok w)
some_value (Ok w) h = (w, refl)
some_value (Err code) h = absurd cc

-- what answers with a value is that value
pub answered : {w : Tree} (r : Result Tree ErrorCode) → answers r ≡ Ok w → r ≡ Ok w
answered {w = w} (Ok v) e = let q : ◌≡◌ {A = Result Tree Failure} (Ok v) (Ok w) = e in let same : v ≡ w = cc in ap (λ u. Ok u) same
answered {w = w} (Err code) e = let q : ◌≡◌ {A = Result Tree Failure} (Err (fails code)) (Ok w) = e in absurd cc
