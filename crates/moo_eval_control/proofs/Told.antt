-- The value of a handler's variable.
use Rattle.std.proofs.Common.{◌≡◌, ℕ, List, [], ◌∷◌, Result, Ok, Err, ap}
use Rattle.moo_value.specs.declared.error_code.ErrorCode.{ErrorCode}
use Rattle.moo_value.specs.Tree.{Tree}
use Rattle.moo_eval_frame.specs.Outcome.{Failure, fails, answers}
use Rattle.moo_eval_slot.specs.Bindings.{bind}
use Rattle.moo_eval_control.specs.Handling.{alone, bound_to}

-- a value alone
pub alone_ok : (r : Result Tree ErrorCode) (t : Tree) → answers r ≡ Ok t → alone r ≡ Ok (t ∷ [])
alone_ok (Ok u) t h = let q : u ≡ t = cc in ap (λ x. Ok (x ∷ [])) q
alone_ok (Err code) t h = absurd cc

-- what the variable of a handler is set to
pub bound_ok : (name : List ℕ) (r : Result Tree ErrorCode) (t : Tree) → answers r ≡ Ok t → bound_to name r ≡ Ok (bind name t ∷ [])
bound_ok name (Ok u) t h = let q : u ≡ t = cc in ap (λ x. Ok (bind name x ∷ [])) q
bound_ok name (Err code) t h = absurd cc

pub bound_fails : (name : List ℕ) (r : Result Tree ErrorCode) (f : Failure) → answers r ≡ Err f → answers (bound_to name r) ≡ Err f
bound_fails name (Ok u) f h = absurd cc
bound_fails name (Err code) f h = let q : fails code ≡ f = cc in ap Err q
