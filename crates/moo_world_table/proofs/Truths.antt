-- Which values count as true.
use Rattle.std.proofs.Common.{◌≡◌, Bool, true, false, IsTrue, ◌↔◌, refl, sym}
use Rattle.moo_value.specs.Tree.{Tree}
use Rattle.moo_value.specs.Compare.{IsTruthy}
use Rattle.moo_builtin_operator.specs.Truth.{is_true}
use Rattle.moo_builtin_operator.proofs.Lawful.{truthy}

same_truth : (a b : Bool) → (IsTrue a → IsTrue b) → (IsTrue b → IsTrue a) → a ≡ b
same_truth true b h k = sym (h refl)
same_truth false true h k = k refl
same_truth false false h k = refl

-- what decides the same is the same
pub tested : (t : Tree) (r : Bool) → (IsTrue r ↔ IsTruthy t) → r ≡ is_true t
tested t r h = let rule = truthy t in same_truth r (is_true t) (λ e. rule.1 (h.0 e)) (λ e. h.1 (rule.0 e))
