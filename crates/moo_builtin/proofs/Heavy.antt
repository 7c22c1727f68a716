-- A list with a line that is too long for a string is past the limits.
use Rattle.std.proofs.Common.{◌≡◌, ℕ, ◌<◌, List, [], ◌∷◌, arith, map}
use Rattle.std.specs.Prelude.{Err}
use Rattle.moo_value.specs.declared.error_code.ErrorCode.TheVariants.{Quota}
use Rattle.moo_value.specs.Size.{total_weight, weight_limit, IsWithinLimits}
use Rattle.moo_value.specs.Tree.{string, list_of, elements_of}
use Rattle.moo_builtin_operator.specs.Answer.{limited}
use Rattle.moo_builtin_operator.proofs.Lawful.{limited_past}
use Rattle.moo_syntax_ast.specs.Limits.{AllFit}

fit : (lines : List (List ℕ)) → total_weight (elements_of (map (λ line. string line) lines)) < weight_limit → AllFit lines
fit [] h = tt
fit (line ∷ lines) h = (omega (arith, h), fit lines (omega (arith, h)))

pub heavy : (lines : List (List ℕ)) → (AllFit lines → ⊥) → limited (list_of (map (λ line. string line) lines)) ≡ Err Quota
heavy lines none = limited_past (list_of (map (λ line. string line) lines)) (λ (limits : IsWithinLimits (list_of (map (λ line. string line) lines))). none (fit lines (omega (arith, limits.weight))))
