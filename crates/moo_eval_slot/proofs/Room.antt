-- Lists with one more element, at their end or before the others, within the limits and past them.
use Rattle.std.proofs.Common.{◌≡◌, ℕ, ◌+◌, ◌≤◌, ◌<◌, max, List, [], ◌∷◌, ◌++◌, false, IsTrue, leb, arith}
use Rattle.std.proofs.lemmas.Bool.{false≢true}
use Rattle.std.proofs.lemmas.Bool.Decides.{nat_tests}
use Rattle.moo_value.specs.Tree.{Tree, list_of}
use Rattle.moo_value.specs.Size.{weight, depth, list_weight, list_depth, weight_limit, depth_limit, IsWithinLimits}
use Rattle.moo_value.proofs.Lists.{list_weight-push, list_depth-push}

within : (a b : ℕ) → (IsTrue (leb a b) → a ≤ b) × (a ≤ b → IsTrue (leb a b))
within a b = (λ h. grind (arith, nat_tests), λ h. grind (arith, nat_tests))

pub fits_push : (ts : List Tree) (t : Tree) (w d : ℕ) → w ≡ list_weight ts + weight t → d ≡ max (list_depth ts) (depth t + 1) → w ≤ weight_limit → (IsTrue (leb d depth_limit) → IsWithinLimits (list_of (ts ++ t ∷ []))) × (IsWithinLimits (list_of (ts ++ t ∷ [])) → IsTrue (leb d depth_limit))
fits_push ts t w d e f h = (
  (λ k. let l = (within d depth_limit).0 k in record { weight = omega (arith, e, h, list_weight-push ts t); depth = omega (arith, f, l, list_depth-push ts t) }),
  (λ limits. let l = limits.depth in (within d depth_limit).1 (omega (arith, f, l, list_depth-push ts t))),
)

pub too_heavy_push : (ts : List Tree) (t : Tree) (w : ℕ) → w ≡ list_weight ts + weight t → weight_limit < w → (IsTrue false → IsWithinLimits (list_of (ts ++ t ∷ []))) × (IsWithinLimits (list_of (ts ++ t ∷ [])) → IsTrue false)
too_heavy_push ts t w e h = ((λ never. absurd (false≢true never)), (λ limits. let l = limits.weight in absurd (omega (arith, e, h, l, list_weight-push ts t))))

pub fits_first : (ts : List Tree) (t : Tree) (w d : ℕ) → w ≡ list_weight ts + weight t → d ≡ max (list_depth ts) (depth t + 1) → w ≤ weight_limit → (IsTrue (leb d depth_limit) → IsWithinLimits (list_of (t ∷ ts))) × (IsWithinLimits (list_of (t ∷ ts)) → IsTrue (leb d depth_limit))
fits_first ts t w d e f h = (
  (λ k. let l = (within d depth_limit).0 k in record { weight = omega (arith, e, h); depth = omega (arith, f, l) }),
  (λ limits. let l = limits.depth in (within d depth_limit).1 (omega (arith, f, l))),
)

pub too_heavy_first : (ts : List Tree) (t : Tree) (w : ℕ) → w ≡ list_weight ts + weight t → weight_limit < w → (IsTrue false → IsWithinLimits (list_of (t ∷ ts))) × (IsWithinLimits (list_of (t ∷ ts)) → IsTrue false)
too_heavy_first ts t w e h = ((λ never. absurd (false≢true never)), (λ limits. let l = limits.weight in absurd (omega (arith, e, h, l))))
