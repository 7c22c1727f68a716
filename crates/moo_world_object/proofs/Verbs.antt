-- A change of one element of a list.
use Rattle.std.proofs.Common.{◌≡◌, ℕ, zero, suc, ◌<◌, List, [], ◌∷◌, refl, ap, length, get_or, set, arith}
use Rattle.moo_world_object.specs.Verbs.{changed_at}

-- a write at a place changes the element there
pub set_changed : {X : Type 0} (f : X → X) (xs : List X) (i : ℕ) (x y : X) → i < length xs → x ≡ get_or xs i x → y ≡ f x → set xs i y ≡ changed_at i f xs
set_changed f [] i x y within here is = absurd (omega (arith, within))
set_changed f (z ∷ zs) zero x y within here is = rw (is, here) refl
set_changed f (z ∷ zs) (suc i) x y within here is = ap (λ ys. z ∷ ys) (set_changed f zs i x y (omega (arith, within)) here is)
