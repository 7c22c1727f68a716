-- Containers with another value in the place of the next one.
use Rattle.std.proofs.Common.{◌≡◌, ℕ, zero, suc, ◌<◌, ℤ, List, [], ◌∷◌, length, set, get_or, Some, None, Option, Result, Ok, Err, refl, sym, ap, ◌∙◌, arith}
use Rattle.moo_value.specs.declared.error_code.ErrorCode.{ErrorCode}
use Rattle.moo_value.specs.declared.error_code.ErrorCode.TheVariants.{Quota}
use Rattle.moo_value.specs.Tree.{Tree, integer, list_of}
use Rattle.moo_value.specs.TreeCode.{trees_of-elements_of}
use Rattle.moo_value.specs.View.{tree}
use Rattle.moo_builtin_operator.specs.Answer.{limited}
use Rattle.moo_builtin_operator.specs.Places.{or_range}
use Rattle.moo_builtin_operator.specs.Assignment.{before_place, with_index_of}
use Rattle.moo_eval_access.specs.declared.target.Step as code_step
use Rattle.moo_eval_access.specs.Target.{Step, with_part, rebuilt}
use Rattle.moo_eval_access.specs.SeenTarget.{places_of, step_of, steps_of}
use Rattle.moo_eval_access.proofs.Containers.{first_step, rebuilt_append}
use Rattle.moo_eval_access.proofs.Bounded.{chosen}

set_again : {X : Type 0} (xs : List X) (k : ℕ) (x y : X) → set (set xs k x) k y ≡ set xs k y
set_again [] zero x y = refl
set_again [] (suc k) x y = refl
set_again (z ∷ zs) zero x y = refl
set_again (z ∷ zs) (suc k) x y = ap (λ us. z ∷ us) (set_again zs k x y)

as_long : {X : Type 0} (xs : List X) (k : ℕ) (x : X) → length (set xs k x) ≡ length xs
as_long [] zero x = refl
as_long [] (suc k) x = refl
as_long (z ∷ zs) zero x = refl
as_long (z ∷ zs) (suc k) x = ap suc (as_long zs k x)

in_place : (ts : List Tree) (i : ℤ) (v : Tree) → with_index_of (list_of ts) (integer i) v ≡ or_range (before_place i (length ts)) (λ k. limited (list_of (set ts k v)))
in_place ts i v = ap (λ us. or_range (before_place i (length us)) (λ k. limited (list_of (set us k v)))) (trees_of-elements_of ts)

held_at : (o : Option ℕ) (ts : List Tree) (i : ℤ) (h w v : Tree) → before_place i (length ts) ≡ o → or_range o (λ k. limited (list_of (set ts k h))) ≡ Ok w → with_index_of w (integer i) v ≡ or_range o (λ k. limited (list_of (set ts k v)))
held_at None ts i h w v e is = absurd cc
held_at (Some k) ts i h w v e is =
    ap (λ u. with_index_of u (integer i) v) (sym (chosen _ (list_of (set ts k h)) w Quota is))
    ∙ in_place (set ts k h) i v
    ∙ ap (λ n. or_range (before_place i n) (λ j. limited (list_of (set (set ts k h) j v)))) (as_long ts k h)
    ∙ ap (λ o. or_range o (λ j. limited (list_of (set (set ts k h) j v)))) e
    ∙ ap (λ us. limited (list_of us)) (set_again ts k h v)

-- a list that has taken a value takes another there as before
pub takes_as_before : (ts : List Tree) (i h w v : Tree) → with_index_of (list_of ts) i h ≡ Ok w → with_index_of w i v ≡ with_index_of (list_of ts) i v
takes_as_before ts (integer i) h w v is = held_at (before_place i (length ts)) ts i h w v refl (sym (in_place ts i h) ∙ is) ∙ sym (in_place ts i v)
takes_as_before ts _ h w v is = absurd cc

one_alike : (x y : Step) → ((v : Tree) → with_part x.container x.places v ≡ with_part y.container y.places v) → (r : Result Tree ErrorCode) → rebuilt (x ∷ []) r ≡ rebuilt (y ∷ []) r
one_alike x y h (Ok v) = h v
one_alike x y h (Err code) = refl

-- a step in place of one that takes the same values
pub rebuilt_alike : (steps : List code_step.Step) (k : ℕ) (old new : code_step.Step) → k < length steps → old ≡ get_or steps k old
    → ((v : Tree) → with_part (tree new.container) (places_of new.places) v ≡ with_part (tree old.container) (places_of old.places) v)
    → (r : Result Tree ErrorCode) → rebuilt (steps_of (set steps k new)) r ≡ rebuilt (steps_of steps) r
rebuilt_alike [] k old new less at h r = absurd (omega arith)
rebuilt_alike (s ∷ ss) zero old new less at h r =
    ap (λ u. rebuilt u r) (first_step ss new)
    ∙ rebuilt_append (steps_of ss) (step_of new ∷ []) r
    ∙ one_alike (step_of new) (step_of old) h (rebuilt (steps_of ss) r)
    ∙ ap (λ u. rebuilt (step_of u ∷ []) (rebuilt (steps_of ss) r)) at
    ∙ sym (rebuilt_append (steps_of ss) (step_of s ∷ []) r)
    ∙ ap (λ u. rebuilt u r) (sym (first_step ss s))
rebuilt_alike (s ∷ ss) (suc k) old new less at h r =
    ap (λ u. rebuilt u r) (first_step (set ss k new) s)
    ∙ rebuilt_append (steps_of (set ss k new)) (step_of s ∷ []) r
    ∙ ap (rebuilt (step_of s ∷ [])) (rebuilt_alike ss k old new (omega arith) at h r)
    ∙ sym (rebuilt_append (steps_of ss) (step_of s ∷ []) r)
    ∙ ap (λ u. rebuilt u r) (sym (first_step ss s))
