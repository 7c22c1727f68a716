-- Proofs of the laws on places.
use Rattle.std.proofs.Common.{◌≡◌, ℕ, zero, suc, ◌≤◌, pos, List, length, get_or, false, cond, ltb, Option, Some, None, refl, sym, ap, ◌∙◌, arith}
use Rattle.std.specs.Prelude.{◌≢◌, position}
use Rattle.std.specs.List.{All, position_or_len}
use Rattle.std.proofs.lemmas.Bool.Decides.{nat_tests, not_from_Decides}
use Rattle.std.proofs.lemmas.List.Sums.{fails_before_first}
use Rattle.std.proofs.lemmas.List.Quantifiers.{position-Some}
use Rattle.moo_value.specs.Tree.{Tree, integer, elements_of, trees_of}
use Rattle.moo_value.specs.TreeCode.{trees_of-elements_of}
use Rattle.moo_value.specs.Compare.{fold_letters}
use Rattle.moo_builtin_operator.specs.Truth.{equal}
use Rattle.moo_builtin_operator.specs.Comparison.{place_value}
use Rattle.moo_builtin_operator.specs.Laws.{IsFirstPlace, FindsFirstPlace}
use Rattle.moo_builtin_operator.proofs.Equality.{equal_decides}

unequal : (t u : Tree) → equal t u ≡ false → fold_letters t ≢ fold_letters u
unequal t u e = not_from_Decides (equal t u) (equal_decides t u) e

long_enough : (n k : ℕ) → cond (ltb n k) (Some n) None ≡ None → k ≤ n
long_enough n k e = grind (arith, nat_tests)

nowhere : (t : Tree) (ts : List Tree) → position (equal t) ts ≡ None → All (λ u. fold_letters t ≢ fold_letters u) ts
nowhere t ts e k d h =
    let past : length ts ≤ position_or_len (equal t) ts = long_enough (position_or_len (equal t) ts) (length ts) e in
    unequal t (get_or ts k d) (fails_before_first (equal t) ts k d (omega arith))

first_at : (t : Tree) (ts : List Tree) (k : ℕ) → position (equal t) ts ≡ Some k → IsFirstPlace t ts (suc k)
first_at t ts k e = (
  (position-Some (equal t) ts k t e).0,
  λ d. (equal_decides t (get_or ts k d)).0 (position-Some (equal t) ts k d e).1,
  λ j d low below. unequal t (get_or ts j d) ((position-Some (equal t) ts k d e).2 j below),
)

placed : (t : Tree) (ts : List Tree) (n : ℕ) (o : Option ℕ) → position (equal t) ts ≡ o → place_value o ≡ integer (pos n) → IsFirstPlace t ts n
placed t ts zero None e h = nowhere t ts e
placed t ts (suc n) None e h = cc
placed t ts zero (Some k) e h = cc
placed t ts (suc n) (Some k) e h = let same : k ≡ n = cc in first_at t ts n (e ∙ ap Some same)

pub first_place : FindsFirstPlace
first_place t ts n p =
    let place : place_value (position (equal t) (trees_of (elements_of ts))) ≡ integer (pos n) = cc in
    placed t ts n (position (equal t) ts) refl (ap (λ us. place_value (position (equal t) us)) (sym (trees_of-elements_of ts)) ∙ place)
