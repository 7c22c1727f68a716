-- What comes of making a list is that list, or the quota.
use Rattle.std.proofs.Common.{◌≡◌, ℕ, suc, ◌<◌, List, ◌∷◌, ◌++◌, take, drop, refl, sym, ap, ◌∙◌, arith}
use Rattle.std.specs.Prelude.{Result, Ok, Err, IfOk, OnOk, IfErr, Bool, true, false, insert, remove, Option, None, Some, IfSome, position}
use Rattle.std.proofs.lemmas.Bool.Decides.{nat_tests}
use Rattle.std.proofs.lemmas.List.{map-append, take-map, drop-map}
use Rattle.moo_value.specs.declared.list.ListLimit.{ListLimit}
use Rattle.moo_value.specs.declared.list.ListLimit.TheVariants.{TooLarge, Memory as ListMemory}
use Rattle.moo_value.specs.declared.value.Value.{Value}
use Rattle.moo_value.specs.Faults.{IsRefusedList}
use Rattle.moo_value.specs.Size.{IsWithinLimits, weight, depth, weight_limit, depth_limit}
use Rattle.moo_value.specs.Tree.{Tree, list_of}
use Rattle.moo_value.specs.View.{tree, trees}
use Rattle.moo_builtin_operator.proofs.Lists.{position-map}
use Rattle.moo_builtin_operator.specs.Answer.{limited}
use Rattle.moo_builtin_operator.specs.declared.fault.OperationFault.{OperationFault}
use Rattle.moo_builtin_value.proofs.Making.{limited_made}
use Rattle.moo_builtin_value.specs.TextAnswers.{Gives}
use Rattle.moo_builtin_value.specs.Answers.{Follows}
use Rattle.std.specs.Prelude.{nat_le, ◌&&◌}

abbrev is_within : Tree → Bool
is_within t = nat_le (weight t) weight_limit && nat_le (depth t) depth_limit

within : (t : Tree) → IsWithinLimits t → is_within t ≡ true
within t limits = grind (arith, nat_tests, limits.weight, limits.depth)

not_true : (b : Bool) → (b ≡ true → ⊥) → b ≡ false
not_true true h = absurd (h refl)
not_true false h = refl

both : (t : Tree) → is_within t ≡ true → IsWithinLimits t
both t e = record { weight = grind (arith, nat_tests, e); depth = grind (arith, nat_tests, e) }

beyond : (t : Tree) → (¬ IsWithinLimits t) → is_within t ≡ false
beyond t past = not_true (is_within t) (λ e. past (both t e))

pub made_gives : (made : Result (List Tree) ListLimit) (a : Result Value OperationFault) (ts : List Tree) → IfOk made (λ us. us ≡ ts) → OnOk made (IsWithinLimits (list_of ts)) → IfErr made (λ fault. IsRefusedList fault ts)
    → Follows made a → Gives a (limited (list_of ts))
made_gives (Ok us) a ts is limits err follows = rw (follows, is, within (list_of ts) limits) refl
made_gives (Err TooLarge) a ts is limits err follows = rw (follows, beyond (list_of ts) err) refl
made_gives (Err ListMemory) a ts is limits err follows = rw follows (limited_made (list_of ts) tt)

pub place_below : (found : Option ℕ) (n m : ℕ) → n < m → IfSome found (λ k. k < n) → IfSome found (λ k. k < m)
place_below None n m bound below = tt
place_below (Some k) n m bound below = omega (arith, below)

pub place_within : (found : Option ℕ) (n m : ℕ) → n ≡ m → IfSome found (λ k. k < n) → IfSome found (λ k. k < m)
place_within None n m same below = tt
place_within (Some k) n m same below = omega (arith, below, same)

-- a place among values is one among their trees
pub found_in : (test : Tree → Bool) (found : Option ℕ) (vs : List Value) (ts : List Tree) → trees vs ≡ ts → found ≡ position (λ v. test (tree v)) vs → found ≡ position test ts
found_in test found vs ts is at = at ∙ sym (position-map tree test vs) ∙ ap (position test) is
