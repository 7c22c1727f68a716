-- A list of words is flat, so that its weight alone bounds it.
use Rattle.std.proofs.Common.{◌≡◌, ℕ, ◌≤◌, List, [], ◌∷◌, refl, ◌∙◌, arith}
use Rattle.std.proofs.Math.Nat.{zero-max}
use Rattle.moo_value.specs.Tree.{elements_of}
use Rattle.moo_value.specs.Size.{list_weight, weight_limit, greatest_depth}
use Rattle.moo_session_task.specs.WordList.{strings_of, FitsAList}

words_are_flat : (words : List (List ℕ)) → greatest_depth (elements_of (strings_of words)) ≡ 0
words_are_flat [] = refl
words_are_flat (word ∷ words) = zero-max (greatest_depth (elements_of (strings_of words))) ∙ words_are_flat words

pub light_words_fit : (words : List (List ℕ)) → list_weight (strings_of words) ≤ weight_limit → FitsAList words
light_words_fit words light = record { weight = light; depth = omega (arith, words_are_flat words) }
