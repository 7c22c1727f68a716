-- Definitions that only private clauses cite. The meaning of values does not depend on them.
use Rattle.std.specs.Prelude.{◌≡◌, ℕ, List}
use Rattle.moo_value.specs.declared.compare.Letters.{Letters}
use Rattle.moo_value.specs.declared.compare.Letters.TheVariants as letters
use Rattle.moo_value.specs.Compare.{folded, fold_letters}
use Rattle.moo_value.specs.Size.{list_weight, list_depth, IsWithinLimits}
use Rattle.moo_value.specs.Tree.{Tree, IsValue, list_of}

-- a value as a comparison sees it
abbrev pub as_compared : Letters → Tree → Tree
as_compared letters.Exact t = t
as_compared letters.Folded t = fold_letters t

abbrev pub text_as_compared : Letters → List ℕ → List ℕ
text_as_compared letters.Exact s = s
text_as_compared letters.Folded s = folded s

-- the further fields of a list with these elements: its weight and its depth; and that it is a value within the limits
pub record IsMeasuredList (weight depth : ℕ) (ts : List Tree) : Type 0 where
  pub weight_is : weight ≡ list_weight ts
  pub depth_is : depth ≡ list_depth ts
  pub is_value : IsValue (list_of ts)
  pub limits : IsWithinLimits (list_of ts)
