-- A list with a part of it replaced by another list.
use Rattle.std.specs.Prelude.{ℕ, List, ◌++◌, take, drop}

-- the elements before one place, then others, then the elements from another place on
abbrev pub spliced : {X : Type 0} → List X → ℕ → ℕ → List X → List X
spliced xs low high ys = take low xs ++ ys ++ drop high xs
