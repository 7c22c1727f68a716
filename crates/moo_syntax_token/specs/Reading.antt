-- Properties of the spots of a text.
use Rattle.std.specs.Prelude.{ℕ, List, [], ◌∷◌, ◌++◌, ◌≡◌, ◌≢◌, ◌≤◌, All, length}
use Rattle.moo_syntax_token.specs.declared.token.Token.TheVariants.{Bad}
use Rattle.moo_syntax_token.specs.declared.token.Spot.{Spot}

-- a token, and not `Bad`
abbrev pub IsSound : Spot → Type 0
IsSound s = s.token ≢ Bad

-- tokens, and `Bad` after them
pub record EndsInBad (spots : List Spot) : Type 0 where
  pub before : List Spot
  pub line : ℕ
  pub is : spots ≡ before ++ record { token = Bad; line = line } ∷ []
  pub sound : All IsSound before

-- a line of the text, counted from 1
abbrev pub IsOnLine : List (List ℕ) → Spot → Type 0
IsOnLine lines s = (1 ≤ s.line) × (s.line ≤ length lines)
