-- The state of the lexer within a text, for private clauses only.
use Rattle.std.specs.Prelude.{ℕ, List, [], ◌++◌, Option, Some, None}
use Rattle.moo_syntax_token.specs.declared.token.Spot.{Spot}
use Rattle.moo_syntax_token.specs.Lexing.{Ending, Place, outside, commented, Lexes, IsReading}

-- the place, by the line of the comment that is open
abbrev pub place : Option ℕ → Place
place None = outside
place (Some n) = commented n

-- `found` are the tokens of the text before this place of it
pub record GoesOn (lines : List (List ℕ)) (p : Place) (n : ℕ) (bs : List ℕ) (below : List (List ℕ)) (found : List Spot) : Type 0 where
  pub reads : (e : Ending) (ts : List Spot) → Lexes e p n bs below ts → Lexes e outside 0 [] lines (found ++ ts)

-- in every text, from one place of line n to another
pub record Passes (n : ℕ) (p : Place) (bs : List ℕ) (found : List Spot) (q : Place) (cs : List ℕ) (more : List Spot) : Type 0 where
  pub passes : (lines : List (List ℕ)) (below : List (List ℕ)) → GoesOn lines p n bs below found → GoesOn lines q n cs below more

-- in every text that comes to this place of line n, these are all spots of the text
pub record Stops (n : ℕ) (p : Place) (bs : List ℕ) (found : List Spot) (spots : List Spot) : Type 0 where
  pub stops : (lines : List (List ℕ)) (below : List (List ℕ)) → GoesOn lines p n bs below found → IsReading lines spots
