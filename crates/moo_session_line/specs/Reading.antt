-- Pieces of a stream, read one after another.
use Rattle.std.specs.Prelude.{◌≡◌, ℕ, List, [], ◌∷◌, ◌++◌}
use Rattle.std.specs.List.{concat}
use Rattle.moo_session_line.specs.Rest.{Rest}
use Rattle.moo_session_line.specs.Lines.{lines, rest}

-- What is held is the rest of some stream.
pub record HasStream (held : Rest) : Type 0 where
  pub sent : List ℕ
  pub holds : held ≡ rest sent

-- A reader that holds the rest of what was sent reads a piece: these are the lines of the whole after those of what
-- was sent, and it then holds the rest of the whole.
pub record Reads (before : Rest) (piece : List ℕ) (answer : List (List ℕ)) (after : Rest) : Type 0 where
  pub sent : List ℕ
  pub holds : before ≡ rest sent
  pub lines : lines (sent ++ piece) ≡ lines sent ++ answer
  pub rest : rest (sent ++ piece) ≡ after

-- pieces, one after another
pub data ReadsAll : Rest → List (List ℕ) → List (List ℕ) → Rest → Type 0 where
  no_piece_more : {r : Rest} → ReadsAll r [] [] r
  one_piece_more : {r s t : Rest} {piece : List ℕ} {pieces answer more : List (List ℕ)} → Reads r piece answer s → ReadsAll s pieces more t → ReadsAll r (piece ∷ pieces) (answer ++ more) t

-- However a stream is cut, the lines of its pieces are its lines, and what is held at the end is its rest.
abbrev pub LinesUnderAnyCutting : Type 0
LinesUnderAnyCutting = (pieces answer : List (List ℕ)) (after : Rest) → ReadsAll (rest []) pieces answer after → (answer ≡ lines (concat pieces)) × (after ≡ rest (concat pieces))

-- the state and a piece determine the lines that are returned, and the new state
abbrev pub OneReading : Type 0
OneReading = (before after other : Rest) (piece : List ℕ) (answer instead : List (List ℕ)) → Reads before piece answer after → Reads before piece instead other → (answer ≡ instead) × (after ≡ other)
