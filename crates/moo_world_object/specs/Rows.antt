-- A row of cells with one inserted or removed before its last ones, and one with another name in a cell.
use Rattle.std.specs.Prelude.{ℕ, ◌-◌, List, [], ◌∷◌, length, if◌then◌else◌}
use Rattle.std.specs.List.{insert, remove}
use Rattle.moo_world_object.specs.Cells.{Cell, Key, is_key, renamed}

-- the cells with one inserted before the last k of them
abbrev pub put_before : ℕ → Cell → List Cell → List Cell
put_before k c cells = insert cells (length cells - k) c

-- the cells without the one before the last k of them
abbrev pub taken_before : ℕ → List Cell → List Cell
taken_before k cells = remove cells (length cells - k - 1)

-- the cells with another name, in lower case, in the first one of a definition
abbrev pub with_new_name : Key → List ℕ → List Cell → List Cell
with_new_name k name [] = []
with_new_name k name (c ∷ cells) = if is_key k c then renamed name c ∷ cells else c ∷ with_new_name k name cells
