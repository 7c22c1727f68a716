-- The records of a database, and the record of a number.
use Rattle.std.specs.Prelude.{ℕ, ℤ, List, [], ◌∷◌, ◌++◌, Option, Some, None, map, slice_index_or, option_map}
use Rattle.moo_value.specs.Compare.{folded}
use Rattle.moo_syntax_ast.specs.Tree.{Block}
use Rattle.moo_dbtext_object.specs.Objects as recorded
use Rattle.moo_dbtext_restore.specs.declared.link.Link.{Link}

-- The objects by number, none for a recycled one, the programs by object and verb, none for a verb without one, and the players.
pub record Records : Type 0 where
  pub objects : List (Option recorded.Object)
  pub programs : List (List (Option Block))
  pub players : List ℤ

-- the record of an object
abbrev pub record_at : Records → ℕ → Option recorded.Object
record_at r x = slice_index_or r.objects x None

-- the program of verb v of object x
abbrev pub program_at : Records → ℕ → ℕ → Option Block
program_at r x v = slice_index_or (slice_index_or r.programs x []) v None

abbrev pub parent_link : recorded.Object → Link
parent_link o = record { above = o.body.parent; first = o.body.child; next = o.body.sibling }

abbrev pub place_link : recorded.Object → Link
place_link o = record { above = o.body.location; first = o.body.contents; next = o.body.next }

-- the links of the objects in the trees of parents and of locations
abbrev pub parent_links_of : List (Option recorded.Object) → List (Option Link)
parent_links_of objects = map (option_map parent_link) objects

abbrev pub place_links_of : List (Option recorded.Object) → List (Option Link)
place_links_of objects = map (option_map place_link) objects

abbrev pub parent_links : Records → List (Option Link)
parent_links r = parent_links_of r.objects

abbrev pub place_links : Records → List (Option Link)
place_links r = place_links_of r.objects

abbrev pub names_in : Option recorded.Object → List (List ℕ)
names_in None = []
names_in (Some o) = o.body.names

abbrev pub cells_in : Option recorded.Object → List recorded.Cell
cells_in None = []
cells_in (Some o) = o.body.cells

-- the names of the properties that an object defines, letters folded
abbrev pub names_at : Records → ℕ → List (List ℕ)
names_at r x = map folded (names_in (record_at r x))

-- the names that these objects define
abbrev pub names_along : Records → List ℕ → List (List ℕ)
names_along r [] = []
names_along r (x ∷ way) = names_at r x ++ names_along r way
