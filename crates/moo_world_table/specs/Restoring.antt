-- A world from what a database says: the cells of an object are in the order of definitions, without their names.
use Rattle.std.specs.Prelude.{◌≡◌, ℕ, ◌≤◌, ℤ, List, [], ◌∷◌, Option, true, false, length, map, take, is_some, FitsSigned}
use Rattle.std.specs.Int.{w32}
use Rattle.std.specs.List.{range_with_len, All}
use Rattle.moo_world_tree.specs.Forest.{Links}
use Rattle.moo_world_object.specs.Cells.{Cell, Key}
use Rattle.moo_world_object.specs.Objects.{Object}
use Rattle.moo_world_table.specs.World.{World, object_of, thing_of, definitions, has_clash, with_cells, most, programs_in, IsFine, IsJoined}

-- cells for these definitions, one after the other
abbrev pub rekeyed : List Key → List Cell → List Cell
rekeyed [] cells = []
rekeyed (k ∷ ks) [] = []
rekeyed (k ∷ ks) (c ∷ cells) = record { definer = k.0; name = k.1; owner = c.owner; perms = c.perms; value = c.value } ∷ rekeyed ks cells

-- an object with the cells for its definitions
abbrev pub restored_object : List (Option Object) → List Links → ℕ → Option Object
restored_object objects tree x = with_cells (object_of objects x) (rekeyed (definitions objects tree x) (thing_of objects x).cells)

abbrev pub restored : List (Option Object) → List Links → List (Option Object)
restored objects tree = map (restored_object objects tree) (range_with_len 0 (length objects))

-- the world of these objects under these trees
abbrev pub restored_world : List (Option Object) → List Links → List Links → List ℤ → World
restored_world objects parents places players = record { objects = restored objects parents; inheritance = parents; containment = places; players = players }

-- objects that have as many cells as definitions, no name twice, values in the cells of their own, and keep the limits
pub record AreComplete (objects : List (Option Object)) (tree : List Links) : Type 0 where
  pub counts : (x : ℕ) → length (thing_of objects x).cells ≡ length (definitions objects tree x)
  pub names_once : (x : ℕ) → has_clash objects tree x ≡ false
  pub own_filled : (x : ℕ) → All (λ c. is_some c.value ≡ true) (take (length (thing_of objects x).defined) (thing_of objects x).cells)
  pub fine : (x : ℕ) → IsFine (thing_of objects x)

-- what a world can be restored from
pub record AreParts (objects : List (Option Object)) (parents places : List Links) (players : List ℤ) : Type 0 where
  pub parents_joined : IsJoined objects parents
  pub places_joined : IsJoined objects places
  pub complete : AreComplete objects parents
  pub few : length objects ≤ most
  pub few_players : length players ≤ most
  pub player_numbers : All (FitsSigned w32) players
  pub few_programs : programs_in objects ≤ most
