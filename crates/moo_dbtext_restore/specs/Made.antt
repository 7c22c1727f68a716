-- Objects made of their records, before their cells have their definitions.
use Rattle.std.specs.Prelude.{◌≡◌, ◌≤◌, ℕ, List, Option, true, length, take, is_some}
use Rattle.std.specs.List.{All}
use Rattle.moo_world_tree.specs.Forest.{Links, IsForest}
use Rattle.moo_world_object.specs.Objects.{Object}
use Rattle.moo_world_table.specs.World.{object_of, thing_of, most, programs_in, IsFine}
use Rattle.moo_dbtext_restore.specs.Links.{IsTreeOf}
use Rattle.moo_dbtext_restore.specs.Records.{Records, record_at, parent_links, place_links}
use Rattle.moo_dbtext_restore.specs.Says.{SaysAt}

-- objects as they are recorded, with values in the cells of their own, within the limits
pub record AreMade (r : Records) (made : List (Option Object)) : Type 0 where
  pub many : length made ≡ length r.objects
  pub objects : (x : ℕ) → SaysAt r x (record_at r x) (object_of made x)
  pub own_filled : (x : ℕ) → All (λ c. is_some c.value ≡ true) (take (length (thing_of made x).defined) (thing_of made x).cells)
  pub fine : (x : ℕ) → IsFine (thing_of made x)
  pub few_programs : programs_in made ≤ most

-- forests as the records describe
pub record AreForestsOf (r : Records) (inheritance containment : List Links) : Type 0 where
  pub parent_forest : IsForest inheritance
  pub place_forest : IsForest containment
  pub parents : IsTreeOf (parent_links r) inheritance
  pub places : IsTreeOf (place_links r) containment
