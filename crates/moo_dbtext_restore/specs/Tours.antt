-- Walks over all the trees that links make.
use Rattle.std.specs.Prelude.{◌≡◌, ℕ, ◌<◌, List, [], ◌∷◌, Option, Bool, false, length, count_by, nat_eq}
use Rattle.moo_world_tree.specs.Forest.{Links, below_of}
use Rattle.moo_dbtext_restore.specs.declared.link.Link.{Link}
use Rattle.moo_dbtext_restore.specs.declared.tour.Visit.{Visit}
use Rattle.moo_dbtext_restore.specs.declared.tour.Visit.TheVariants.{Enter, Leave}
use Rattle.moo_dbtext_restore.specs.Links.{IsLineage, AreBelow}

abbrev pub enters : ℕ → Visit → Bool
enters x (Enter y) = nat_eq x y
enters x (Leave y) = false

-- how often an object is entered
abbrev pub times_entered : ℕ → List Visit → ℕ
times_entered x vs = count_by (enters x) vs

-- With these objects entered and not left, the nearest first, the visits lead to those: each is entered inside what it is below,
-- and the nearest is left.
abbrev pub Leads : List (Option Link) → List ℕ → List Visit → List ℕ → Type 0
Leads links path [] end = path ≡ end
Leads links path (Enter x ∷ vs) end = IsLineage links x path × Leads links (x ∷ path) vs end
Leads links [] (Leave x ∷ vs) end = ⊥
Leads links (p ∷ path) (Leave x ∷ vs) end = (p ≡ x) × Leads links path vs end

-- a walk that enters each object from which going up ends
pub record IsTour (links : List (Option Link)) (tour : List Visit) : Type 0 where
  pub end : List ℕ
  pub leads : Leads links [] tour end
  pub whole : (x : ℕ) → x < length links → (ys : List ℕ) → IsLineage links x ys → 0 < times_entered x tour

-- each list holds the objects right below its object
abbrev pub AreListsBelow : List (Option Link) → List Links → Type 0
AreListsBelow links nodes = (x : ℕ) → AreBelow links x (below_of nodes x)

-- With these objects entered and not left, the visits to come, the next one first, may follow: each is of an object right below
-- the one that is entered then, or leaves that one.
abbrev pub Awaits : List (Option Link) → List ℕ → List Visit → Type 0
Awaits links path [] = Unit {0}
Awaits links path (Enter x ∷ vs) = IsLineage links x path × Awaits links path vs
Awaits links [] (Leave x ∷ vs) = ⊥
Awaits links (p ∷ path) (Leave x ∷ vs) = (p ≡ x) × Awaits links path vs
