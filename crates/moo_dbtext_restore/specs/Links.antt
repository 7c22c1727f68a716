-- The links of objects in a tree, as a database gives them, and which of them join objects to a tree.
use Rattle.std.specs.Prelude.{◌≡◌, ℕ, zero, suc, ℤ, pos, negsuc, List, [], ◌∷◌, Option, Some, None, is_some, IsSome, if◌then◌else◌, slice_index_or, length, count_by, nat_eq}
use Rattle.std.specs.Option.{unwrap_or}
use Rattle.moo_world_tree.specs.Forest.{Links, alone, above_of, below_of, times_below}
use Rattle.moo_dbtext_restore.specs.declared.link.Link.{Link}

-- the number that means no object
abbrev pub nowhere : ℤ
nowhere = negsuc 0

-- the links of an object that is joined to nothing
abbrev pub no_link : Link
no_link = record { above = nowhere; first = nowhere; next = nowhere }

-- the links of the object of a number, if there is one
abbrev pub link_at : List (Option Link) → ℕ → Option Link
link_at links x = slice_index_or links x None

abbrev pub link_of : List (Option Link) → ℕ → Link
link_of links x = unwrap_or (link_at links x) no_link

-- the object of a number
abbrev pub numbered : List (Option Link) → ℤ → Option ℕ
numbered links (pos y) = if is_some (link_at links y) then Some y else None
numbered links (negsuc n) = None

-- the object right above x
abbrev pub above_in : List (Option Link) → ℕ → Option ℕ
above_in links x = numbered links (link_of links x).above

-- a number that is an object's, or -1
abbrev pub IsPlace : List (Option Link) → ℤ → Type 0
IsPlace links (pos y) = IsSome (link_at links y)
IsPlace links (negsuc zero) = Unit {0}
IsPlace links (negsuc (suc n)) = ⊥

-- going up from x, one meets these objects, and the last is right below none
abbrev pub IsLineage : List (Option Link) → ℕ → List ℕ → Type 0
IsLineage links x [] = above_in links x ≡ None
IsLineage links x (y ∷ ys) = (above_in links x ≡ Some y) × IsLineage links y ys

-- from this number on, each number is the next of the one before, and the last has no next
abbrev pub IsChain : List (Option Link) → ℤ → List ℕ → Type 0
IsChain links z [] = z ≡ nowhere
IsChain links z (y ∷ ys) = (z ≡ pos y) × IsChain links (link_of links y).next ys

-- the list holds each object that is right below x, once, and no other
abbrev pub AreBelow : List (Option Link) → ℕ → List ℕ → Type 0
AreBelow links x ys = (y : ℕ) → count_by (nat_eq y) ys ≡ times_below (above_in links y) x

-- the chain from the first of x holds the objects right below x
pub record HasList (links : List (Option Link)) (x : ℕ) : Type 0 where
  pub list : List ℕ
  pub chain : IsChain links (link_of links x).first list
  pub exact : AreBelow links x list

-- an object's place in a tree is sound
pub record IsSound (links : List (Option Link)) (x : ℕ) : Type 0 where
  pub placed : IsPlace links (link_of links x).above
  pub ends : (ys : List ℕ) × IsLineage links x ys
  pub listed : HasList links x

-- the number of the object right above, or -1
abbrev pub place_number : Option ℕ → ℤ
place_number None = nowhere
place_number (Some x) = pos x

-- a tree joins x as the links describe
pub record IsJoinedAs (links : List (Option Link)) (tree : List Links) (x : ℕ) : Type 0 where
  pub above : place_number (above_of tree x) ≡ (link_of links x).above
  pub below : IsChain links (link_of links x).first (below_of tree x)

-- a tree is what the links describe: it joins each number as they do, and a number without links is joined to nothing
pub record IsTreeOf (links : List (Option Link)) (tree : List Links) : Type 0 where
  pub many : length tree ≡ length links
  pub joined : (x : ℕ) → IsJoinedAs links tree x
  pub free : (x : ℕ) → link_at links x ≡ None → slice_index_or tree x alone ≡ alone
