-- Properties by their names.
use Rattle.std.specs.Prelude.{ℕ, ◌-◌, List, ◌∷◌, Option, None, Bool, ◌&&◌, slice_get, length, nat_le, position, if◌then◌else◌}
use Rattle.std.specs.Option.{unwrap_or, option_and_then, option_map}
use Rattle.std.specs.List.{find, filter_map, list_any, range_with_len}
use Rattle.moo_value.specs.Tree.{Tree}
use Rattle.moo_world_tree.specs.Forest.{Links, ancestors, is_within}
use Rattle.moo_world_object.specs.Names.{same_name}
use Rattle.moo_world_object.specs.Cells.{Cell, Key, is_key, cell_at}
use Rattle.moo_world_object.specs.Objects.{Object}
use Rattle.moo_world_table.specs.World.{World, nothing, object_of, definitions, most}

-- what is found at an object for a definition: the value of its cell, if that is not clear
abbrev pub value_in : Option Object → Key → Option Tree
value_in o k = option_and_then (λ c. c.value) (cell_at (unwrap_or o nothing).cells k)

abbrev pub value_at : List (Option Object) → Key → ℕ → Option Tree
value_at objects k x = value_in (object_of objects x) k

-- the values for a definition that one finds on going up from x, the nearest first
abbrev pub values_above : List (Option Object) → List Links → Key → ℕ → List Tree
values_above objects tree k x = filter_map (value_at objects k) (x ∷ ancestors tree x)

-- how far the cell of a definition is from the end of a row, or 0 if the row has none
abbrev pub distance_of : Key → List Cell → ℕ
distance_of k cells = unwrap_or (option_map (λ place. length cells - place) (position (is_key k) cells)) 0

-- the cell at a distance from the end of a row
abbrev pub cell_from_end : ℕ → List Cell → Option Cell
cell_from_end distance cells = if nat_le distance (length cells) then slice_get cells (length cells - distance) else None

-- the value of the cell at a distance from the end of an object's row, if that is not clear
abbrev pub value_from_end : ℕ → Option Object → Option Tree
value_from_end distance o = option_and_then (λ c. c.value) (cell_from_end distance (unwrap_or o nothing).cells)

abbrev pub value_from_end_at : List (Option Object) → ℕ → ℕ → Option Tree
value_from_end_at objects distance x = value_from_end distance (object_of objects x)

-- the definition of a name, letters folded, on an object or an ancestor
abbrev pub definition_named : World → ℕ → List ℕ → Option Key
definition_named w x name = find (λ k. same_name k.1 name) (definitions w.objects w.inheritance x)

-- the value of a property: the nearest that is not clear
abbrev pub read : World → ℕ → List ℕ → Option Tree
read w x name = option_and_then (λ k. slice_get (values_above w.objects w.inheritance k x) 0) (definition_named w x name)

-- whether an object or an ancestor has a definition of a name, letters folded
abbrev pub has_name : List (Option Object) → List Links → List ℕ → ℕ → Bool
has_name objects tree name y = list_any (λ k. same_name k.1 name) (definitions objects tree y)

-- whether an object, an ancestor or a descendant has a definition of a name
abbrev pub is_taken : List (Option Object) → List Links → ℕ → List ℕ → Bool
is_taken objects tree x name = list_any (λ y. is_within tree y x && has_name objects tree name y) (range_with_len 0 (length objects))

-- whether an object or a descendant has as many properties as it may have
abbrev pub is_full : List (Option Object) → List Links → ℕ → Bool
is_full objects tree x = list_any (λ y. is_within tree y x && nat_le most (length (definitions objects tree y))) (range_with_len 0 (length objects))
