-- The built-in properties and their names.
use Rattle.std.specs.Prelude.{ℕ, List, [], ◌∷◌, codes, Option}
use Rattle.std.specs.List.{find}
use Rattle.moo_world_object.specs.Names.{same_name}
use Rattle.moo_world_object.specs.declared.built_in_property.BuiltInProperty.{BuiltInProperty}
use Rattle.moo_world_object.specs.declared.built_in_property.BuiltInProperty.TheVariants as property

abbrev pub built_in_name : BuiltInProperty → List ℕ
built_in_name property.Name = codes "name"
built_in_name property.Owner = codes "owner"
built_in_name property.Location = codes "location"
built_in_name property.Contents = codes "contents"
built_in_name property.Programmer = codes "programmer"
built_in_name property.Wizard = codes "wizard"
built_in_name property.Read = codes "r"
built_in_name property.Write = codes "w"
built_in_name property.Fertile = codes "f"

abbrev pub all_built_in : List BuiltInProperty
all_built_in =
    property.Name ∷ property.Owner ∷ property.Location ∷ property.Contents ∷ property.Programmer ∷ property.Wizard ∷ property.Read
    ∷ property.Write ∷ property.Fertile ∷ []

-- the built-in property of a name in lower case
abbrev pub built_in_of : List ℕ → Option BuiltInProperty
built_in_of name = find (λ property. same_name name (built_in_name property)) all_built_in
