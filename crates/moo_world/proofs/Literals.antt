-- Built-in properties whose names are literals.
use Rattle.std.proofs.Common.{◌≡◌, ℕ, List, Some, refl, ap, ◌∙◌}
use Rattle.moo_syntax_ast.specs.NameNumber.{name_number}
use Rattle.moo_world_object.specs.BuiltIn.{built_in_name, built_in_of}
use Rattle.moo_world_object.specs.declared.built_in_property.BuiltInProperty.{BuiltInProperty}
use Rattle.moo_world_object.specs.declared.built_in_property.BuiltInProperty.TheVariants as property

own_name : (p : BuiltInProperty) → built_in_of (built_in_name p) ≡ Some p
own_name property.Name = refl
own_name property.Owner = refl
own_name property.Location = refl
own_name property.Contents = refl
own_name property.Programmer = refl
own_name property.Wizard = refl
own_name property.Read = refl
own_name property.Write = refl
own_name property.Fertile = refl

-- a name with the number of a built-in property's name is that name
pub numbered_property : (name : List ℕ) (number : ℕ) (p : BuiltInProperty) → ((a b : List ℕ) → name_number a ≡ number → name_number b ≡ number → a ≡ b) → name_number name ≡ number → name_number (built_in_name p) ≡ number → built_in_of name ≡ Some p
numbered_property name number p one is same = ap built_in_of (one name (built_in_name p) is same) ∙ own_name p
