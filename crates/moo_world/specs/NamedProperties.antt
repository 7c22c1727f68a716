-- Properties by their names, the built-in ones among them.
use Rattle.std.specs.Prelude.{ℕ, ℤ, pos, negsuc, List, Option, Some, None, Bool, map, if◌then◌else◌}
use Rattle.moo_value.specs.Tree.{Tree, integer, object, string, list_of}
use Rattle.moo_value.specs.declared.error_code.ErrorCode.{ErrorCode}
use Rattle.moo_value.specs.declared.error_code.ErrorCode.TheVariants.{InvalidIndirection}
use Rattle.moo_world_tree.specs.Forest.{above_of, below_of}
use Rattle.moo_world_object.specs.BuiltIn.{built_in_of}
use Rattle.moo_world_object.specs.declared.built_in_property.BuiltInProperty.{BuiltInProperty}
use Rattle.moo_world_object.specs.declared.built_in_property.BuiltInProperty.TheVariants as property
use Rattle.moo_world_object.specs.Objects.{Object}
use Rattle.moo_world_table.specs.World.{World, thing_of}
use Rattle.moo_world_table.specs.Properties.{read}
use Rattle.moo_world.specs.PropertyCalls.{plain_raises}

abbrev pub truth : Bool → Tree
truth b = integer (if b then pos 1 else pos 0)

-- the number of a place, -1 for none
abbrev pub number_of_place : Option ℕ → ℤ
number_of_place None = negsuc 0
number_of_place (Some up) = pos up

abbrev pub objects_list : List ℕ → Tree
objects_list ys = list_of (map (λ y. object (pos y)) ys)

-- the value of a built-in property that the object itself has
abbrev pub own_value : Object → BuiltInProperty → Tree
own_value o property.Name = string o.name
own_value o property.Owner = object o.owner
own_value o property.Location = integer (pos 0)
own_value o property.Contents = integer (pos 0)
own_value o property.Programmer = truth o.flags.programmer
own_value o property.Wizard = truth o.flags.wizard
own_value o property.Read = truth o.flags.read
own_value o property.Write = truth o.flags.write
own_value o property.Fertile = truth o.flags.fertile

-- the value of a built-in property: the location and the contents are in the tree of places
abbrev pub built_in_value : World → ℕ → BuiltInProperty → Tree
built_in_value w x property.Location = object (number_of_place (above_of w.containment x))
built_in_value w x property.Contents = objects_list (below_of w.containment x)
built_in_value w x property.Name = own_value (thing_of w.objects x) property.Name
built_in_value w x property.Owner = own_value (thing_of w.objects x) property.Owner
built_in_value w x property.Programmer = own_value (thing_of w.objects x) property.Programmer
built_in_value w x property.Wizard = own_value (thing_of w.objects x) property.Wizard
built_in_value w x property.Read = own_value (thing_of w.objects x) property.Read
built_in_value w x property.Write = own_value (thing_of w.objects x) property.Write
built_in_value w x property.Fertile = own_value (thing_of w.objects x) property.Fertile

-- a built-in property always exists, any other one if it is defined
abbrev pub named_raises : World → ℕ → List ℕ → Option BuiltInProperty → Option ErrorCode
named_raises w x name None = plain_raises w x name
named_raises w x name (Some property) = None

abbrev pub named_value : World → ℕ → List ℕ → Option BuiltInProperty → Option Tree
named_value w x name None = read w x name
named_value w x name (Some property) = Some (built_in_value w x property)

abbrev pub get_raises : World → Option ℕ → List ℕ → Option ErrorCode
get_raises w None name = Some InvalidIndirection
get_raises w (Some x) name = named_raises w x name (built_in_of name)

abbrev pub value_got : World → Option ℕ → List ℕ → Option Tree
value_got w None name = None
value_got w (Some x) name = named_value w x name (built_in_of name)
