-- The texts of permissions and specifiers parse back to them, by cases.
use Rattle.std.proofs.Common.{◌≡◌, Bool, true, false, refl}
use Rattle.std.specs.Prelude.{Some}
use Rattle.moo_world_object.specs.declared.cell.PropPerms.{PropPerms}
use Rattle.moo_world_object.specs.declared.verb.VerbPerms.{VerbPerms}
use Rattle.moo_world_object.specs.declared.verb_args.ObjectSpecifier.TheVariants as specifier
use Rattle.moo_world_object.specs.declared.verb_args.PrepositionSpecifier.TheVariants as preposition
use Rattle.moo_world_object.specs.declared.verb_args.Preposition.TheVariants.{With, At, InFrontOf, Inside, OnTopOf, OutOf, Over, Through, Under, Behind, Beside, About, Is, As, Off}
use Rattle.moo_world_text.specs.Permissions.{prop_perms_text, prop_perms_of, verb_perms_text, verb_perms_of}
use Rattle.moo_world_text.specs.Laws.{PropPermsAreReadBack, VerbPermsAreReadBack, ObjectSpecifiersAreReadBack, PrepositionSpecifiersAreReadBack}

of_property : (r w c : Bool) → let p : PropPerms = record { read = r; write = w; change_owner = c } in prop_perms_of (prop_perms_text p) ≡ Some p
of_property true true true = refl
of_property true true false = refl
of_property true false true = refl
of_property true false false = refl
of_property false true true = refl
of_property false true false = refl
of_property false false true = refl
of_property false false false = refl

pub prop_perms_are_read_back : PropPermsAreReadBack
prop_perms_are_read_back p = of_property p.read p.write p.change_owner

of_verb : (r w x d : Bool) → let p : VerbPerms = record { read = r; write = w; execute = x; debug = d } in verb_perms_of (verb_perms_text p) ≡ Some p
of_verb true true true true = refl
of_verb true true true false = refl
of_verb true true false true = refl
of_verb true true false false = refl
of_verb true false true true = refl
of_verb true false true false = refl
of_verb true false false true = refl
of_verb true false false false = refl
of_verb false true true true = refl
of_verb false true true false = refl
of_verb false true false true = refl
of_verb false true false false = refl
of_verb false false true true = refl
of_verb false false true false = refl
of_verb false false false true = refl
of_verb false false false false = refl

pub verb_perms_are_read_back : VerbPermsAreReadBack
verb_perms_are_read_back p = of_verb p.read p.write p.execute p.debug

pub object_specifiers_are_read_back : ObjectSpecifiersAreReadBack
object_specifiers_are_read_back specifier.None = refl
object_specifiers_are_read_back specifier.Any = refl
object_specifiers_are_read_back specifier.This = refl

pub preposition_specifiers_are_read_back : PrepositionSpecifiersAreReadBack
preposition_specifiers_are_read_back preposition.None = refl
preposition_specifiers_are_read_back preposition.Any = refl
preposition_specifiers_are_read_back (preposition.One With) = refl
preposition_specifiers_are_read_back (preposition.One At) = refl
preposition_specifiers_are_read_back (preposition.One InFrontOf) = refl
preposition_specifiers_are_read_back (preposition.One Inside) = refl
preposition_specifiers_are_read_back (preposition.One OnTopOf) = refl
preposition_specifiers_are_read_back (preposition.One OutOf) = refl
preposition_specifiers_are_read_back (preposition.One Over) = refl
preposition_specifiers_are_read_back (preposition.One Through) = refl
preposition_specifiers_are_read_back (preposition.One Under) = refl
preposition_specifiers_are_read_back (preposition.One Behind) = refl
preposition_specifiers_are_read_back (preposition.One Beside) = refl
preposition_specifiers_are_read_back (preposition.One About) = refl
preposition_specifiers_are_read_back (preposition.One Is) = refl
preposition_specifiers_are_read_back (preposition.One As) = refl
preposition_specifiers_are_read_back (preposition.One Off) = refl
