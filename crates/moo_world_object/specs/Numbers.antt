-- Permissions and specifiers as numbers.
use Rattle.std.specs.Prelude.{ℕ, ◌+◌, ℤ, pos, negsuc}
use Rattle.moo_world_object.specs.declared.cell.PropPerms.{PropPerms}
use Rattle.moo_world_object.specs.declared.verb.VerbPerms.{VerbPerms}
use Rattle.moo_world_object.specs.declared.verb_args.ObjectSpecifier.{ObjectSpecifier}
use Rattle.moo_world_object.specs.declared.verb_args.ObjectSpecifier.TheVariants as specifier
use Rattle.moo_world_object.specs.declared.verb_args.PrepositionSpecifier.{PrepositionSpecifier}
use Rattle.moo_world_object.specs.declared.verb_args.PrepositionSpecifier.TheVariants as preposition
use Rattle.moo_world_object.specs.declared.verb_args.Preposition.{Preposition}
use Rattle.moo_world_object.specs.declared.verb_args.Preposition.TheVariants.{With, At, InFrontOf, Inside, OnTopOf, OutOf, Over, Through, Under, Behind, Beside, About, Is, As, Off}
use Rattle.moo_world_object.specs.Flags.{bit}

abbrev pub prop_perms_number : PropPerms → ℕ
prop_perms_number p = bit p.read 1 + bit p.write 2 + bit p.change_owner 4

abbrev pub verb_perms_number : VerbPerms → ℕ
verb_perms_number p = bit p.read 1 + bit p.write 2 + bit p.execute 4 + bit p.debug 8

abbrev pub object_specifier_number : ObjectSpecifier → ℕ
object_specifier_number specifier.None = 0
object_specifier_number specifier.Any = 1
object_specifier_number specifier.This = 2

abbrev pub preposition_number : Preposition → ℕ
preposition_number With = 0
preposition_number At = 1
preposition_number InFrontOf = 2
preposition_number Inside = 3
preposition_number OnTopOf = 4
preposition_number OutOf = 5
preposition_number Over = 6
preposition_number Through = 7
preposition_number Under = 8
preposition_number Behind = 9
preposition_number Beside = 10
preposition_number About = 11
preposition_number Is = 12
preposition_number As = 13
preposition_number Off = 14

-- -2 for any, -1 for none, else the preposition's number
abbrev pub preposition_specifier_number : PrepositionSpecifier → ℤ
preposition_specifier_number preposition.Any = negsuc 1
preposition_specifier_number preposition.None = negsuc 0
preposition_specifier_number (preposition.One p) = pos (preposition_number p)
