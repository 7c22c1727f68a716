-- The texts of permissions and specifiers parse back to them.
use Rattle.std.specs.Prelude.{◌≡◌, Some}
use Rattle.moo_world_object.specs.declared.cell.PropPerms.{PropPerms}
use Rattle.moo_world_object.specs.declared.verb.VerbPerms.{VerbPerms}
use Rattle.moo_world_object.specs.declared.verb_args.ObjectSpecifier.{ObjectSpecifier}
use Rattle.moo_world_object.specs.declared.verb_args.PrepositionSpecifier.{PrepositionSpecifier}
use Rattle.moo_world_text.specs.Permissions.{prop_perms_text, prop_perms_of, verb_perms_text, verb_perms_of}
use Rattle.moo_world_text.specs.Specifiers.{object_specifier_text, object_specifier_of, preposition_specifier_text, preposition_specifier_of}

abbrev pub PropPermsAreReadBack : Type 0
PropPermsAreReadBack = (p : PropPerms) → prop_perms_of (prop_perms_text p) ≡ Some p

abbrev pub VerbPermsAreReadBack : Type 0
VerbPermsAreReadBack = (p : VerbPerms) → verb_perms_of (verb_perms_text p) ≡ Some p

abbrev pub ObjectSpecifiersAreReadBack : Type 0
ObjectSpecifiersAreReadBack = (s : ObjectSpecifier) → object_specifier_of (object_specifier_text s) ≡ Some s

abbrev pub PrepositionSpecifiersAreReadBack : Type 0
PrepositionSpecifiersAreReadBack = (s : PrepositionSpecifier) → preposition_specifier_of (preposition_specifier_text s) ≡ Some s
