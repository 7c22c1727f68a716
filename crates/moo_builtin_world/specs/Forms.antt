-- What a list gives as the info of a property or a verb, or as the specifiers of a verb.
use Rattle.std.specs.Prelude.{List, [], ◌∷◌, Option, Some, None, Result, Ok, Err}
use Rattle.std.specs.Option.{option_map}
use Rattle.moo_value.specs.declared.error_code.ErrorCode.{ErrorCode}
use Rattle.moo_value.specs.declared.error_code.ErrorCode.TheVariants.{TypeMismatch, InvalidArgument}
use Rattle.moo_value.specs.Tree.{Tree, object, string, list, trees_of}
use Rattle.moo_world_object.specs.declared.verb_args.ObjectSpecifier.{ObjectSpecifier}
use Rattle.moo_world_object.specs.declared.verb_args.PrepositionSpecifier.{PrepositionSpecifier}
use Rattle.moo_world_object.specs.declared.verb_args.VerbArgs.{VerbArgs}
use Rattle.moo_world_text.specs.Permissions.{prop_perms_of, verb_perms_of}
use Rattle.moo_world_text.specs.Specifiers.{object_specifier_of, preposition_specifier_of}
use Rattle.moo_builtin_world.specs.declared.forms.GivenProperty.{GivenProperty}
use Rattle.moo_builtin_world.specs.declared.forms.GivenVerb.{GivenVerb}

-- a text that gives nothing is no argument
abbrev pub or_invalid : {X : Type 0} → Option X → Result X ErrorCode
or_invalid None = Err InvalidArgument
or_invalid (Some x) = Ok x

-- {owner, perms} or {owner, perms, name}
abbrev pub property_in : List Tree → Result GivenProperty ErrorCode
property_in (object owner ∷ string perms ∷ []) = or_invalid (option_map (λ p. record { owner = owner; perms = p; name = None }) (prop_perms_of perms))
property_in (object owner ∷ string perms ∷ string name ∷ []) = or_invalid (option_map (λ p. record { owner = owner; perms = p; name = Some name }) (prop_perms_of perms))
property_in _ = Err TypeMismatch

abbrev pub given_property : Tree → Result GivenProperty ErrorCode
given_property (list es) = property_in (trees_of es)
given_property _ = Err TypeMismatch

-- {owner, perms, names}
abbrev pub verb_in : List Tree → Result GivenVerb ErrorCode
verb_in (object owner ∷ string perms ∷ string names ∷ []) = or_invalid (option_map (λ p. record { owner = owner; perms = p; names = names }) (verb_perms_of perms))
verb_in _ = Err TypeMismatch

unfoldable pub given_verb : Tree → Result GivenVerb ErrorCode
given_verb (list es) = verb_in (trees_of es)
given_verb _ = Err TypeMismatch

abbrev pub specifiers : Option ObjectSpecifier → Option PrepositionSpecifier → Option ObjectSpecifier → Option VerbArgs
specifiers (Some d) (Some p) (Some i) = Some (record { direct = d; preposition = p; indirect = i })
specifiers _ _ _ = None

-- {dobj, prep, iobj}
abbrev pub args_in : List Tree → Result VerbArgs ErrorCode
args_in (string d ∷ string p ∷ string i ∷ []) = or_invalid (specifiers (object_specifier_of d) (preposition_specifier_of p) (object_specifier_of i))
args_in _ = Err TypeMismatch

unfoldable pub given_args : Tree → Result VerbArgs ErrorCode
given_args (list es) = args_in (trees_of es)
given_args _ = Err TypeMismatch
