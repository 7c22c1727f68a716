-- The texts of specifiers.
use Rattle.std.specs.Prelude.{ℕ, List, [], ◌∷◌, Bool, ◌==◌, ◌||◌, Option, Some, codes, if◌then◌else◌}
use Rattle.std.specs.Option.{option_map}
use Rattle.std.specs.List.{list_any, find, slice_split}
use Rattle.moo_value.specs.Compare.{folded}
use Rattle.moo_world_object.specs.Names.{same_name}
use Rattle.moo_world_object.specs.declared.verb_args.ObjectSpecifier.{ObjectSpecifier}
use Rattle.moo_world_object.specs.declared.verb_args.ObjectSpecifier.TheVariants as specifier
use Rattle.moo_world_object.specs.declared.verb_args.PrepositionSpecifier.{PrepositionSpecifier}
use Rattle.moo_world_object.specs.declared.verb_args.PrepositionSpecifier.TheVariants as preposition
use Rattle.moo_world_object.specs.declared.verb_args.Preposition.{Preposition}
use Rattle.moo_world_object.specs.declared.verb_args.Preposition.TheVariants.{With, At, InFrontOf, Inside, OnTopOf, OutOf, Over, Through, Under, Behind, Beside, About, Is, As, Off}

-- the texts are the same, without regard to case
abbrev pub same_text : List ℕ → List ℕ → Bool
same_text one other = same_name (folded one) (folded other)

abbrev pub object_specifier_text : ObjectSpecifier → List ℕ
object_specifier_text specifier.None = codes "none"
object_specifier_text specifier.Any = codes "any"
object_specifier_text specifier.This = codes "this"

abbrev pub all_object_specifiers : List ObjectSpecifier
all_object_specifiers = specifier.None ∷ specifier.Any ∷ specifier.This ∷ []

abbrev pub object_specifier_of : List ℕ → Option ObjectSpecifier
object_specifier_of text = find (λ s. same_text text (object_specifier_text s)) all_object_specifiers

-- the forms of a preposition, with slashes between them
abbrev pub preposition_text : Preposition → List ℕ
preposition_text With = codes "with/using"
preposition_text At = codes "at/to"
preposition_text InFrontOf = codes "in front of"
preposition_text Inside = codes "in/inside/into"
preposition_text OnTopOf = codes "on top of/on/onto/upon"
preposition_text OutOf = codes "out of/from inside/from"
preposition_text Over = codes "over"
preposition_text Through = codes "through"
preposition_text Under = codes "under/underneath/beneath"
preposition_text Behind = codes "behind"
preposition_text Beside = codes "beside"
preposition_text About = codes "for/about"
preposition_text Is = codes "is"
preposition_text As = codes "as"
preposition_text Off = codes "off/off of"

abbrev pub all_prepositions : List Preposition
all_prepositions =
    With ∷ At ∷ InFrontOf ∷ Inside ∷ OnTopOf ∷ OutOf ∷ Over ∷ Through ∷ Under ∷ Behind ∷ Beside ∷ About ∷ Is ∷ As ∷ Off ∷ []

abbrev pub is_slash : ℕ → Bool
is_slash byte = byte == 47

-- the text is one of the forms
abbrev pub has_form : List ℕ → List ℕ → Bool
has_form text forms = list_any (same_text text) (slice_split is_slash forms)

-- the text is all forms of the preposition, or one of them
abbrev pub is_text_of : List ℕ → Preposition → Bool
is_text_of text p = same_text text (preposition_text p) || has_form text (preposition_text p)

abbrev pub preposition_of : List ℕ → Option Preposition
preposition_of text = find (is_text_of text) all_prepositions

abbrev pub preposition_specifier_text : PrepositionSpecifier → List ℕ
preposition_specifier_text preposition.None = codes "none"
preposition_specifier_text preposition.Any = codes "any"
preposition_specifier_text (preposition.One p) = preposition_text p

abbrev pub preposition_specifier_of : List ℕ → Option PrepositionSpecifier
preposition_specifier_of text =
    if same_text text (codes "none") then Some preposition.None
    else if same_text text (codes "any") then Some preposition.Any
    else option_map (λ p. preposition.One p) (preposition_of text)
