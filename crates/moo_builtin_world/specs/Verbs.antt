-- The results of the functions on verbs.
use Rattle.std.specs.Prelude.{ℕ, ℤ, List, [], ◌∷◌, map, length, position, Bool, ◌&&◌, ◌||◌, Option, Some, None, Result, Err}
use Rattle.std.specs.Option.{option_and_then}
use Rattle.std.specs.Ordering.{int_eq}
use Rattle.moo_value.specs.declared.error_code.ErrorCode.{ErrorCode}
use Rattle.moo_value.specs.declared.error_code.ErrorCode.TheVariants.{TypeMismatch, VerbNotFound}
use Rattle.moo_value.specs.Tree.{Tree, integer, object, string, list_of}
use Rattle.moo_builtin_operator.specs.Answer.{limited}
use Rattle.moo_builtin_operator.specs.Assignment.{before_place}
use Rattle.moo_world_object.specs.declared.verb.Need.TheVariants as need
use Rattle.moo_world_object.specs.declared.verb.Verb.{Verb}
use Rattle.moo_world_object.specs.declared.verb_args.VerbArgs.{VerbArgs}
use Rattle.moo_world_object.specs.Verbs.{fits_verb, with_verb_info, with_args}
use Rattle.moo_world_table.specs.Changes.{with_verb, without_verb, with_changed_verb}
use Rattle.moo_world_table.specs.World.{World}
use Rattle.moo_world.specs.Calls.{number_of}
use Rattle.moo_world.specs.Numbered.{object_numbered, verb_numbered}
use Rattle.moo_world.specs.VerbCalls.{verb_raises, verb_info_raises, add_verb_raises, world_with_object}
use Rattle.moo_world.specs.Rights.{is_wizard, controls, may_read_object, may_write_object, may_read_this_verb, may_write_this_verb}
use Rattle.moo_world_text.specs.Permissions.{verb_perms_text}
use Rattle.moo_world_text.specs.Specifiers.{object_specifier_text, preposition_specifier_text}
use Rattle.moo_builtin_world.specs.declared.forms.GivenVerb.{GivenVerb}
use Rattle.moo_builtin_world.specs.Forms.{given_verb, given_args}
use Rattle.moo_builtin_world.specs.Objects.{of_valid}
use Rattle.moo_builtin_world.specs.Order.{asked, changes, given}

-- the names of an object's own verbs
abbrev pub listed_verbs : World → ℤ → List Tree → Result Tree ErrorCode
listed_verbs w p (object o ∷ []) = of_valid (object_numbered w o) (λ thing. asked None (may_read_object w p o) (limited (list_of (map (λ v. string v.names) thing.verbs))))
listed_verbs w p _ = Err TypeMismatch

-- the place, counted from 0, of the first verb that a string fits, or of the one at a place that is counted from 1
abbrev pub verb_place : List Verb → Tree → Option ℕ
verb_place vs (string name) = position (fits_verb need.Any name) vs
verb_place vs (integer i) = before_place i (length vs)
verb_place vs _ = None

-- the place of the chosen verb among an object's own verbs
abbrev pub chosen : World → ℤ → Tree → Option ℕ
chosen w o t = option_and_then (λ thing. verb_place thing.verbs t) (object_numbered w o)

-- what is returned for a verb, E_VERBNF if there is none
abbrev pub on_verb : {X : Type 0} → Option ℕ → (ℕ → Result X ErrorCode) → Result X ErrorCode
on_verb None f = Err VerbNotFound
on_verb (Some i) f = f i

abbrev pub of_verb : Option Verb → (Verb → Tree) → Result Tree ErrorCode
of_verb None f = Err VerbNotFound
of_verb (Some v) f = limited (f v)

-- {owner, perms, names}
abbrev pub info_of_verb : Verb → Tree
info_of_verb v = list_of (object v.owner ∷ string (verb_perms_text v.perms) ∷ string v.names ∷ [])

-- {dobj, prep, iobj}, the preposition with all its forms
abbrev pub args_of_verb : Verb → Tree
args_of_verb v = list_of (string (object_specifier_text v.args.direct) ∷ string (preposition_specifier_text v.args.preposition) ∷ string (object_specifier_text v.args.indirect) ∷ [])

abbrev pub told_of_verb : World → ℤ → ℤ → (Verb → Tree) → ℕ → Result Tree ErrorCode
told_of_verb w p o f i = asked None (may_read_this_verb w p (verb_numbered w o i)) (of_verb (verb_numbered w o i) f)

unfoldable pub chosen_info : World → ℤ → ℤ → Tree → Result Tree ErrorCode
chosen_info w p o t = on_verb (chosen w o t) (told_of_verb w p o info_of_verb)

abbrev pub verb_info : World → ℤ → List Tree → Result Tree ErrorCode
verb_info w p (object o ∷ t ∷ []) = chosen_info w p o t
verb_info w p _ = Err TypeMismatch

unfoldable pub chosen_args : World → ℤ → ℤ → Tree → Result Tree ErrorCode
chosen_args w p o t = on_verb (chosen w o t) (told_of_verb w p o args_of_verb)

abbrev pub verb_args : World → ℤ → List Tree → Result Tree ErrorCode
verb_args w p (object o ∷ t ∷ []) = chosen_args w p o t
verb_args w p _ = Err TypeMismatch

unfoldable pub without_chosen : World → ℤ → ℤ → ℕ → Result (Tree × World) ErrorCode
without_chosen w p o i =
    let x = number_of w.objects o in
    changes (verb_raises w x i) (may_write_object w p o) (world_with_object w x (without_verb i))

unfoldable pub deleted : World → ℤ → ℤ → Tree → Result (Tree × World) ErrorCode
deleted w p o t = on_verb (chosen w o t) (without_chosen w p o)

abbrev pub delete_verb : World → ℤ → List Tree → Result (Tree × World) ErrorCode
delete_verb w p (object o ∷ t ∷ []) = deleted w p o t
delete_verb w p _ = Err TypeMismatch

-- an owner other than the one that a verb has is given by wizards alone
abbrev pub may_give_verb : World → ℤ → Option Verb → ℤ → Bool
may_give_verb w p None owner = is_wizard w p
may_give_verb w p (Some v) owner = int_eq v.owner owner || is_wizard w p

unfoldable pub with_chosen_info : World → ℤ → ℤ → GivenVerb → ℕ → Result (Tree × World) ErrorCode
with_chosen_info w p o g i =
    let x = number_of w.objects o in
    changes (verb_info_raises w x i g.names)
    (may_write_this_verb w p (verb_numbered w o i) && may_give_verb w p (verb_numbered w o i) g.owner)
    (world_with_object w x (with_changed_verb i (with_verb_info g.names g.owner g.perms)))

unfoldable pub info_given : World → ℤ → ℤ → Tree → GivenVerb → Result (Tree × World) ErrorCode
info_given w p o t g = on_verb (chosen w o t) (with_chosen_info w p o g)

abbrev pub set_verb_info : World → ℤ → List Tree → Result (Tree × World) ErrorCode
set_verb_info w p (object o ∷ t ∷ info ∷ []) = given (given_verb info) (info_given w p o t)
set_verb_info w p _ = Err TypeMismatch

unfoldable pub with_chosen_args : World → ℤ → ℤ → VerbArgs → ℕ → Result (Tree × World) ErrorCode
with_chosen_args w p o a i =
    let x = number_of w.objects o in
    changes (verb_raises w x i) (may_write_this_verb w p (verb_numbered w o i)) (world_with_object w x (with_changed_verb i (with_args a)))

unfoldable pub args_given : World → ℤ → ℤ → Tree → VerbArgs → Result (Tree × World) ErrorCode
args_given w p o t a = on_verb (chosen w o t) (with_chosen_args w p o a)

abbrev pub set_verb_args : World → ℤ → List Tree → Result (Tree × World) ErrorCode
set_verb_args w p (object o ∷ t ∷ args ∷ []) = given (given_args args) (args_given w p o t)
set_verb_args w p _ = Err TypeMismatch

-- the owner of a new verb is the programmer, or whom a wizard names
unfoldable pub with_new_verb : World → ℤ → ℤ → GivenVerb → VerbArgs → Result (Tree × World) ErrorCode
with_new_verb w p o g a =
    let x = number_of w.objects o in
    changes (add_verb_raises w x g.names) (may_write_object w p o && controls w p g.owner)
    (world_with_object w x (with_verb (record { names = g.names; owner = g.owner; perms = g.perms; args = a; program = None })))

abbrev pub add_verb : World → ℤ → List Tree → Result (Tree × World) ErrorCode
add_verb w p (object o ∷ info ∷ args ∷ []) = given (given_verb info) (λ g. given (given_args args) (with_new_verb w p o g))
add_verb w p _ = Err TypeMismatch
