-- What the functions over the world give.
use Rattle.std.specs.Prelude.{◌≡◌, ℤ, List, [], ◌∷◌, Bool, true, false, Option, None, Some, Result, Ok, Err, IsOk, ⊤, if◌then◌else◌}
use Rattle.moo_value.specs.declared.error_code.ErrorCode.{ErrorCode}
use Rattle.moo_value.specs.declared.error_code.ErrorCode.TheVariants.{TypeMismatch}
use Rattle.moo_value.specs.Tree.{Tree, object}
use Rattle.moo_syntax_function.specs.declared.function.Function.{Function}
use Rattle.moo_syntax_function.specs.declared.function.Function.TheVariants as function
use Rattle.moo_syntax_function.specs.Table.{row}
use Rattle.moo_syntax_function.specs.Check.{refusal}
use Rattle.moo_builtin_value.specs.TextAnswers.{IsMade}
use Rattle.moo_world_table.specs.World.{World}
use Rattle.moo_builtin_world.specs.Objects.{is_valid, valid, parent, children, max_object, listed_players, is_player, change_parent}
use Rattle.moo_builtin_world.specs.Properties.{properties, property_info, is_clear_property, add_property, set_property_info, clear_property, delete_property}
use Rattle.moo_builtin_world.specs.Verbs.{listed_verbs, verb_info, verb_args, add_verb, set_verb_info, set_verb_args, delete_verb}

-- the functions that read or change the world, call no verb and read no connection, frame or clock
abbrev pub is_of_world : Function → Bool
is_of_world function.Valid = true
is_of_world function.Parent = true
is_of_world function.Children = true
is_of_world function.MaxObject = true
is_of_world function.Players = true
is_of_world function.IsPlayer = true
is_of_world function.Properties = true
is_of_world function.PropertyInfo = true
is_of_world function.IsClearProperty = true
is_of_world function.Verbs = true
is_of_world function.VerbInfo = true
is_of_world function.VerbArgs = true
is_of_world function.Chparent = true
is_of_world function.AddProperty = true
is_of_world function.SetPropertyInfo = true
is_of_world function.ClearProperty = true
is_of_world function.DeleteProperty = true
is_of_world function.AddVerb = true
is_of_world function.SetVerbInfo = true
is_of_world function.SetVerbArgs = true
is_of_world function.DeleteVerb = true
is_of_world _ = false

-- what those that look give a programmer, for arguments that fit
abbrev pub looking : Function → World → ℤ → List Tree → Option (Result Tree ErrorCode)
looking function.Valid w p args = Some (valid w args)
looking function.Parent w p args = Some (parent w args)
looking function.Children w p args = Some (children w args)
looking function.MaxObject w p args = Some (max_object w args)
looking function.Players w p args = Some (listed_players w args)
looking function.IsPlayer w p args = Some (is_player w args)
looking function.Properties w p args = Some (properties w p args)
looking function.PropertyInfo w p args = Some (property_info w p args)
looking function.IsClearProperty w p args = Some (is_clear_property w p args)
looking function.Verbs w p args = Some (listed_verbs w p args)
looking function.VerbInfo w p args = Some (verb_info w p args)
looking function.VerbArgs w p args = Some (verb_args w p args)
looking _ w p args = None

-- what those that change the world give, with the world after them
abbrev pub changing : Function → World → ℤ → List Tree → Result (Tree × World) ErrorCode
changing function.Chparent w p args = change_parent w p args
changing function.AddProperty w p args = add_property w p args
changing function.SetPropertyInfo w p args = set_property_info w p args
changing function.ClearProperty w p args = clear_property w p args
changing function.DeleteProperty w p args = delete_property w p args
changing function.AddVerb w p args = add_verb w p args
changing function.SetVerbInfo w p args = set_verb_info w p args
changing function.SetVerbArgs w p args = set_verb_args w p args
changing function.DeleteVerb w p args = delete_verb w p args
changing _ w p args = Err TypeMismatch

-- Where memory may run out for a change: never for one that allocates nothing, and for a deletion only once it is due
abbrev pub ChangeMayLack : Function → World → ℤ → List Tree → Type 0
ChangeMayLack function.ClearProperty w p args = ⊥
ChangeMayLack function.SetVerbArgs w p args = ⊥
ChangeMayLack function.DeleteVerb w p args = ⊥
ChangeMayLack function.DeleteProperty w p args = IsOk (delete_property w p args)
ChangeMayLack f w p args = ⊤

abbrev pub LookMayLack : Option (Result Tree ErrorCode) → Type 0 → Type 0
LookMayLack None Change = Change
LookMayLack (Some r) Change = IsMade r

-- where memory may run out for arguments that fit: a function that reads allocates only a list or a string
abbrev pub MayLack : Function → World → ℤ → List Tree → Type 0
MayLack f w p args = LookMayLack (looking f w p args) (ChangeMayLack f w p args)

-- a function that looks leaves the world as it is
abbrev pub looked_or : World → Option (Result Tree ErrorCode) → Result (Tree × World) ErrorCode → Result (Tree × World) ErrorCode
looked_or w None changed = changed
looked_or w (Some (Ok t)) changed = Ok (t, w)
looked_or w (Some (Err e)) changed = Err e

-- what each of them gives for arguments that fit
abbrev pub answer : Function → World → ℤ → List Tree → Result (Tree × World) ErrorCode
answer f w p args = looked_or w (looking f w p args) (changing f w p args)

-- the result of a function over the world, and none for a function of another kind
abbrev pub world_answer : Function → World → ℤ → List Tree → Option (Result (Tree × World) ErrorCode)
world_answer f w p args = if is_of_world f then Some (answer f w p args) else None

-- a function that looks at the world accepts an object and gives this value for it, whoever calls the function
abbrev pub Shows : Function → World → ℤ → Tree → Type 0
Shows f w o t = (refusal (is_valid w) (row f) (object o ∷ []) ≡ None) × ((p : ℤ) → looking f w p (object o ∷ []) ≡ Some (Ok t))
