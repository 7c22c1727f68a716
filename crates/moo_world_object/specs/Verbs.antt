-- The verbs of an object: their changes, and the names that match them.
use Rattle.std.specs.Prelude.{ℕ, zero, suc, ℤ, List, [], ◌∷◌, Option, Bool, true, ◌&&◌}
use Rattle.moo_syntax_ast.specs.Tree.{Block}
use Rattle.moo_world_object.specs.declared.verb.Verb.{Verb}
use Rattle.moo_world_object.specs.declared.verb.VerbPerms.{VerbPerms}
use Rattle.moo_world_object.specs.declared.verb_args.VerbArgs.{VerbArgs}
use Rattle.moo_world_object.specs.declared.verb.Need.{Need}
use Rattle.moo_world_object.specs.declared.verb.Need.TheVariants as need
use Rattle.moo_world_object.specs.Patterns.{fits_names}

-- whether a verb counts for a need: for a call only if it is executable
abbrev pub is_needed : Need → Verb → Bool
is_needed need.Call v = v.perms.execute
is_needed need.Any v = true

-- whether a name matches a verb that counts for a need
abbrev pub fits_verb : Need → List ℕ → Verb → Bool
fits_verb n name v = is_needed n v && fits_names v.names name

-- the list with its element at a place changed by f
abbrev pub changed_at : {X : Type 0} → ℕ → (X → X) → List X → List X
changed_at i f [] = []
changed_at zero f (x ∷ xs) = f x ∷ xs
changed_at (suc i) f (x ∷ xs) = x ∷ changed_at i f xs

abbrev pub with_verb_info : List ℕ → ℤ → VerbPerms → Verb → Verb
with_verb_info names owner perms v = record { names = names; owner = owner; perms = perms; args = v.args; program = v.program }

abbrev pub with_args : VerbArgs → Verb → Verb
with_args args v = record { names = v.names; owner = v.owner; perms = v.perms; args = args; program = v.program }

abbrev pub with_program : Option Block → Verb → Verb
with_program program v = record { names = v.names; owner = v.owner; perms = v.perms; args = v.args; program = program }
