-- The result of verb_code.
use Rattle.std.specs.Prelude.{ℕ, ℤ, List, [], ◌∷◌, map, Bool, true, false, Option, Some, None, Result, Err}
use Rattle.moo_value.specs.declared.error_code.ErrorCode.{ErrorCode}
use Rattle.moo_value.specs.declared.error_code.ErrorCode.TheVariants.{TypeMismatch}
use Rattle.moo_value.specs.Tree.{Tree, object, string, list_of}
use Rattle.moo_builtin_operator.specs.Truth.{is_true}
use Rattle.moo_syntax_ast.specs.Tree.{Block}
use Rattle.moo_syntax_ast.specs.Listing.{listing}
use Rattle.moo_unparse.specs.Listings.{indented_listing, short_listing}
use Rattle.moo_world_object.specs.declared.verb.Verb.{Verb}
use Rattle.moo_world_table.specs.World.{World}
use Rattle.moo_builtin_world.specs.Verbs.{chosen, on_verb, told_of_verb}

-- the full listing or the short one, with indents or without them
abbrev pub listed : (full indents : Bool) → Block → List (List ℕ)
listed true true b = indented_listing b
listed true false b = listing b
listed false indents b = short_listing indents b

-- of no program no line
abbrev pub code_lines : (full indents : Bool) → Option Block → List (List ℕ)
code_lines full indents None = []
code_lines full indents (Some b) = listed full indents b

abbrev pub code_of_verb : (full indents : Bool) → Verb → Tree
code_of_verb full indents v = list_of (map (λ line. string line) (code_lines full indents v.program))

-- the list is E_QUOTA past the limits, and so if a line is too long for a string
unfoldable pub chosen_code : World → ℤ → ℤ → Tree → (full indents : Bool) → Result Tree ErrorCode
chosen_code w p o t full indents = on_verb (chosen w o t) (told_of_verb w p o (code_of_verb full indents))

-- the short listing, unless the third argument is true, with indents, unless the fourth is false
abbrev pub verb_code : World → ℤ → List Tree → Result Tree ErrorCode
verb_code w p (object o ∷ t ∷ []) = chosen_code w p o t false true
verb_code w p (object o ∷ t ∷ full ∷ []) = chosen_code w p o t (is_true full) true
verb_code w p (object o ∷ t ∷ full ∷ indents ∷ []) = chosen_code w p o t (is_true full) (is_true indents)
verb_code w p _ = Err TypeMismatch
