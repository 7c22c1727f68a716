-- The checks before a function reads its arguments.
use Rattle.std.specs.Prelude.{ℕ, ◌+◌, ℤ, Bool, true, false, not, ◌&&◌, ◌||◌, nat_le, List, [], ◌∷◌, ◌++◌, length, Option, None, Some, is_some, unwrap_or, slice_get, if◌then◌else◌}
use Rattle.moo_value.specs.declared.error_code.ErrorCode.{ErrorCode}
use Rattle.moo_value.specs.declared.error_code.ErrorCode.TheVariants.{Arguments, TypeMismatch, InvalidArgument}
use Rattle.moo_value.specs.Tree.{Tree, integer, object, error, string, list, trees_of}
use Rattle.moo_syntax_function.specs.declared.table.Row.{Row as RowGiven}
use Rattle.moo_syntax_function.specs.declared.table.Kind.{Kind}
use Rattle.moo_syntax_function.specs.declared.table.Kind.TheVariants.{Any, Integer, Error, Text, List as ListOf, TextOrList, ValidObject, AnyObject, Verb, PropertyInfo, PropertyChange, VerbInfo, VerbArguments, Lines}
use Rattle.moo_syntax_function.specs.Table.{Row}

-- a row of the table, as the program holds it
abbrev pub seen : RowGiven → Row
seen r = record { name = r.name.now; needed = r.needed.now; optional = r.optional.now; more = r.more }

-- the number of arguments is allowed
abbrev pub is_count : Row → ℕ → Bool
is_count row n = nat_le (length row.needed) n && (is_some row.more || nat_le n (length row.needed + length row.optional))

-- the kind of the argument at a place
abbrev pub kind_at : Row → ℕ → Kind
kind_at row place = unwrap_or (slice_get (row.needed ++ row.optional) place) (unwrap_or row.more Any)

-- {owner, perms}
abbrev pub is_property_info : List Tree → Bool
is_property_info (object owner ∷ string perms ∷ []) = true
is_property_info _ = false

-- {owner, perms, text}
abbrev pub is_verb_info : List Tree → Bool
is_verb_info (object owner ∷ string perms ∷ string text ∷ []) = true
is_verb_info _ = false

-- {dobj, prep, iobj}
abbrev pub is_verb_arguments : List Tree → Bool
is_verb_arguments (string dobj ∷ string prep ∷ string iobj ∷ []) = true
is_verb_arguments _ = false

-- strings alone
abbrev pub are_lines : List Tree → Bool
are_lines [] = true
are_lines (string line ∷ ts) = are_lines ts
are_lines _ = false

-- the value has this kind
abbrev pub fits : Kind → Tree → Bool
fits Any t = true
fits Integer (integer i) = true
fits Error (error e) = true
fits Text (string s) = true
fits ListOf (list es) = true
fits TextOrList (string s) = true
fits TextOrList (list es) = true
fits ValidObject (object o) = true
fits AnyObject (object o) = true
fits Verb (string s) = true
fits Verb (integer i) = true
fits PropertyInfo (list es) = is_property_info (trees_of es)
fits PropertyChange (list es) = is_property_info (trees_of es) || is_verb_info (trees_of es)
fits VerbInfo (list es) = is_verb_info (trees_of es)
fits VerbArguments (list es) = is_verb_arguments (trees_of es)
fits Lines (list es) = are_lines (trees_of es)
fits _ _ = false

-- an object that has to be valid is valid
abbrev pub names_valid : (ℤ → Bool) → Kind → Tree → Bool
names_valid valid ValidObject (object o) = valid o
names_valid valid _ _ = true

-- the test holds of each argument, at its place
abbrev pub holds_from : (ℕ → Tree → Bool) → ℕ → List Tree → Bool
holds_from test place [] = true
holds_from test place (t ∷ ts) = test place t && holds_from test (place + 1) ts

abbrev pub all_fit : Row → List Tree → Bool
all_fit row args = holds_from (λ place t. fits (kind_at row place) t) 0 args

abbrev pub all_valid : (ℤ → Bool) → Row → List Tree → Bool
all_valid valid row args = holds_from (λ place t. names_valid valid (kind_at row place) t) 0 args

-- the error for the number of arguments or their types, in this order
abbrev pub mismatch : Row → List Tree → Option ErrorCode
mismatch row args =
    if not (is_count row (length args)) then Some Arguments
    else if not (all_fit row args) then Some TypeMismatch
    else None

-- `mismatch`, or else the error for an object that is not valid
abbrev pub refusal : (ℤ → Bool) → Row → List Tree → Option ErrorCode
refusal valid row args =
    if is_some (mismatch row args) then mismatch row args
    else if not (all_valid valid row args) then Some InvalidArgument
    else None
