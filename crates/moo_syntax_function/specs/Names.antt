-- The function that a name calls.
use Rattle.std.specs.Prelude.{ℕ, Bool, ◌==◌, List, Option, length, filter, find}
use Rattle.std.specs.Str.{bytes_eq}
use Rattle.moo_value.specs.Compare.{folded}
use Rattle.moo_syntax_function.specs.declared.function.Function.{Function}
use Rattle.moo_syntax_function.specs.Table.{function_name, all_functions}

-- the name, in lower case, is the function's
abbrev pub is_called : List ℕ → Function → Bool
is_called name f = bytes_eq (function_name f) (folded name)

-- the function that a name calls, in any case
unfoldable pub function_of : List ℕ → Option Function
function_of name = find (is_called name) all_functions

-- the functions whose names have this length
abbrev pub of_length : ℕ → List Function
of_length count = filter (λ f. length (function_name f) == count) all_functions
