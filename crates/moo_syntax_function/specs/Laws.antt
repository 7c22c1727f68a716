-- Laws of the table of functions.
use Rattle.std.specs.Prelude.{◌≡◌, ◌↔◌, ℕ, List, Some}
use Rattle.moo_value.specs.Compare.{folded}
use Rattle.moo_syntax_function.specs.declared.function.Function.{Function}
use Rattle.moo_syntax_function.specs.Table.{function_name}
use Rattle.moo_syntax_function.specs.Names.{function_of}

-- A name calls a function exactly if, in lower case, it is that function's name. So each function can be called, and no
-- two have the same name.
abbrev pub CallsByName : Type 0
CallsByName = (name : List ℕ) (f : Function) → (function_of name ≡ Some f) ↔ (folded name ≡ function_name f)
