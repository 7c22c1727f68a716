-- The values of names.
use Rattle.std.specs.Prelude.{ℕ, List, Option, Some, option_map, if◌then◌else◌}
use Rattle.std.specs.List.{find}
use Rattle.std.specs.Str.{bytes_eq}
use Rattle.moo_value.specs.Tree.{Tree}
use Rattle.moo_value.specs.Compare.{folded}

-- a name and its value
pub record Binding : Type 0 where
  pub name : List ℕ
  pub value : Tree

abbrev pub bind : List ℕ → Tree → Binding
bind name value = record { name = name; value = value }

-- the value that a folded name has
abbrev pub value_of_name : List Binding → List ℕ → Option Tree
value_of_name bindings name = option_map (λ b. b.value) (find (λ b. bytes_eq (folded b.name) name) bindings)

-- the variables with this one set
abbrev pub with_variable : (List ℕ → Option Tree) → Binding → List ℕ → Option Tree
with_variable variables b name = if bytes_eq (folded b.name) name then Some b.value else variables name
