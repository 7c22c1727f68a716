-- The meaning of the program's scatters.
use Rattle.std.specs.Prelude.{ℕ, List, [], ◌∷◌, Option, Some, None}
use Rattle.std.specs.Borrow.{Bor}
use Rattle.moo_value.specs.declared.value.Value.{Value}
use Rattle.moo_value.specs.View.{tree}
use Rattle.moo_syntax_node.specs.Source.{source}
use Rattle.moo_eval_slot.specs.Bindings.{Binding, bind}
use Rattle.moo_eval_control.specs.declared.scatter.LeftOut as code_left_out
use Rattle.moo_eval_control.specs.Scatter.{LeftOut}

abbrev pub left_out_of : code_left_out.LeftOut → LeftOut
left_out_of d = record { name = d.name.now; value = source d.value.now }

abbrev pub left_out_by : Option code_left_out.LeftOut → List LeftOut
left_out_by None = []
left_out_by (Some d) = left_out_of d ∷ []

-- a name and its value, if there is one
abbrev pub share_of : Option (Bor (List ℕ) × Value) → List Binding
share_of None = []
share_of (Some p) = bind p.0.now (tree p.1) ∷ []
