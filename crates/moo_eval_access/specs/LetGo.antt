-- A variable whose value is about to be replaced, for private clauses alone.
use Rattle.std.specs.Prelude.{◌≡◌, ℕ, List, Option, Result, Ok}
use Rattle.moo_value.specs.declared.error_code.ErrorCode.{ErrorCode}
use Rattle.moo_value.specs.Tree.{Tree}
use Rattle.moo_eval_slot.specs.Bindings.{bind, with_variable}

-- the variables are as they were, or another value replaces that of this name, if the new value can be stored
pub data IsLetGo (before : List ℕ → Option Tree) (name : List ℕ) (whole : Result Tree ErrorCode) (after : List ℕ → Option Tree) : Type 0 where
  kept : after ≡ before → IsLetGo before name whole after
  let_go : (w v : Tree) → whole ≡ Ok w → after ≡ with_variable before (bind name v) → IsLetGo before name whole after
