-- Expressions that give integers.
use Rattle.std.specs.Prelude.{◌≡◌, ◌-◌, ◌<◌, ℕ, ℤ, List, Option, Ok}
use Rattle.moo_value.specs.Tree.{Tree, integer}
use Rattle.moo_syntax_ast.specs.Tree.{Expr}
use Rattle.moo_builtin.specs.Telling.{Faults}
use Rattle.moo_eval_frame.specs.State.{Context}
use Rattle.moo_eval_access.specs.State.{State}
use Rattle.moo_eval_semantics.specs.Meaning.{Evaluates}

-- the state with so many ticks
abbrev pub with_ticks : ℕ → State → State
with_ticks n s = record s { ticks = n }

-- With these variables an expression gives this value in every state, and changes nothing but the ticks. So many ticks
-- are left before and after it.
abbrev pub GivesValue : (List ℕ → Option Tree) → ℕ → Expr → Tree → ℕ → Type 0
GivesValue variables n e v m = (c : Context) (s : State) → s.variables ≡ variables → Evaluates Faults c e (with_ticks n s) (Ok v) (with_ticks m s)

-- it gives this integer
abbrev pub GivesInteger : (List ℕ → Option Tree) → ℕ → Expr → ℤ → ℕ → Type 0
GivesInteger variables n e i m = GivesValue variables n e (integer i) m

-- it gives this value and takes one tick, if one is left
abbrev pub GivesLeafValue : (List ℕ → Option Tree) → Expr → Tree → Type 0
GivesLeafValue variables e v = (n m : ℕ) → (0 < n) × (m ≡ n - 1) → GivesValue variables n e v m

-- it gives this integer and takes one tick, if one is left
abbrev pub GivesLeafInteger : (List ℕ → Option Tree) → Expr → ℤ → Type 0
GivesLeafInteger variables e i = GivesLeafValue variables e (integer i)
