-- Operators between expressions without parts.
use Rattle.std.proofs.Common.{Bool, true, false, ◌≡◌, ◌≤◌, ◌-◌, ℕ, List, Option, Ok, refl, ap, arith}
use Rattle.moo_value.specs.Tree.{Tree}
use Rattle.moo_syntax_ast.specs.declared.operator.BinaryOperator.{BinaryOperator}
use Rattle.moo_syntax_ast.specs.Tree.{Expr, binary}
use Rattle.moo_builtin_operator.specs.Operators.{binary_of}
use Rattle.moo_builtin_operator.specs.Truth.{is_true, truth_value}
use Rattle.moo_eval_frame.specs.Outcome.{answers}
use Rattle.moo_eval_frame.specs.State.{Context}
use Rattle.moo_eval_access.specs.State.{State, ticked}
use Rattle.moo_builtin.specs.Telling.{Faults}
use Rattle.moo_eval_task.specs.Leaves.{GivesLeaf}
use Rattle.moo_eval_semantics.specs.Meaning.{Evaluates, begins, applies, no_more, element_then, binary_is}

-- an operator takes a tick, and each operand one more
pub compared : (variables : List ℕ → Option Tree) {c : Context} {s : State} {op : BinaryOperator} {a b : Expr} {u v w : Tree} (left : ℕ) → GivesLeaf variables a u → GivesLeaf variables b v → binary_of op u v ≡ Ok w → s.variables ≡ variables → 3 ≤ s.ticks → left ≡ s.ticks - 3 → Evaluates Faults c (binary op a b) s (Ok w) (record s { ticks = left })
compared variables {c = c} {s = s} left f g h e z l =
    let t : left ≡ s.ticks - 1 - 1 - 1 = omega (arith, l) in
    rw t (begins {s = s} (omega (arith, z)) (applies (element_then (f c (ticked s) e (omega (arith, z))) (element_then (g c (ticked (ticked s)) e (omega (arith, z))) no_more refl) refl) no_more (binary_is (ap answers h))) refl)

-- the result of a test counts as true if the test passes
pub truth_told : (b : Bool) → is_true (truth_value b) ≡ b
truth_told true = refl
truth_told false = refl
