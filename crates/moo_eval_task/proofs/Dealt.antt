-- Elements of `args` that names are set to at once.
use Rattle.std.proofs.Common.{◌≡◌, ◌<◌, ◌-◌, ℕ, ℤ, List, Option, Ok, refl, sym, arith}
use Rattle.moo_value.specs.Tree.{Tree, list_of}
use Rattle.moo_syntax_ast.specs.Tree.{Expr, list, assign, performs}
use Rattle.moo_syntax_node.specs.Blocks.{named_items}
use Rattle.moo_eval_frame.specs.Outcome.{next}
use Rattle.moo_eval_control.specs.Scatter.{dealt, given}
use Rattle.moo_eval_frame.specs.State.{Context}
use Rattle.moo_eval_frame.specs.Variables.{with_all}
use Rattle.moo_eval_access.specs.State.{State, ticked}
use Rattle.moo_builtin.specs.Telling.{Faults}
use Rattle.moo_eval_integer.specs.Integers.{with_ticks}
use Rattle.moo_eval_semantics.specs.Meaning.{Does}
use Rattle.moo_eval_task.specs.Leaves.{GivesLeaf}
use Rattle.moo_eval_task.proofs.Direct.{performed}
use Rattle.moo_eval_task.proofs.Exits.{same_state}
use Rattle.moo_eval_task.proofs.Properties as property

-- the elements of a list that an expression without parts gives
pub dealt_at_once : {e : Expr} {n m : ℕ} {vs : List Tree} {after : List ℕ → Option Tree} {programmer : ℤ} (names : List (List ℕ)) (c : Context) (s : State) → s.programmer ≡ programmer → 1 < n → m ≡ n - 1 - 1 → GivesLeaf s.variables e (list_of vs) → dealt (named_items names) (list_of vs) ≡ Ok vs → after ≡ with_all s.variables (given (named_items names) vs) → Does Faults c (performs (assign (list (named_items names)) e)) (with_ticks n s) (Ok next) (record { ticks = m; world = s.world; variables = after; programmer = programmer; notices = s.notices })
dealt_at_once {n = n} names c s same z left leaf d sets =
    rw left (performed (omega (arith, z)) (property.dealt (leaf c (ticked (with_ticks n s)) refl (omega (arith, z))) (property.names_set names d (same_state (sym sets) same)) refl))
