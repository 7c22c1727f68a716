-- Calls of verbs on objects that are read at once.
use Rattle.std.proofs.Common.{◌≡◌, ◌<◌, ◌-◌, ℕ, List, [], ◌∷◌, Option, Result, arith, refl}
use Rattle.moo_value.specs.Tree.{Tree, string}
use Rattle.moo_syntax_ast.specs.declared.tree.Literal.TheVariants.{Str}
use Rattle.moo_syntax_ast.specs.Tree.{Expr, Items, literal, element}
use Rattle.moo_eval_frame.specs.Outcome.{Failure}
use Rattle.moo_eval_frame.specs.State.{Context}
use Rattle.moo_eval_access.specs.State.{State, ticked}
use Rattle.moo_builtin.specs.Telling.{Faults}
use Rattle.moo_eval_semantics.specs.Operands.{before}
use Rattle.moo_eval_semantics.specs.Meaning.{EvaluatesAll, element_then}
use Rattle.moo_eval_task.specs.Leaves.{GivesLeaf}
use Rattle.moo_eval_task.proofs.Direct.{literal_read}

-- an object that is read at once and a literal name come before the arguments
pub named : (variables : List ℕ → Option Tree) {c : Context} {s t : State} {b : Expr} {x : Tree} {items : Items} {o : Result (List Tree) Failure} (name : List ℕ) → GivesLeaf variables b x → s.variables ≡ variables → 1 < s.ticks → EvaluatesAll Faults c items (record s { ticks = s.ticks - 2 }) o t → EvaluatesAll Faults c (element b (element (literal (Str name)) items)) s (before (x ∷ []) (before (string name ∷ []) o)) t
named variables {c = c} {s = s} name f e z h =
    let n : s.ticks - 2 ≡ s.ticks - 1 - 1 = omega arith in
    element_then (f c s e (omega (arith, z))) (element_then {s = ticked s} (literal_read (omega (arith, z))) (rw n at h) refl) refl
