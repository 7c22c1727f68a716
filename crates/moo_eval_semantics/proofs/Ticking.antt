-- What begins takes a tick, and without one it comes to nothing.
use Rattle.std.proofs.Common.{◌≡◌, ℕ, ◌<◌, List, Option, Some, Result, Err, refl, arith}
use Rattle.moo_value.specs.Tree.{Tree}
use Rattle.moo_syntax_ast.specs.Tree.{Expr, Stmt, Block}
use Rattle.moo_eval_frame.specs.Outcome.{Stop, out_of_ticks, Flow}
use Rattle.moo_eval_slot.specs.Bindings.{Binding}
use Rattle.moo_eval_frame.specs.State.{Context}
use Rattle.moo_eval_access.specs.State.{State, ticked, trace}
use Rattle.moo_builtin.specs.Telling.{Telling}
use Rattle.moo_eval_semantics.specs.Later.{Later}
use Rattle.moo_eval_semantics.proofs.CallOnward.{kept, later_twice, moves}
use Rattle.moo_eval_semantics.specs.Meaning.{Evaluates, Runs, Turns, spent, begins, statement_spent, statement_begins, turn_spent, turns}
use Rattle.moo_eval_semantics.proofs.Onward.{later_computed, later_done, later_block}

pub tick_of_expression : (T : Telling) {c : Context} {e : Expr} {s s' : State} {o : Result Tree Stop} → Evaluates T c e s o s' → 0 < s.ticks → s'.ticks < s.ticks
tick_of_expression T (spent z) h = absurd (omega (arith, z, h))
tick_of_expression T (begins {s = s} z d f) h = let l = later_computed T d in omega (arith, z, l.ticks)

pub tick_of_statement : (T : Telling) {c : Context} {t : Stmt} {s s' : State} {o : Result Flow Stop} → Runs T c t s o s' → 0 < s.ticks → s'.ticks < s.ticks
tick_of_statement T (statement_spent z) h = absurd (omega (arith, z, h))
tick_of_statement T (statement_begins {s = s} z d) h = let l = later_done T d in omega (arith, z, l.ticks)

pub tick_of_turn : (T : Telling) {c : Context} {own : Option (List ℕ)} {bindings : List Binding} {b : Block} {s s' : State} {o : Option (Result Flow Stop)} → Turns T c own bindings b s o s' → 0 < s.ticks → s'.ticks < s.ticks
tick_of_turn T (turn_spent z) h = absurd (omega (arith, z, h))
tick_of_turn T (turns {s = s} {s'' = u} z e a g) h = let l : Later (ticked s) u = later_twice (moves e (kept refl refl)) (later_block T a) in omega (arith, z, l.ticks)

pub spent_expression : (T : Telling) {c : Context} {e : Expr} {s s' : State} {o : Result Tree Stop} → Evaluates T c e s o s' → s.ticks ≡ 0 → (o ≡ Err (out_of_ticks (trace c s))) × (s' ≡ s)
spent_expression T (spent z) h = (refl, refl)
spent_expression T (begins z d f) h = absurd (omega (arith, z, h))

pub spent_statement : (T : Telling) {c : Context} {t : Stmt} {s s' : State} {o : Result Flow Stop} → Runs T c t s o s' → s.ticks ≡ 0 → (o ≡ Err (out_of_ticks (trace c s))) × (s' ≡ s)
spent_statement T (statement_spent z) h = (refl, refl)
spent_statement T (statement_begins z d) h = absurd (omega (arith, z, h))

pub spent_turn : (T : Telling) {c : Context} {own : Option (List ℕ)} {bindings : List Binding} {b : Block} {s s' : State} {o : Option (Result Flow Stop)} → Turns T c own bindings b s o s' → s.ticks ≡ 0 → (o ≡ Some (Err (out_of_ticks (trace c s)))) × (s' ≡ s)
spent_turn T (turn_spent z) h = (refl, refl)
spent_turn T (turns z e a g) h = absurd (omega (arith, z, h))
