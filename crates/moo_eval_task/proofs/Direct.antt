-- Expressions without parts, and assignments to variables.
use Rattle.std.proofs.Common.{◌≡◌, ◌<◌, List, [], ◌∷◌, ℕ, Result, Ok, Err, refl}
use Rattle.moo_value.specs.declared.error_code.ErrorCode.TheVariants.{VariableNotFound}
use Rattle.moo_value.specs.Tree.{Tree}
use Rattle.moo_value.specs.Compare.{folded}
use Rattle.moo_syntax_ast.specs.declared.tree.Literal.{Literal}
use Rattle.moo_syntax_ast.specs.Tree.{Expr, literal, literal_value, variable, assign, performs}
use Rattle.moo_eval_slot.specs.Bindings.{bind}
use Rattle.moo_eval_frame.specs.Outcome.{Stop, Failure, stops, next, or_error, answers, settled}
use Rattle.moo_eval_frame.specs.State.{Context}
use Rattle.moo_eval_access.specs.State.{State, ticked, bound, trace}
use Rattle.moo_builtin.specs.Telling.{Telling}
use Rattle.moo_eval_semantics.specs.Meaning.{Evaluates, Computes, Does, begins, applies, no_more, literal_is, variable_is, assign_is, value_stops, assigns, locates, finds, inside, stores, puts_variable, evaluates}

-- a variable takes a tick
pub variable_read : {T : Telling} {c : Context} {name : List ℕ} {s : State} {o : Result Tree Failure} {r : Result Tree Stop} → 0 < s.ticks → answers (or_error (s.variables (folded name)) VariableNotFound) ≡ o → settled c.frame.d (trace c (ticked s)) o ≡ r → Evaluates T c (variable name) s r (ticked s)
variable_read z f g = begins z (applies no_more no_more (variable_is f)) g

-- a literal takes a tick and gives its value
pub literal_read : {T : Telling} {c : Context} {l : Literal} {s : State} → 0 < s.ticks → Evaluates T c (literal l) s (Ok (literal_value l)) (ticked s)
literal_read z = begins z (applies no_more no_more literal_is) refl

-- a variable is set to the value
pub assigned : {T : Telling} {c : Context} {x : List ℕ} {e : Expr} {s s' s'' : State} {v : Tree} → Evaluates T c e s (Ok v) s' → bound (bind x v ∷ []) s' ≡ s'' → Computes T c (assign (variable x) e) s (Ok v) s''
assigned d f = applies no_more no_more (assign_is (assigns (locates (finds no_more refl) inside) d (stores refl (puts_variable f)) refl))

-- if the value stops, nothing is set
pub unassigned : {T : Telling} {c : Context} {x : List ℕ} {e : Expr} {s s' : State} {stop : Stop} → Evaluates T c e s (Err stop) s' → Computes T c (assign (variable x) e) s (Err (stops stop)) s'
unassigned d = applies no_more no_more (assign_is (value_stops (locates (finds no_more refl) inside) d))

-- an expression as a statement, by what it computes
pub performed : {T : Telling} {c : Context} {e : Expr} {s s' : State} {v : Tree} → 0 < s.ticks → Computes T c e (ticked s) (Ok v) s' → Does T c (performs e) s (Ok next) s'
performed z d = evaluates (begins z d refl) refl

pub unperformed : {T : Telling} {c : Context} {e : Expr} {s s' : State} {stop : Stop} → 0 < s.ticks → Computes T c e (ticked s) (Err (stops stop)) s' → Does T c (performs e) s (Err stop) s'
unperformed z d = evaluates (begins z d refl) refl
