-- Assignments to properties, and scatters.
use Rattle.std.proofs.Common.{◌≡◌, ◌<◌, ◌-◌, ℕ, ℤ, List, [], ◌∷◌, Option, Result, Ok, Err, arith, refl, sym, ap, ◌∙◌}
use Rattle.moo_value.specs.declared.error_code.ErrorCode.{ErrorCode}
use Rattle.moo_value.specs.Tree.{Tree, object, string}
use Rattle.moo_world_table.specs.World.{World}
use Rattle.moo_world.specs.ByRight.{IsReadable}
use Rattle.moo_syntax_ast.specs.declared.tree.Literal.TheVariants.{Str}
use Rattle.moo_syntax_ast.specs.Tree.{Expr, Items, literal, list, property, assign}
use Rattle.moo_syntax_node.specs.Blocks.{named_items}
use Rattle.moo_eval_frame.specs.Outcome.{Stop, Failure, stops, fails, answers}
use Rattle.moo_eval_control.specs.Scatter.{lacking, given}
use Rattle.moo_eval_control.specs.Scatter as scatter
use Rattle.moo_eval_frame.specs.State.{Context}
use Rattle.moo_eval_access.specs.Calls.{read_property}
use Rattle.moo_eval_access.specs.State.{State, ticked, bound}
use Rattle.moo_eval_access.specs.Target.{owned, scattered}
use Rattle.moo_eval_semantics.specs.Operands.{with_value}
use Rattle.moo_builtin.specs.Telling.{Telling, Faults}
use Rattle.moo_eval_task.specs.Leaves.{GivesLeaf}
use Rattle.moo_eval_task.proofs.Direct.{literal_read}
use Rattle.moo_eval_semantics.specs.Meaning.{Evaluates, Computes, Puts, begins, property_is, applies, no_more, element_stops, element_then, assign_is, target_ends, value_stops, assigns, root_ends, locates, parts_end, finds, inside, stores, scatter_fails, scatters, none_missing}

-- the object, the name and the value are evaluated, then the property is set or not
pub put : {T : Telling} {c : Context} {b n e : Expr} {s s1 s2 s3 t : State} {x y v : Tree} {o : Result (Unit {0}) Failure} {r : Result Tree Failure} → Evaluates T c b s (Ok x) s1 → Evaluates T c n s1 (Ok y) s2 → Evaluates T c e s2 (Ok v) s3 → Puts T c (owned x y) v s3 o t → with_value v o ≡ r → Computes T c (assign (property b n) e) s r t
put d g h p q = applies no_more no_more (assign_is (assigns (locates (finds (element_then d (element_then g no_more refl) refl) refl) inside) h (stores refl p) q))

-- the object stops
pub object_stops : {T : Telling} {c : Context} {b n e : Expr} {s s1 : State} {stop : Stop} → Evaluates T c b s (Err stop) s1 → Computes T c (assign (property b n) e) s (Err (stops stop)) s1
object_stops d = applies no_more no_more (assign_is (target_ends (root_ends (parts_end (element_stops d)))))

-- the name stops
pub name_stops : {T : Telling} {c : Context} {b n e : Expr} {s s1 s2 : State} {x : Tree} {stop : Stop} → Evaluates T c b s (Ok x) s1 → Evaluates T c n s1 (Err stop) s2 → Computes T c (assign (property b n) e) s (Err (stops stop)) s2
name_stops d g = applies no_more no_more (assign_is (target_ends (root_ends (parts_end (element_then d (element_stops g) refl)))))

-- the value stops
pub value_stops_put : {T : Telling} {c : Context} {b n e : Expr} {s s1 s2 s3 : State} {x y : Tree} {stop : Stop} → Evaluates T c b s (Ok x) s1 → Evaluates T c n s1 (Ok y) s2 → Evaluates T c e s2 (Err stop) s3 → Computes T c (assign (property b n) e) s (Err (stops stop)) s3
value_stops_put d g h = applies no_more no_more (assign_is (value_stops (locates (finds (element_then d (element_then g no_more refl) refl) refl) inside) h))

-- the value is evaluated, then its elements are dealt to the names
pub dealt : {T : Telling} {c : Context} {items : Items} {e : Expr} {s s1 t : State} {v : Tree} {o : Result (Unit {0}) Failure} {r : Result Tree Failure} → Evaluates T c e s (Ok v) s1 → Puts T c (scattered items) v s1 o t → with_value v o ≡ r → Computes T c (assign (list items) e) s r t
dealt d p q = applies no_more no_more (assign_is (assigns (locates (finds no_more refl) inside) d (stores refl p) q))

-- the value stops
pub undealt : {T : Telling} {c : Context} {items : Items} {e : Expr} {s s1 : State} {stop : Stop} → Evaluates T c e s (Err stop) s1 → Computes T c (assign (list items) e) s (Err (stops stop)) s1
undealt d = applies no_more no_more (assign_is (value_stops (locates (finds no_more refl) inside) d))

-- Names alone have no defaults.
none_lacking : (names : List (List ℕ)) (spare : ℕ) → lacking (named_items names) spare ≡ []
none_lacking [] spare = refl
none_lacking (x ∷ names) spare = none_lacking names spare

-- the elements of a list are dealt to names alone
pub names_set : {T : Telling} {c : Context} {s t : State} {v : Tree} {vs : List Tree} (names : List (List ℕ)) → scatter.dealt (named_items names) v ≡ Ok vs → bound (given (named_items names) vs) s ≡ t → Puts T c (scattered (named_items names)) v s (Ok tt) t
names_set names d sets = scatters (ap answers d) sets (rw (none_lacking names) none_missing)

-- what can't be dealt sets no name
pub names_kept : {T : Telling} {c : Context} {s t : State} {items : Items} {v : Tree} {code : ErrorCode} {failure : Failure} → scatter.dealt items v ≡ Err code → failure ≡ fails code → t ≡ s → Puts T c (scattered items) v s (Err failure) t
names_kept d f e = rw e (scatter_fails (ap answers d ∙ ap Err (sym f)))

-- a property of an object in a variable or of a literal one, after the tick of the expression itself
pub property_computed : (variables : List ℕ → Option Tree) {c : Context} {s : State} {b : Expr} {x : Tree} {o : Result Tree Failure} (name : List ℕ) → GivesLeaf variables b x → answers (read_property s.world s.programmer x (string name)) ≡ o → s.variables ≡ variables → 1 < s.ticks → Computes Faults c (property b (literal (Str name))) s o (record s { ticks = s.ticks - 2 })
property_computed variables {c = c} {s = s} name f g e z =
    let t : s.ticks - 2 ≡ s.ticks - 1 - 1 = omega arith in
    rw t (applies (element_then (f c s e (omega (arith, z))) (element_then {s = ticked s} (literal_read (omega (arith, z))) no_more refl) refl) no_more (property_is g))

-- the expression with all its ticks
pub property_read : (variables : List ℕ → Option Tree) {c : Context} {s : State} {b : Expr} {x v : Tree} (name : List ℕ) → GivesLeaf variables b x → read_property s.world s.programmer x (string name) ≡ Ok v → s.variables ≡ variables → 2 < s.ticks → Evaluates Faults c (property b (literal (Str name))) s (Ok v) (record s { ticks = s.ticks - 3 })
property_read variables {s = s} name f g e z =
    let t : s.ticks - 3 ≡ s.ticks - 1 - 2 = omega arith in
    rw t (begins {s = s} (omega (arith, z)) (property_computed variables {s = ticked s} name f (ap answers g) e (omega (arith, z))) refl)

-- a property that the programmer may read
pub readable : {w : World} {p o : ℤ} {name : List ℕ} {v : Tree} → IsReadable w p o name v → read_property w p (object o) (string name) ≡ Ok v
readable h = rw (h.raises, h.right, h.value) refl
