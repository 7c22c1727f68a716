-- Lists that grow in their variable.
use Rattle.std.proofs.Common.{◌≡◌, ℕ, ℤ, ◌<◌, ◌-◌, List, [], ◌∷◌, ◌++◌, Option, Some, Result, Ok, Err, refl, sym, ap, arith}
use Rattle.moo_value.specs.Tree.{Tree, list_of}
use Rattle.moo_value.specs.View.{tree}
use Rattle.moo_value.specs.declared.value.Value.{Value}
use Rattle.moo_value.specs.declared.value.Value.TheVariants.{Int, Obj, Err as ErrorOf, Str, List as ListOf}
use Rattle.moo_value.specs.Compare.{folded}
use Rattle.moo_value.specs.Size.{IsWithinLimits}
use Rattle.moo_value.specs.TreeCode.{trees_of-elements_of}
use Rattle.moo_syntax_ast.specs.Tree as program
use Rattle.moo_syntax_ast.specs.Tree.{Expr, Items, variable, splice, element, no_items, assign, performs}
use Rattle.moo_builtin_operator.specs.Places.{made_list, spliced_of}
use Rattle.moo_builtin_operator.proofs.Lawful.{limited_within}
use Rattle.moo_eval_slot.specs.Bindings.{bind, with_variable}
use Rattle.moo_eval_frame.specs.Outcome.{Stop, Failure, stops, fails, next, or_error, answers, settled}
use Rattle.moo_eval_frame.specs.State.{Context}
use Rattle.moo_eval_access.specs.State.{State, ticked, bound, trace}
use Rattle.moo_builtin.specs.Telling.{Telling, Faults}
use Rattle.moo_eval_integer.specs.Integers.{with_ticks, GivesValue}
use Rattle.moo_value.specs.declared.error_code.ErrorCode.TheVariants.{TypeMismatch, VariableNotFound}
use Rattle.moo_eval_task.specs.SetTo.{IsSetTo}
use Rattle.moo_eval_semantics.specs.Meaning.{Evaluates, EvaluatesAll, Computes, Does, begins, applies, operands_end, no_more, element_stops, element_then, splice_stops, splice_fails, splice_then, list_is}
use Rattle.moo_eval_task.proofs.Direct.{variable_read, assigned, unassigned, performed, unperformed}
use Rattle.moo_eval_task.proofs.Exits.{same_state}

-- the elements of a list with one more after them
pub longer : {T : Telling} {c : Context} {a e : Expr} {s s1 s2 : State} {v w : Tree} (vs : List Tree) → Evaluates T c a s (Ok (list_of vs)) s1 → Evaluates T c e s1 (Ok v) s2 → made_list (vs ++ v ∷ []) ≡ Ok w → Computes T c (program.list (splice a (element e no_items))) s (Ok w) s2
longer vs d g made = applies (splice_then d (ap Ok (trees_of-elements_of vs)) (element_then g no_more refl) refl) no_more (list_is (ap answers made))

pub lengthened : {T : Telling} {c : Context} {x : List ℕ} {e : Expr} {s s1 s2 t : State} {v w : Tree} (vs : List Tree) → Evaluates T c (variable x) s (Ok (list_of vs)) s1 → Evaluates T c e s1 (Ok v) s2 → made_list (vs ++ v ∷ []) ≡ Ok w → bound (bind x w ∷ []) s2 ≡ t → IsSetTo T c x (program.list (splice (variable x) (element e no_items))) s t
lengthened {s2 = s2} {w = w} vs d g made sets = record {
  value = w;
  between = s2;
  computes = longer vs d g made;
  sets = sets;
}

-- past the limits
pub too_long : {T : Telling} {c : Context} {a e : Expr} {s s1 s2 : State} {v : Tree} {failure : Failure} (vs : List Tree) → Evaluates T c a s (Ok (list_of vs)) s1 → Evaluates T c e s1 (Ok v) s2 → answers (made_list (vs ++ v ∷ [])) ≡ Err failure → Computes T c (program.list (splice a (element e no_items))) s (Err failure) s2
too_long vs d g made = applies (splice_then d (ap Ok (trees_of-elements_of vs)) (element_then g no_more refl) refl) no_more (list_is made)

-- the first part stops
pub first_stops : {T : Telling} {c : Context} {a e : Expr} {s s' : State} {stop : Stop} → Evaluates T c a s (Err stop) s' → Computes T c (program.list (splice a (element e no_items))) s (Err (stops stop)) s'
first_stops d = operands_end (splice_stops d)

-- the first part is no list
pub unspliced : (v : Value) → ((l : List Tree) → v ≡ ListOf l → ⊥) → answers (spliced_of (tree v)) ≡ Err (fails TypeMismatch)
unspliced (Int i) h = refl
unspliced (Obj o) h = refl
unspliced (ErrorOf e) h = refl
unspliced (Str s) h = refl
unspliced (ListOf l) h = absurd (h l refl)

pub first_fails : {T : Telling} {c : Context} {a e : Expr} {s s' : State} {v : Tree} {failure : Failure} → Evaluates T c a s (Ok v) s' → answers (spliced_of v) ≡ Err failure → Computes T c (program.list (splice a (element e no_items))) s (Err failure) s'
first_fails d f = operands_end (splice_fails d f)

-- the second part stops
pub second_stops : {T : Telling} {c : Context} {a e : Expr} {s s1 s' : State} {stop : Stop} (vs : List Tree) → Evaluates T c a s (Ok (list_of vs)) s1 → Evaluates T c e s1 (Err stop) s' → Computes T c (program.list (splice a (element e no_items))) s (Err (stops stop)) s'
second_stops vs d g = operands_end (splice_then d (ap Ok (trees_of-elements_of vs)) (element_stops g) refl)

-- the elements of a list, and the values of further items after them
pub longer_all : {T : Telling} {c : Context} {a : Expr} {items : Items} {s s1 s2 : State} {us : List Tree} {w : Tree} (vs : List Tree) → Evaluates T c a s (Ok (list_of vs)) s1 → EvaluatesAll T c items s1 (Ok us) s2 → made_list (vs ++ us) ≡ Ok w → Computes T c (program.list (splice a items)) s (Ok w) s2
longer_all vs d g made = applies (splice_then d (ap Ok (trees_of-elements_of vs)) g refl) no_more (list_is (ap answers made))

-- past the limits
pub too_long_by : {T : Telling} {c : Context} {a : Expr} {items : Items} {s s1 s2 : State} {us : List Tree} {failure : Failure} (vs : List Tree) → Evaluates T c a s (Ok (list_of vs)) s1 → EvaluatesAll T c items s1 (Ok us) s2 → answers (made_list (vs ++ us)) ≡ Err failure → Computes T c (program.list (splice a items)) s (Err failure) s2
too_long_by vs d g made = applies (splice_then d (ap Ok (trees_of-elements_of vs)) g refl) no_more (list_is made)

-- the list stops, or is none
pub spliced_stops : {T : Telling} {c : Context} {a : Expr} {items : Items} {s s' : State} {stop : Stop} → Evaluates T c a s (Err stop) s' → Computes T c (program.list (splice a items)) s (Err (stops stop)) s'
spliced_stops d = operands_end (splice_stops d)

pub spliced_fails : {T : Telling} {c : Context} {a : Expr} {items : Items} {s s' : State} {v : Tree} {failure : Failure} → Evaluates T c a s (Ok v) s' → answers (spliced_of v) ≡ Err failure → Computes T c (program.list (splice a items)) s (Err failure) s'
spliced_fails d f = operands_end (splice_fails d f)

-- a further item fails
pub items_end : {T : Telling} {c : Context} {a : Expr} {items : Items} {s s1 s' : State} {failure : Failure} (vs : List Tree) → Evaluates T c a s (Ok (list_of vs)) s1 → EvaluatesAll T c items s1 (Err failure) s' → Computes T c (program.list (splice a items)) s (Err failure) s'
items_end vs d g = operands_end (splice_then d (ap Ok (trees_of-elements_of vs)) g refl)

-- as a statement, after a tick for the assignment and one for the list or the call
pub set_longer : {T : Telling} {c : Context} {x : List ℕ} {e : Expr} {s t : State} → 0 < s.ticks → 0 < (ticked s).ticks → IsSetTo T c x e (ticked (ticked s)) t → Does T c (performs (assign (variable x) e)) s (Ok next) t
set_longer z z' h = performed z (assigned (begins z' h.computes refl) h.sets)

pub set_error : {T : Telling} {c : Context} {x : List ℕ} {e : Expr} {s s' t : State} {o : Result Tree Failure} {v : Tree} → 0 < s.ticks → 0 < (ticked s).ticks → Computes T c e (ticked (ticked s)) o s' → settled c.frame.d (trace c s') o ≡ Ok v → bound (bind x v ∷ []) s' ≡ t → Does T c (performs (assign (variable x) e)) s (Ok next) t
set_error z z' d f b = performed z (assigned (begins z' d f) b)

pub not_set : {T : Telling} {c : Context} {x : List ℕ} {e : Expr} {s s' : State} {o : Result Tree Failure} {stop : Stop} → 0 < s.ticks → 0 < (ticked s).ticks → Computes T c e (ticked (ticked s)) o s' → settled c.frame.d (trace c s') o ≡ Err stop → Does T c (performs (assign (variable x) e)) s (Err stop) s'
not_set z z' d f = unperformed z (unassigned (begins z' d f))

-- a value that is given at once, after the elements of the list in the variable
pub lengthened_at_once : {name : List ℕ} {e : Expr} {n m : ℕ} {last : Tree} {after : List ℕ → Option Tree} {programmer : ℤ} (elements : List Tree) (c : Context) (s : State) → s.programmer ≡ programmer → 2 < n → s.variables (folded name) ≡ Some (list_of elements) → GivesValue s.variables (n - 1 - 1 - 1) e last m → IsWithinLimits (list_of (elements ++ last ∷ [])) → after ≡ with_variable s.variables (bind name (list_of (elements ++ last ∷ []))) → Does Faults c (performs (assign (variable name) (program.list (splice (variable name) (element e no_items))))) (with_ticks n s) (Ok next) (record { ticks = m; world = s.world; variables = after; programmer = programmer; notices = s.notices })
lengthened_at_once {last = last} elements c s same z held g limits sets =
    set_longer (omega (arith, z)) (omega (arith, z)) (lengthened elements (variable_read (omega (arith, z)) (ap (λ o. answers (or_error o VariableNotFound)) held) refl) (g c s refl) (limited_within (list_of (elements ++ last ∷ [])) limits) (same_state (sym sets) same))
