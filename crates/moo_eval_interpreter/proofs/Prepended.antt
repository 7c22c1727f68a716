-- Lists that take a value before their elements in their variable.
use Rattle.std.proofs.Common.{◌≡◌, List, ◌∷◌, Ok, Err, refl, ap}
use Rattle.std.proofs.lemmas.List.{append-nil}
use Rattle.moo_value.specs.Tree.{Tree, list_of}
use Rattle.moo_value.specs.TreeCode.{trees_of-elements_of}
use Rattle.moo_syntax_ast.specs.Tree as program
use Rattle.moo_syntax_ast.specs.Tree.{Expr, splice, element, no_items}
use Rattle.moo_builtin_operator.specs.Places.{made_list, spliced_of}
use Rattle.moo_eval_frame.specs.Outcome.{Stop, Failure, stops, answers}
use Rattle.moo_eval_frame.specs.State.{Context}
use Rattle.moo_eval_access.specs.State.{State}
use Rattle.moo_builtin.specs.Telling.{Telling}
use Rattle.moo_eval_semantics.specs.Meaning.{Evaluates, EvaluatesAll, Computes, applies, operands_end, no_more, element_stops, element_then, splice_stops, splice_fails, splice_then, list_is}

-- the elements of a list after one more
parts : {T : Telling} {c : Context} {a e : Expr} {s s1 s2 : State} {v : Tree} (vs : List Tree) → Evaluates T c e s (Ok v) s1 → Evaluates T c a s1 (Ok (list_of vs)) s2 → EvaluatesAll T c (element e (splice a no_items)) s (Ok (v ∷ vs)) s2
parts vs d g = element_then d (splice_then g (ap Ok (trees_of-elements_of vs)) no_more (ap Ok (append-nil vs))) refl

-- the list is within the limits
pub longer : {T : Telling} {c : Context} {a e : Expr} {s s1 s2 : State} {v w : Tree} (vs : List Tree) → Evaluates T c e s (Ok v) s1 → Evaluates T c a s1 (Ok (list_of vs)) s2 → made_list (v ∷ vs) ≡ Ok w → Computes T c (program.list (element e (splice a no_items))) s (Ok w) s2
longer vs d g made = applies (parts vs d g) no_more (list_is (ap answers made))

-- past the limits
pub too_long : {T : Telling} {c : Context} {a e : Expr} {s s1 s2 : State} {v : Tree} {failure : Failure} (vs : List Tree) → Evaluates T c e s (Ok v) s1 → Evaluates T c a s1 (Ok (list_of vs)) s2 → answers (made_list (v ∷ vs)) ≡ Err failure → Computes T c (program.list (element e (splice a no_items))) s (Err failure) s2
too_long vs d g made = applies (parts vs d g) no_more (list_is made)

-- the first part stops
pub first_stops : {T : Telling} {c : Context} {a e : Expr} {s s' : State} {stop : Stop} → Evaluates T c e s (Err stop) s' → Computes T c (program.list (element e (splice a no_items))) s (Err (stops stop)) s'
first_stops d = operands_end (element_stops d)

-- the second part stops
pub second_stops : {T : Telling} {c : Context} {a e : Expr} {s s1 s' : State} {v : Tree} {stop : Stop} → Evaluates T c e s (Ok v) s1 → Evaluates T c a s1 (Err stop) s' → Computes T c (program.list (element e (splice a no_items))) s (Err (stops stop)) s'
second_stops d g = operands_end (element_then d (splice_stops g) refl)

-- the second part is no list
pub second_fails : {T : Telling} {c : Context} {a e : Expr} {s s1 s' : State} {v y : Tree} {failure : Failure} → Evaluates T c e s (Ok v) s1 → Evaluates T c a s1 (Ok y) s' → answers (spliced_of y) ≡ Err failure → Computes T c (program.list (element e (splice a no_items))) s (Err failure) s'
second_fails d g f = operands_end (element_then d (splice_fails g f) refl)
