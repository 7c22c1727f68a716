-- Lists of literals: each expression in one takes a tick.
use Rattle.std.proofs.Common.{◌≡◌, ◌≤◌, ◌<◌, ◌-◌, ◌⊎◌, inl, inr, ℕ, zero, suc, List, [], ◌∷◌, Result, Ok, Err, refl, ap, subst, ◌∙◌, ⊎_elim, arith}
use Rattle.moo_value.specs.Tree.{Tree, Elements, integer, object, error, string, list, no_elements, element, elements_of, trees_of}
use Rattle.moo_value.specs.TreeCode.{elements_of-trees_of}
use Rattle.moo_value.specs.Size.{IsWithinLimits, weight_limit, depth_limit, total_weight, greatest_depth}
use Rattle.moo_syntax_ast.specs.Tree as program
use Rattle.moo_syntax_node.specs.Spelling.{spelled, spelled_items, nodes_of, nodes_in}
use Rattle.moo_builtin_operator.specs.Places.{made_list}
use Rattle.moo_builtin_operator.proofs.Lawful.{limited_within}
use Rattle.moo_builtin.specs.Telling.{Telling}
use Rattle.moo_eval_frame.specs.Outcome.{answers, stops, out_of_ticks}
use Rattle.moo_eval_frame.specs.State.{Context}
use Rattle.moo_eval_access.specs.State.{State, ticked, trace}
use Rattle.moo_eval_semantics.specs.Meaning.{Evaluates, Computes, EvaluatesAll, spent, begins, operands_end, applies, no_more, element_stops, element_then, list_is}
use Rattle.moo_eval_task.proofs.Direct.{literal_read}

-- the elements of a list within the limits are so too
record AreWithin (es : Elements) : Type 0 where
  weight : total_weight es ≤ weight_limit
  depth : greatest_depth es ≤ depth_limit

within_of : (es : Elements) → IsWithinLimits (list es) → AreWithin es
within_of es h = record { weight = omega (arith, h.weight); depth = omega (arith, h.depth) }

first_within : (t : Tree) (es : Elements) → AreWithin (element t es) → IsWithinLimits t
first_within t es h = record { weight = omega (arith, h.weight); depth = omega (arith, h.depth) }

rest_within : (t : Tree) (es : Elements) → AreWithin (element t es) → AreWithin es
rest_within t es h = record { weight = omega (arith, h.weight); depth = omega (arith, h.depth) }

made : (es : Elements) → IsWithinLimits (list es) → made_list (trees_of es) ≡ Ok (list es)
made es h = rw (elements_of-trees_of es) (limited_within (list es) h)

made_within : (es : Elements) → IsWithinLimits (list es) → answers (made_list (trees_of es)) ≡ Ok (list es)
made_within es h = ap answers (made es h)

leaf_given : {T : Telling} {c : Context} {l : _} (s : State) (left : ℕ) → 1 ≤ s.ticks → left ≡ s.ticks - 1 → Evaluates T c (program.literal l) s (Ok (program.literal_value l)) (record s { ticks = left })
leaf_given s left h l = rw l (literal_read (omega (arith, h)))

mutual
  -- with a tick for each, a value comes from the expression that writes it
  pub spelled_given : {T : Telling} {c : Context} (t : Tree) (s : State) (left : ℕ) → IsWithinLimits t → nodes_of t ≤ s.ticks → left ≡ s.ticks - nodes_of t → Evaluates T c (spelled t) s (Ok t) (record s { ticks = left })
  spelled_given (integer n) s left w h l = leaf_given s left h l
  spelled_given (object n) s left w h l = leaf_given s left h l
  spelled_given (error e) s left w h l = leaf_given s left h l
  spelled_given (string b) s left w h l = leaf_given s left h l
  spelled_given (list es) s left w h l =
      begins (omega (arith, h)) (applies (items_given es (ticked s) left (within_of es w) (omega (arith, h)) (omega (arith, h, l))) no_more (list_is (made_within es w))) refl

  items_given : {T : Telling} {c : Context} (es : Elements) (s : State) (left : ℕ) → AreWithin es → nodes_in es ≤ s.ticks → left ≡ s.ticks - nodes_in es → EvaluatesAll T c (spelled_items es) s (Ok (trees_of es)) (record s { ticks = left })
  items_given no_elements s left w h l = let t : left ≡ s.ticks = omega (arith, l) in rw t no_more
  items_given (element t es) s left w h l =
      element_then (spelled_given t s (s.ticks - nodes_of t) (first_within t es w) (omega (arith, h)) refl) (items_given es (record s { ticks = s.ticks - nodes_of t }) left (rest_within t es w) (omega (arith, h)) (omega (arith, h, l))) refl

-- the list itself, whose tick was taken
pub list_given : {T : Telling} {c : Context} (es : Elements) (s : State) (left : ℕ) → IsWithinLimits (list es) → nodes_in es ≤ s.ticks → left ≡ s.ticks - nodes_in es → Computes T c (program.list (spelled_items es)) s (Ok (list es)) (record s { ticks = left })
list_given es s left w h l = applies (items_given es s left (within_of es w) h l) no_more (list_is (made_within es w))

less_or_not : (a b : ℕ) → (a < b) ⊎ (b ≤ a)
less_or_not a zero = inr (omega arith)
less_or_not zero (suc b) = inl (omega arith)
less_or_not (suc a) (suc b) = ⊎_elim (λ h. inl (omega (arith, h))) (λ h. inr (omega (arith, h))) (less_or_not a b)

no_tick : {T : Telling} {c : Context} {e : program.Expr} (s : State) → s.ticks ≡ 0 → Evaluates T c e s (Err (out_of_ticks (trace c s))) (record s { ticks = 0 })
no_tick {T} {c} {e} s z = subst (λ n. Evaluates T c e s (Err (out_of_ticks (trace c s))) (record s { ticks = n })) z (spent z)

mutual
  -- with fewer ticks, one of the expressions has none
  spelled_ends : {T : Telling} {c : Context} (t : Tree) (s : State) (n : ℕ) → IsWithinLimits t → s.ticks ≡ n → n < nodes_of t → Evaluates T c (spelled t) s (Err (out_of_ticks (trace c s))) (record s { ticks = 0 })
  spelled_ends (integer i) s n w z h = no_tick s (omega (arith, z, h))
  spelled_ends (object i) s n w z h = no_tick s (omega (arith, z, h))
  spelled_ends (error e) s n w z h = no_tick s (omega (arith, z, h))
  spelled_ends (string b) s n w z h = no_tick s (omega (arith, z, h))
  spelled_ends (list es) s zero w z h = no_tick s z
  spelled_ends (list es) s (suc n) w z h = begins (omega (arith, z)) (operands_end (items_end es (ticked s) (within_of es w) (omega (arith, z, h)))) refl

  items_end : {T : Telling} {c : Context} (es : Elements) (s : State) → AreWithin es → s.ticks < nodes_in es → EvaluatesAll T c (spelled_items es) s (Err (stops (out_of_ticks (trace c s)))) (record s { ticks = 0 })
  items_end no_elements s w h = absurd (omega (arith, h))
  items_end {T} {c} (element t es) s w h =
      ⊎_elim
      (λ few. element_stops (spelled_ends t s s.ticks (first_within t es w) refl few))
      (λ (many : nodes_of t ≤ s.ticks). element_then (spelled_given t s (s.ticks - nodes_of t) (first_within t es w) many refl) (items_end es (record s { ticks = s.ticks - nodes_of t }) (rest_within t es w) (omega (arith, h, many))) refl)
      (less_or_not s.ticks (nodes_of t))

pub list_ends : {T : Telling} {c : Context} (es : Elements) (s : State) → IsWithinLimits (list es) → s.ticks < nodes_in es → Computes T c (program.list (spelled_items es)) s (Err (stops (out_of_ticks (trace c s)))) (record s { ticks = 0 })
list_ends es s w h = operands_end (items_end es s (within_of es w) h)
