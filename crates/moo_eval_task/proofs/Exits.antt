-- What the exits of a function say.
use Rattle.std.proofs.Common.{◌≡◌, ℕ, ℤ, Option, Some, None, List, [], ◌∷◌, ◌++◌, append_assoc, false, Result, Ok, Err, IfErr, refl, sym, ap, ◌∙◌, subst}
use Rattle.moo_value.specs.declared.error_code.ErrorCode.{ErrorCode}
use Rattle.moo_value.specs.Tree.{Tree}
use Rattle.moo_builtin_operator.specs.declared.fault.OperationFault.{OperationFault}
use Rattle.moo_builtin_operator.specs.declared.fault.OperationFault.TheVariants as fault
use Rattle.moo_builtin_operator.specs.Answer.{IsRefused}
use Rattle.moo_eval_frame.specs.declared.outcome.Flow as code_flow
use Rattle.moo_eval_frame.specs.declared.outcome.Flow.TheVariants as flow_case
use Rattle.moo_value.specs.declared.error_code.ErrorCode.TheVariants.{TypeMismatch}
use Rattle.moo_syntax_ast.specs.Tree.{Items, Block}
use Rattle.moo_syntax_node.specs.declared.node.NodeItem.{NodeItem, Element', Splice', Optional, Defaulted'}
use Rattle.moo_syntax_node.specs.Source.{with_source}
use Rattle.moo_eval_frame.specs.declared.outcome.Failure as code_failure
use Rattle.moo_eval_frame.specs.declared.notice.Notice.{Notice}
use Rattle.moo_eval_frame.specs.State.{Context}
use Rattle.moo_world_table.specs.World.{World}
use Rattle.moo_eval_access.specs.State.{State}
use Rattle.moo_builtin.specs.Telling.{Telling}
use Rattle.moo_eval_access.specs.Calls.{write_property}
use Rattle.moo_eval_access.specs.Target.{owned}
use Rattle.moo_eval_access.specs.Entering.{after_list}
use Rattle.moo_eval_control.specs.Handling.{Guarded, guarded_before}
use Rattle.moo_eval_frame.specs.Outcome.{Stop, Failure, Flow, fails, answers, goes_on}
use Rattle.moo_eval_semantics.specs.Operands.{before}
use Rattle.moo_eval_semantics.specs.Meaning.{EvaluatesAll, optional_fails, defaulted_fails, Puts, property_unset, puts_property, RunsAll}
use Rattle.moo_eval_frame.specs.Seen.{failure_of, flow_of, seen_by, seen_done, HadMemoryIn}
use Rattle.moo_eval_frame.specs.Fault.{failed}

-- what is none of the errors there are is none
pub none_left : {X : Type 0} (o : Option X) → ((x : X) → o ≡ Some x → ⊥) → o ≡ None
none_left None h = refl
none_left (Some x) h = absurd (h x refl)

-- an operation that is refused with memory enough fails with its error
pub refused : (f : OperationFault) (r : Result Tree ErrorCode) → IsRefused f r → HadMemoryIn (failed f) → answers r ≡ Err (failure_of (failed f))
refused (fault.Raise code) r h k = ap answers h
refused fault.Memory r h k = absurd k

before-before : (xs ys : List Tree) (o : Result (List Tree) Failure) → before xs (before ys o) ≡ before (xs ++ ys) o
before-before xs ys (Ok ws) = ap Ok (sym (append_assoc xs ys ws))
before-before xs ys (Err f) = refl

-- the values so far with those of one more item
pub gathered : (ts us ys : List Tree) (o : Result (List Tree) Failure) → us ≡ ts ++ ys → before ts (before ys o) ≡ before us o
gathered ts us ys o p = before-before ts ys o ∙ ap (λ x. before x o) (sym p)

-- if the list of the arguments fails, so does the call
pub unlisted : {A : Type 0} {failure : Failure} (r : Result Tree ErrorCode) (next : Result A ErrorCode) → answers r ≡ Err failure → answers (after_list r next) ≡ Err failure
unlisted {failure = failure} (Ok t) next h = let e : ◌≡◌ {A = Result Tree Failure} (Ok t) (Err failure) = h in cc
unlisted {failure = failure} (Err code) next h = let e : ◌≡◌ {A = Result Tree Failure} (Err (fails code)) (Err failure) = h in let f : fails code ≡ failure = cc in ap Err f

-- a flow other than on leads elsewhere
pub goes_on-not : (flow : code_flow.Flow) → (flow ≡ flow_case.Next → ⊥) → goes_on (Ok (flow_of flow)) ≡ false
goes_on-not flow_case.Next h = absurd (h refl)
goes_on-not (flow_case.Return v) h = refl
goes_on-not (flow_case.Break n) h = refl
goes_on-not (flow_case.Continue n) h = refl

-- states with the same variables and programmer
pub same_state : {n : ℕ} {w : World} {f g : List ℕ → Option Tree} {p q : ℤ} {ns : List Notice} → f ≡ g → p ≡ q → ◌≡◌ {A = State} (record { ticks = n; world = w; variables = f; programmer = p; notices = ns }) (record { ticks = n; world = w; variables = g; programmer = q; notices = ns })
same_state {n = n} {w = w} {ns = ns} e h = λ i. record { ticks = n; world = w; variables = e i; programmer = h i; notices = ns }

-- a name that may be left out occurs in no list that is evaluated
abbrev pub IsOptional : NodeItem → Type 0
IsOptional (Element' p e) = ⊥
IsOptional (Splice' p e) = ⊥
IsOptional (Optional x) = Unit {0}
IsOptional (Defaulted' x p e) = Unit {0}

pub optional_ends : {T : Telling} {c : Context} {s : State} (item : NodeItem) (xs : Items) → IsOptional item → EvaluatesAll T c (with_source item xs) s (Err (fails TypeMismatch)) s
optional_ends (Element' p e) xs h = absurd h
optional_ends (Splice' p e) xs h = absurd h
optional_ends (Optional x) xs h = optional_fails
optional_ends (Defaulted' x p e) xs h = defaulted_fails

-- the handlers so far before one more
pub guarded_on : (gs us : List Guarded) (g : Guarded) (o : Result (List Guarded) Stop) → us ≡ gs ++ g ∷ [] → guarded_before gs (guarded_before (g ∷ []) o) ≡ guarded_before us o
guarded_on gs us g (Ok hs) p = ap Ok (sym (append_assoc gs (g ∷ []) hs) ∙ ap (λ x. x ++ hs) (sym p))
guarded_on gs us g (Err stop) p = refl

-- states with as many ticks, and with the same notices and variables
pub state_at : {n m : ℕ} {w : World} {f g : List ℕ → Option Tree} {p : ℤ} {ns ms : List Notice} → n ≡ m → ns ≡ ms → f ≡ g → ◌≡◌ {A = State} (record { ticks = n; world = w; variables = f; programmer = p; notices = ns }) (record { ticks = m; world = w; variables = g; programmer = p; notices = ms })
state_at {w = w} {p = p} e k h = λ i. record { ticks = e i; world = w; variables = h i; programmer = p; notices = k i }

-- a property that was set, or was not and the world is as it was
pub property_put : {T : Telling} {c : Context} {n : ℕ} {w w' : World} {f : List ℕ → Option Tree} {p : ℤ} {ns : List Notice} {base name v : Tree} (r : Result (Unit {0}) code_failure.Failure) → answers (write_property w p base name v) ≡ seen_by (λ done. w') r → IfErr r (λ failure. w' ≡ w) → Puts T c (owned base name) v (record { ticks = n; world = w; variables = f; programmer = p; notices = ns }) (seen_done r) (record { ticks = n; world = w'; variables = f; programmer = p; notices = ns })
property_put (Ok done) e h = puts_property e refl
property_put {T = T} {c = c} {n = n} {w = w} {f = f} {p = p} {ns = ns} {base = base} {name = name} {v = v} (Err failure) e h = subst (λ x. Puts T c (owned base name) v (record { ticks = n; world = w; variables = f; programmer = p; notices = ns }) (Err (failure_of failure)) (record { ticks = n; world = x; variables = f; programmer = p; notices = ns })) (sym h) (property_unset e)

-- statements that are these run as these do
pub runs_at : {T : Telling} {c : Context} {b b' : Block} {s s' : State} {o : Result Flow Stop} → b ≡ b' → RunsAll T c b s o s' → RunsAll T c b' s o s'
runs_at {T = T} {c = c} {s = s} {s' = s'} {o = o} q h = subst (λ x. RunsAll T c x s o s') q h

pub runs_from : {T : Telling} {c : Context} {b b' : Block} {s t s' : State} {o : Result Flow Stop} → s ≡ t → b ≡ b' → RunsAll T c b s o s' → RunsAll T c b' t o s'
runs_from {T = T} {c = c} {b' = b'} {s' = s'} {o = o} e q h = subst (λ x. RunsAll T c b' x o s') e (runs_at q h)
