-- What expressions and statements do: a big-step relation between a state, an outcome and the state after it. A verb
-- call runs statements, so all rules are one block. T says which faults may be reported for a text that is no
-- program.
use Rattle.std.specs.Prelude.{◌≡◌, ◌<◌, ◌+ℤ◌, ℕ, ℤ, pos, true, false, List, [], ◌∷◌, Option, Some, None, Result, Ok, Err, int_le}
use Rattle.moo_value.specs.declared.error_code.ErrorCode.TheVariants.{VariableNotFound, TypeMismatch}
use Rattle.moo_value.specs.declared.error_code.ErrorCode.{ErrorCode}
use Rattle.moo_value.specs.Tree.{Tree, integer, error}
use Rattle.moo_value.specs.Compare.{folded}
use Rattle.moo_syntax_ast.specs.declared.operator.UnaryOperator.{UnaryOperator}
use Rattle.moo_syntax_ast.specs.declared.operator.BinaryOperator.{BinaryOperator}
use Rattle.moo_syntax_ast.specs.declared.operator.LogicOperator.{LogicOperator}
use Rattle.moo_syntax_ast.specs.declared.tree.Literal.{Literal}
use Rattle.moo_syntax_ast.specs.Tree as program
use Rattle.moo_syntax_ast.specs.Tree.{Expr, literal, variable, length_mark, unary, binary, logic, conditional, index, range, property, verb_call, call, assign, catch, catch_or, Items, no_items, element, splice, optional, defaulted, Codes, literal_value, Stmt, return_nothing, returns, performs, branches, for_list, for_range, while_loop, breaks, continues, try_except, try_finally, Arms, no_else, otherwise, elseif, Handlers, no_handler, handler, Block, no_statement, then}
use Rattle.moo_world_table.specs.World.{World}
use Rattle.moo_builtin_operator.specs.Truth.{is_true, is_decided}
use Rattle.moo_builtin_operator.specs.Operators.{unary_of, binary_of}
use Rattle.moo_builtin_operator.specs.Places.{index_of, range_of, spliced_of, made_list}
use Rattle.moo_eval_frame.specs.declared.frame.TraceEntry.{TraceEntry}
use Rattle.moo_eval_control.specs.declared.leading.Span.{Span}
use Rattle.moo_eval_slot.specs.Bindings.{Binding, bind}
use Rattle.moo_eval_frame.specs.State.{Context, within, outside, measured}
use Rattle.moo_eval_control.specs.Catching.{guards, caught, coded}
use Rattle.moo_eval_control.specs.Leading.{after_turn, no_turn, runs_finally, after_finally, span_of, numbered}
use Rattle.moo_eval_control.specs.Handling.{Guarded, guarded, guarded_before, chosen, told_as}
use Rattle.moo_eval_control.specs.Scatter.{dealt, given, LeftOut, missing}
use Rattle.moo_eval_access.specs.State.{State, ticked, bound, trace}
use Rattle.moo_eval_access.specs.Calls.{read_property, write_property}
use Rattle.moo_builtin.specs.Telling.{Telling}
use Rattle.moo_eval_semantics.specs.Calls.{CallsFunction}
use Rattle.moo_syntax_function.specs.declared.function.Function.{Function}
use Rattle.moo_eval_semantics.specs.declared.stage.Stage.{Stage}
use Rattle.moo_eval_semantics.specs.Progressing.{Progress, done, verb_next, stage_next}
use Rattle.moo_eval_semantics.specs.VerbCalls.{caller_of, Starts}
use Rattle.moo_eval_semantics.specs.Stages.{resumed}
use Rattle.moo_eval_access.specs.Entering.{Entered, entered_verb}
use Rattle.moo_eval_access.specs.Target.{Root, named, owned, scattered, Step, Path, root_of, spots, root_parts, root_from, held, rebuilt}
use Rattle.moo_eval_frame.specs.Outcome.{Raise, Stop, raised, out_of_ticks, Failure, fails, stops, Flow, next, returned, broken, continued, or_error, answers, passes, settled, raised_by, goes_out, goes_next, goes_on}
use Rattle.moo_eval_semantics.specs.Operands.{operands, places, before, with_value, answered, begun, left}

mutual
  -- An expression takes a tick as it begins, and its own error is settled by the frame's d bit.
  pub data Evaluates (T : Telling) : Context → Expr → State → Result Tree Stop → State → Type 0 where
    spent : {c : Context} {e : Expr} {s : State} →
        s.ticks ≡ 0 →
        Evaluates T c e s (Err (out_of_ticks (trace c s))) s
    begins : {c : Context} {e : Expr} {s s' : State} {o : Result Tree Failure} {r : Result Tree Stop} →
        0 < s.ticks → Computes T c e (ticked s) o s' → settled c.frame.d (trace c s') o ≡ r →
        Evaluates T c e s r s'

  -- Its operands come first, then the places in them; if one of these stops, so does the expression.
  pub data Computes (T : Telling) : Context → Expr → State → Result Tree Failure → State → Type 0 where
    operands_end : {c : Context} {e : Expr} {s s' : State} {failure : Failure} →
        EvaluatesAll T c (operands e) s (Err failure) s' →
        Computes T c e s (Err failure) s'
    places_end : {c : Context} {e : Expr} {s s' s'' : State} {vs : List Tree} {failure : Failure} →
        EvaluatesAll T c (operands e) s (Ok vs) s' → EvaluatesAll T (within c vs) (places e) s' (Err failure) s'' →
        Computes T c e s (Err failure) s''
    applies : {c : Context} {e : Expr} {s s' s'' s3 : State} {vs ws : List Tree} {o : Result Tree Failure} →
        EvaluatesAll T c (operands e) s (Ok vs) s' → EvaluatesAll T (within c vs) (places e) s' (Ok ws) s'' → Applies T c e vs ws s'' o s3 →
        Computes T c e s o s3

  -- Items from left to right. A splice of what is no list ends them. So does a name that may be left out, which no
  -- program has outside the target of a scatter.
  pub data EvaluatesAll (T : Telling) : Context → Items → State → Result (List Tree) Failure → State → Type 0 where
    no_more : {c : Context} {s : State} →
        EvaluatesAll T c no_items s (Ok []) s
    element_stops : {c : Context} {e : Expr} {es : Items} {s s' : State} {stop : Stop} →
        Evaluates T c e s (Err stop) s' →
        EvaluatesAll T c (element e es) s (Err (stops stop)) s'
    element_then : {c : Context} {e : Expr} {es : Items} {s s' s'' : State} {v : Tree} {o r : Result (List Tree) Failure} →
        Evaluates T c e s (Ok v) s' → EvaluatesAll T c es s' o s'' → before (v ∷ []) o ≡ r →
        EvaluatesAll T c (element e es) s r s''
    splice_stops : {c : Context} {e : Expr} {es : Items} {s s' : State} {stop : Stop} →
        Evaluates T c e s (Err stop) s' →
        EvaluatesAll T c (splice e es) s (Err (stops stop)) s'
    splice_fails : {c : Context} {e : Expr} {es : Items} {s s' : State} {v : Tree} {failure : Failure} →
        Evaluates T c e s (Ok v) s' → answers (spliced_of v) ≡ Err failure →
        EvaluatesAll T c (splice e es) s (Err failure) s'
    splice_then : {c : Context} {e : Expr} {es : Items} {s s' s'' : State} {v : Tree} {vs : List Tree} {o r : Result (List Tree) Failure} →
        Evaluates T c e s (Ok v) s' → answers (spliced_of v) ≡ Ok vs → EvaluatesAll T c es s' o s'' → before vs o ≡ r →
        EvaluatesAll T c (splice e es) s r s''
    optional_fails : {c : Context} {s : State} {x : List ℕ} {es : Items} →
        EvaluatesAll T c (optional x es) s (Err (fails TypeMismatch)) s
    defaulted_fails : {c : Context} {s : State} {x : List ℕ} {d : Expr} {es : Items} →
        EvaluatesAll T c (defaulted x d es) s (Err (fails TypeMismatch)) s

  -- What an expression gives from the values of its operands and of its places.
  pub data Applies (T : Telling) : Context → Expr → List Tree → List Tree → State → Result Tree Failure → State → Type 0 where
    literal_is : {c : Context} {s : State} {l : Literal} →
        Applies T c (literal l) [] [] s (Ok (literal_value l)) s
    variable_is : {c : Context} {s : State} {name : List ℕ} {r : Result Tree Failure} →
        answers (or_error (s.variables (folded name)) VariableNotFound) ≡ r →
        Applies T c (variable name) [] [] s r s
    length_is : {c : Context} {s : State} {r : Result Tree Failure} →
        answers (measured c.indexed) ≡ r →
        Applies T c length_mark [] [] s r s
    unary_is : {c : Context} {s : State} {op : UnaryOperator} {a : Expr} {x : Tree} {r : Result Tree Failure} →
        answers (unary_of op x) ≡ r →
        Applies T c (unary op a) (x ∷ []) [] s r s
    binary_is : {c : Context} {s : State} {op : BinaryOperator} {a b : Expr} {x y : Tree} {r : Result Tree Failure} →
        answers (binary_of op x y) ≡ r →
        Applies T c (binary op a b) (x ∷ y ∷ []) [] s r s
    logic_decides : {c : Context} {s : State} {op : LogicOperator} {a b : Expr} {x : Tree} →
        is_decided op x ≡ true →
        Applies T c (logic op a b) (x ∷ []) [] s (Ok x) s
    logic_goes_on : {c : Context} {s s' : State} {op : LogicOperator} {a b : Expr} {x : Tree} {o : Result Tree Stop} {r : Result Tree Failure} →
        is_decided op x ≡ false → Evaluates T c b s o s' → passes o ≡ r →
        Applies T c (logic op a b) (x ∷ []) [] s r s'
    conditional_true : {c : Context} {s s' : State} {test a b : Expr} {x : Tree} {o : Result Tree Stop} {r : Result Tree Failure} →
        is_true x ≡ true → Evaluates T c a s o s' → passes o ≡ r →
        Applies T c (conditional test a b) (x ∷ []) [] s r s'
    conditional_false : {c : Context} {s s' : State} {test a b : Expr} {x : Tree} {o : Result Tree Stop} {r : Result Tree Failure} →
        is_true x ≡ false → Evaluates T c b s o s' → passes o ≡ r →
        Applies T c (conditional test a b) (x ∷ []) [] s r s'
    index_is : {c : Context} {s : State} {a i : Expr} {x y : Tree} {r : Result Tree Failure} →
        answers (index_of x y) ≡ r →
        Applies T c (index a i) (x ∷ []) (y ∷ []) s r s
    range_is : {c : Context} {s : State} {a i j : Expr} {x y z : Tree} {r : Result Tree Failure} →
        answers (range_of x y z) ≡ r →
        Applies T c (range a i j) (x ∷ []) (y ∷ z ∷ []) s r s
    list_is : {c : Context} {s : State} {items : Items} {vs : List Tree} {r : Result Tree Failure} →
        answers (made_list vs) ≡ r →
        Applies T c (program.list items) vs [] s r s
    property_is : {c : Context} {s : State} {a b : Expr} {x y : Tree} {r : Result Tree Failure} →
        answers (read_property s.world s.programmer x y) ≡ r →
        Applies T c (property a b) (x ∷ y ∷ []) [] s r s
    verb_fails : {c : Context} {s : State} {a b : Expr} {items : Items} {x y : Tree} {vs : List Tree} {failure : Failure} →
        answers (entered_verb s.world c s.variables s.programmer x y vs) ≡ Err failure →
        Applies T c (verb_call a b items) (x ∷ y ∷ vs) [] s (Err failure) s
    verb_runs : {c : Context} {s s' s'' : State} {a b : Expr} {items : Items} {x y : Tree} {vs : List Tree} {e : Entered} {o : Result Flow Stop} {r : Result Tree Failure} →
        answers (entered_verb s.world c s.variables s.programmer x y vs) ≡ Ok e → RunsAll T e.context e.context.frame.program (begun e s) o s' → left s s' ≡ s'' → answered o ≡ r →
        Applies T c (verb_call a b items) (x ∷ y ∷ vs) [] s r s''
    call_is : {c : Context} {s s' : State} {name : List ℕ} {items : Items} {vs : List Tree} {r : Result Tree Failure} →
        caller_of name ≡ None → CallsFunction T (outside c) name vs s r s' →
        Applies T c (call name items) vs [] s r s'
    call_runs : {c : Context} {s s' s'' : State} {name : List ℕ} {items : Items} {vs : List Tree} {f : Function} {p : Progress} {r : Result Tree Failure} →
        caller_of name ≡ Some f → Starts T (outside c) f vs s p s' → Proceeds T (outside c) p s' r s'' →
        Applies T c (call name items) vs [] s r s''
    assign_is : {c : Context} {s s' : State} {t e : Expr} {r : Result Tree Failure} →
        Assigns T c t e s r s' →
        Applies T c (assign t e) [] [] s r s'
    catch_passes : {c : Context} {s s' : State} {a : Expr} {codes : Codes} {vs : List Tree} {o : Result Tree Stop} {r : Result Tree Failure} →
        Evaluates T c a s o s' → caught codes vs o ≡ None → passes o ≡ r →
        Applies T c (catch a codes) vs [] s r s'
    catch_gives : {c : Context} {s s' : State} {a : Expr} {codes : Codes} {vs : List Tree} {o : Result Tree Stop} {code : ErrorCode} →
        Evaluates T c a s o s' → caught codes vs o ≡ Some code →
        Applies T c (catch a codes) vs [] s (Ok (error code)) s'
    catch_or_passes : {c : Context} {s s' : State} {a b : Expr} {codes : Codes} {vs : List Tree} {o : Result Tree Stop} {r : Result Tree Failure} →
        Evaluates T c a s o s' → caught codes vs o ≡ None → passes o ≡ r →
        Applies T c (catch_or a codes b) vs [] s r s'
    catch_or_goes_on : {c : Context} {s s' s'' : State} {a b : Expr} {codes : Codes} {vs : List Tree} {o p : Result Tree Stop} {code : ErrorCode} {r : Result Tree Failure} →
        Evaluates T c a s o s' → caught codes vs o ≡ Some code → Evaluates T c b s' p s'' → passes p ≡ r →
        Applies T c (catch_or a codes b) vs [] s r s''

  -- A function that calls verbs goes on: the value of a verb goes to the next stage. If the verb stops, so does the
  -- function.
  pub data Proceeds (T : Telling) : Context → Progress → State → Result Tree Failure → State → Type 0 where
    is_done : {c : Context} {s : State} {r : Result Tree Failure} →
        Proceeds T c (done r) s r s
    hook_stops : {c : Context} {e : Entered} {stage : Stage} {s s' s'' : State} {o : Result Flow Stop} {failure : Failure} →
        RunsAll T e.context e.context.frame.program (begun e s) o s' → left s s' ≡ s'' → answered o ≡ Err failure →
        Proceeds T c (verb_next e stage) s (Err failure) s''
    hook_then : {c : Context} {e : Entered} {stage : Stage} {s s' s'' s3 s4 : State} {o : Result Flow Stop} {v : Tree} {p : Progress} {r : Result Tree Failure} →
        RunsAll T e.context e.context.frame.program (begun e s) o s' → left s s' ≡ s'' → answered o ≡ Ok v → resumed c stage v s'' ≡ (p, s3) → Proceeds T c p s3 r s4 →
        Proceeds T c (verb_next e stage) s r s4
    at_once : {c : Context} {stage : Stage} {s s' s'' : State} {p : Progress} {r : Result Tree Failure} →
        resumed c stage (integer (pos 0)) s ≡ (p, s') → Proceeds T c p s' r s'' →
        Proceeds T c (stage_next stage) s r s''

  -- The target is found first, then the value is evaluated, then it is stored. It is the value of the assignment.
  pub data Assigns (T : Telling) : Context → Expr → Expr → State → Result Tree Failure → State → Type 0 where
    target_ends : {c : Context} {t e : Expr} {s s' : State} {failure : Failure} →
        Locates T c t s (Err failure) s' →
        Assigns T c t e s (Err failure) s'
    value_stops : {c : Context} {t e : Expr} {s s' s'' : State} {path : Path} {stop : Stop} →
        Locates T c t s (Ok path) s' → Evaluates T c e s' (Err stop) s'' →
        Assigns T c t e s (Err (stops stop)) s''
    assigns : {c : Context} {t e : Expr} {s s' s'' s3 : State} {path : Path} {v : Tree} {o : Result (Unit {0}) Failure} {r : Result Tree Failure} →
        Locates T c t s (Ok path) s' → Evaluates T c e s' (Ok v) s'' → Stores T c path.root path.steps v s'' o s3 → with_value v o ≡ r →
        Assigns T c t e s r s3

  -- A target takes no tick of its own. Its root is found first, then its containers are read, from the root on.
  pub data Locates (T : Telling) : Context → Expr → State → Result Path Failure → State → Type 0 where
    root_ends : {c : Context} {t : Expr} {s s' : State} {failure : Failure} →
        Finds T c (root_of t) s (Err failure) s' →
        Locates T c t s (Err failure) s'
    locates : {c : Context} {t : Expr} {s s' s'' : State} {root : Root} {o : Result Path Failure} →
        Finds T c (root_of t) s (Ok root) s' → Enters T c root [] (spots t) s' o s'' →
        Locates T c t s o s''

  pub data Finds (T : Telling) : Context → Expr → State → Result Root Failure → State → Type 0 where
    parts_end : {c : Context} {e : Expr} {s s' : State} {failure : Failure} →
        EvaluatesAll T c (root_parts e) s (Err failure) s' →
        Finds T c e s (Err failure) s'
    finds : {c : Context} {e : Expr} {s s' : State} {vs : List Tree} {r : Result Root Failure} →
        EvaluatesAll T c (root_parts e) s (Ok vs) s' → answers (root_from e vs) ≡ r →
        Finds T c e s r s'

  pub data Enters (T : Telling) : Context → Root → List Step → List Items → State → Result Path Failure → State → Type 0 where
    inside : {c : Context} {root : Root} {steps : List Step} {s : State} →
        Enters T c root steps [] s (Ok (record { root = root; steps = steps })) s
    step_ends : {c : Context} {root : Root} {steps : List Step} {spot : Items} {rest : List Items} {s s' : State} {failure : Failure} →
        Steps T c root steps spot s (Err failure) s' →
        Enters T c root steps (spot ∷ rest) s (Err failure) s'
    enters : {c : Context} {root : Root} {steps : List Step} {spot : Items} {rest : List Items} {s s' s'' : State} {step : Step} {o : Result Path Failure} →
        Steps T c root steps spot s (Ok step) s' → Enters T c root (step ∷ steps) rest s' o s'' →
        Enters T c root steps (spot ∷ rest) s o s''

  -- A container is read before the places in it are evaluated; in them `$` is the container's length.
  pub data Steps (T : Telling) : Context → Root → List Step → Items → State → Result Step Failure → State → Type 0 where
    unread : {c : Context} {root : Root} {steps : List Step} {spot : Items} {s : State} {failure : Failure} →
        answers (held s.world s.programmer root steps s.variables) ≡ Err failure →
        Steps T c root steps spot s (Err failure) s
    spot_ends : {c : Context} {root : Root} {steps : List Step} {spot : Items} {s s' : State} {x : Tree} {failure : Failure} →
        answers (held s.world s.programmer root steps s.variables) ≡ Ok x → EvaluatesAll T (within c (x ∷ [])) spot s (Err failure) s' →
        Steps T c root steps spot s (Err failure) s'
    steps_in : {c : Context} {root : Root} {steps : List Step} {spot : Items} {s s' : State} {x : Tree} {ys : List Tree} →
        answers (held s.world s.programmer root steps s.variables) ≡ Ok x → EvaluatesAll T (within c (x ∷ [])) spot s (Ok ys) s' →
        Steps T c root steps spot s (Ok (record { container = x; places = ys })) s'

  -- If a container can't be rebuilt, nothing is stored.
  pub data Stores (T : Telling) : Context → Root → List Step → Tree → State → Result (Unit {0}) Failure → State → Type 0 where
    no_store : {c : Context} {root : Root} {steps : List Step} {v : Tree} {s : State} {failure : Failure} →
        answers (rebuilt steps (Ok v)) ≡ Err failure →
        Stores T c root steps v s (Err failure) s
    stores : {c : Context} {root : Root} {steps : List Step} {v w : Tree} {s s' : State} {o : Result (Unit {0}) Failure} →
        answers (rebuilt steps (Ok v)) ≡ Ok w → Puts T c root w s o s' →
        Stores T c root steps v s o s'

  pub data Puts (T : Telling) : Context → Root → Tree → State → Result (Unit {0}) Failure → State → Type 0 where
    puts_variable : {c : Context} {x : List ℕ} {v : Tree} {s s' : State} →
        bound (bind x v ∷ []) s ≡ s' →
        Puts T c (named x) v s (Ok tt) s'
    property_unset : {c : Context} {base name v : Tree} {s : State} {failure : Failure} →
        answers (write_property s.world s.programmer base name v) ≡ Err failure →
        Puts T c (owned base name) v s (Err failure) s
    puts_property : {c : Context} {base name v : Tree} {s s' : State} {w : World} →
        answers (write_property s.world s.programmer base name v) ≡ Ok w → record s { world = w } ≡ s' →
        Puts T c (owned base name) v s (Ok tt) s'
    scatter_fails : {c : Context} {items : Items} {v : Tree} {s : State} {failure : Failure} →
        answers (dealt items v) ≡ Err failure →
        Puts T c (scattered items) v s (Err failure) s
    scatters : {c : Context} {items : Items} {v : Tree} {vs : List Tree} {s s' s'' : State} {o : Result (Unit {0}) Failure} →
        answers (dealt items v) ≡ Ok vs → bound (given items vs) s ≡ s' → SetsDefaults T c (missing items vs) s' o s'' →
        Puts T c (scattered items) v s o s''

  -- Names that the list leaves out, from the left.
  pub data SetsDefaults (T : Telling) : Context → List LeftOut → State → Result (Unit {0}) Failure → State → Type 0 where
    none_missing : {c : Context} {s : State} →
        SetsDefaults T c [] s (Ok tt) s
    default_stops : {c : Context} {d : LeftOut} {ds : List LeftOut} {s s' : State} {stop : Stop} →
        Evaluates T c d.value s (Err stop) s' →
        SetsDefaults T c (d ∷ ds) s (Err (stops stop)) s'
    default_then : {c : Context} {d : LeftOut} {ds : List LeftOut} {s s' s'' s3 : State} {v : Tree} {o : Result (Unit {0}) Failure} →
        Evaluates T c d.value s (Ok v) s' → bound (bind d.name v ∷ []) s' ≡ s'' → SetsDefaults T c ds s'' o s3 →
        SetsDefaults T c (d ∷ ds) s o s3

  -- The codes of all handlers, in order.
  pub data Prepares (T : Telling) : Context → Handlers → State → Result (List Guarded) Stop → State → Type 0 where
    no_codes : {c : Context} {s : State} →
        Prepares T c no_handler s (Ok []) s
    codes_stop : {c : Context} {x : Option (List ℕ)} {codes : Codes} {b : Block} {hs : Handlers} {s s' : State} {o : Result (List Tree) Failure} {stop : Stop} →
        EvaluatesAll T c (guards codes) s o s' → coded c.frame.d (trace c s') o ≡ Err stop →
        Prepares T c (handler x codes b hs) s (Err stop) s'
    codes_then : {c : Context} {x : Option (List ℕ)} {codes : Codes} {b : Block} {hs : Handlers} {s s' s'' : State} {o : Result (List Tree) Failure} {vs : List Tree} {r q : Result (List Guarded) Stop} →
        EvaluatesAll T c (guards codes) s o s' → coded c.frame.d (trace c s') o ≡ Ok vs → Prepares T c hs s' r s'' → guarded_before (guarded x codes b vs ∷ []) r ≡ q →
        Prepares T c (handler x codes b hs) s q s''

  -- A statement takes a tick as it begins.
  pub data Runs (T : Telling) : Context → Stmt → State → Result Flow Stop → State → Type 0 where
    statement_spent : {c : Context} {t : Stmt} {s : State} →
        s.ticks ≡ 0 →
        Runs T c t s (Err (out_of_ticks (trace c s))) s
    statement_begins : {c : Context} {t : Stmt} {s s' : State} {o : Result Flow Stop} →
        0 < s.ticks → Does T c t (ticked s) o s' →
        Runs T c t s o s'

  pub data Does (T : Telling) : Context → Stmt → State → Result Flow Stop → State → Type 0 where
    gives_zero : {c : Context} {s : State} →
        Does T c return_nothing s (Ok (returned (integer (pos 0)))) s
    gives : {c : Context} {e : Expr} {s s' : State} {o : Result Tree Stop} {r : Result Flow Stop} →
        Evaluates T c e s o s' → goes_out o ≡ r →
        Does T c (returns e) s r s'
    evaluates : {c : Context} {e : Expr} {s s' : State} {o : Result Tree Stop} {r : Result Flow Stop} →
        Evaluates T c e s o s' → goes_next o ≡ r →
        Does T c (performs e) s r s'
    selects : {c : Context} {e : Expr} {b : Block} {arms : Arms} {s s' : State} {o : Result Flow Stop} →
        Selects T c (elseif e b arms) s o s' →
        Does T c (branches e b arms) s o s'
    list_stops : {c : Context} {x : List ℕ} {e : Expr} {b : Block} {s s' : State} {stop : Stop} →
        Evaluates T c e s (Err stop) s' →
        Does T c (for_list x e b) s (Err stop) s'
    list_fails : {c : Context} {x : List ℕ} {e : Expr} {b : Block} {s s' : State} {v : Tree} {code : ErrorCode} {r : Result Flow Stop} →
        Evaluates T c e s (Ok v) s' → spliced_of v ≡ Err code → no_turn c.frame.d (trace c s') code ≡ r →
        Does T c (for_list x e b) s r s'
    visits : {c : Context} {x : List ℕ} {e : Expr} {b : Block} {s s' s'' : State} {v : Tree} {vs : List Tree} {o : Result Flow Stop} →
        Evaluates T c e s (Ok v) s' → spliced_of v ≡ Ok vs → Visits T c x vs b s' o s'' →
        Does T c (for_list x e b) s o s''
    span_stops : {c : Context} {x : List ℕ} {e f : Expr} {b : Block} {s s' : State} {stop : Stop} →
        EvaluatesAll T c (element e (element f no_items)) s (Err (stops stop)) s' →
        Does T c (for_range x e f b) s (Err stop) s'
    span_fails : {c : Context} {x : List ℕ} {e f : Expr} {b : Block} {s s' : State} {v w : Tree} {code : ErrorCode} {r : Result Flow Stop} →
        EvaluatesAll T c (element e (element f no_items)) s (Ok (v ∷ w ∷ [])) s' → span_of v w ≡ Err code → no_turn c.frame.d (trace c s') code ≡ r →
        Does T c (for_range x e f b) s r s'
    counts : {c : Context} {x : List ℕ} {e f : Expr} {b : Block} {s s' s'' : State} {v w : Tree} {span : Span} {o : Result Flow Stop} →
        EvaluatesAll T c (element e (element f no_items)) s (Ok (v ∷ w ∷ [])) s' → span_of v w ≡ Ok span → Counts T c x span span.low b s' o s'' →
        Does T c (for_range x e f b) s o s''
    loops : {c : Context} {own : Option (List ℕ)} {e : Expr} {b : Block} {s s' : State} {o : Result Flow Stop} →
        Loops T c own e b s o s' →
        Does T c (while_loop own e b) s o s'
    breaks_out : {c : Context} {x : Option (List ℕ)} {s : State} →
        Does T c (breaks x) s (Ok (broken x)) s
    continues_on : {c : Context} {x : Option (List ℕ)} {s : State} →
        Does T c (continues x) s (Ok (continued x)) s
    unprepared : {c : Context} {b : Block} {hs : Handlers} {s s' : State} {stop : Stop} →
        Prepares T c hs s (Err stop) s' →
        Does T c (try_except b hs) s (Err stop) s'
    tries : {c : Context} {b : Block} {hs : Handlers} {s s' s'' s3 : State} {all : List Guarded} {o r : Result Flow Stop} →
        Prepares T c hs s (Ok all) s' → RunsAll T c b s' o s'' → Handles T c all o s'' r s3 →
        Does T c (try_except b hs) s r s3
    finally_skipped : {c : Context} {b f : Block} {s s' : State} {o : Result Flow Stop} →
        RunsAll T c b s o s' → runs_finally o ≡ false →
        Does T c (try_finally b f) s o s'
    finally_runs : {c : Context} {b f : Block} {s s' s'' : State} {o p r : Result Flow Stop} →
        RunsAll T c b s o s' → runs_finally o ≡ true → RunsAll T c f s' p s'' → after_finally o p ≡ r →
        Does T c (try_finally b f) s r s''

  -- Statements in order, up to one that leads elsewhere.
  pub data RunsAll (T : Telling) : Context → Block → State → Result Flow Stop → State → Type 0 where
    ends : {c : Context} {s : State} →
        RunsAll T c no_statement s (Ok next) s
    leaves : {c : Context} {t : Stmt} {b : Block} {s s' : State} {o : Result Flow Stop} →
        Runs T c t s o s' → goes_on o ≡ false →
        RunsAll T c (then t b) s o s'
    proceeds : {c : Context} {t : Stmt} {b : Block} {s s' s'' : State} {o : Result Flow Stop} →
        Runs T c t s (Ok next) s' → RunsAll T c b s' o s'' →
        RunsAll T c (then t b) s o s''

  -- The first arm of an `if` whose condition is true.
  pub data Selects (T : Telling) : Context → Arms → State → Result Flow Stop → State → Type 0 where
    none_selected : {c : Context} {s : State} →
        Selects T c no_else s (Ok next) s
    else_runs : {c : Context} {b : Block} {s s' : State} {o : Result Flow Stop} →
        RunsAll T c b s o s' →
        Selects T c (otherwise b) s o s'
    test_stops : {c : Context} {e : Expr} {b : Block} {arms : Arms} {s s' : State} {stop : Stop} →
        Evaluates T c e s (Err stop) s' →
        Selects T c (elseif e b arms) s (Err stop) s'
    arm_runs : {c : Context} {e : Expr} {b : Block} {arms : Arms} {s s' s'' : State} {v : Tree} {o : Result Flow Stop} →
        Evaluates T c e s (Ok v) s' → is_true v ≡ true → RunsAll T c b s' o s'' →
        Selects T c (elseif e b arms) s o s''
    arm_passed : {c : Context} {e : Expr} {b : Block} {arms : Arms} {s s' s'' : State} {v : Tree} {o : Result Flow Stop} →
        Evaluates T c e s (Ok v) s' → is_true v ≡ false → Selects T c arms s' o s'' →
        Selects T c (elseif e b arms) s o s''

  -- A turn of a loop takes a tick as it begins; then the loop's variable is set, if it has one. After `None` the next
  -- turn follows.
  pub data Turns (T : Telling) : Context → Option (List ℕ) → List Binding → Block → State → Option (Result Flow Stop) → State → Type 0 where
    turn_spent : {c : Context} {own : Option (List ℕ)} {bindings : List Binding} {b : Block} {s : State} →
        s.ticks ≡ 0 →
        Turns T c own bindings b s (Some (Err (out_of_ticks (trace c s)))) s
    turns : {c : Context} {own : Option (List ℕ)} {bindings : List Binding} {b : Block} {s s' s'' : State} {o : Result Flow Stop} {r : Option (Result Flow Stop)} →
        0 < s.ticks → bound bindings (ticked s) ≡ s' → RunsAll T c b s' o s'' → after_turn own o ≡ r →
        Turns T c own bindings b s r s''

  -- A `while` loop from a test on.
  pub data Loops (T : Telling) : Context → Option (List ℕ) → Expr → Block → State → Result Flow Stop → State → Type 0 where
    loop_stops : {c : Context} {own : Option (List ℕ)} {e : Expr} {b : Block} {s s' : State} {stop : Stop} →
        Evaluates T c e s (Err stop) s' →
        Loops T c own e b s (Err stop) s'
    loop_ends : {c : Context} {own : Option (List ℕ)} {e : Expr} {b : Block} {s s' : State} {v : Tree} →
        Evaluates T c e s (Ok v) s' → is_true v ≡ false →
        Loops T c own e b s (Ok next) s'
    loop_left : {c : Context} {own : Option (List ℕ)} {e : Expr} {b : Block} {s s' s'' : State} {v : Tree} {o : Result Flow Stop} →
        Evaluates T c e s (Ok v) s' → is_true v ≡ true → Turns T c own [] b s' (Some o) s'' →
        Loops T c own e b s o s''
    loop_then : {c : Context} {own : Option (List ℕ)} {e : Expr} {b : Block} {s s' s'' s3 : State} {v : Tree} {o : Result Flow Stop} →
        Evaluates T c e s (Ok v) s' → is_true v ≡ true → Turns T c own [] b s' None s'' → Loops T c own e b s'' o s3 →
        Loops T c own e b s o s3

  -- A `for` loop over the values that are left. Its name is its variable.
  pub data Visits (T : Telling) : Context → List ℕ → List Tree → Block → State → Result Flow Stop → State → Type 0 where
    all_visited : {c : Context} {x : List ℕ} {b : Block} {s : State} →
        Visits T c x [] b s (Ok next) s
    visit_left : {c : Context} {x : List ℕ} {v : Tree} {vs : List Tree} {b : Block} {s s' : State} {o : Result Flow Stop} →
        Turns T c (Some x) (bind x v ∷ []) b s (Some o) s' →
        Visits T c x (v ∷ vs) b s o s'
    visit_then : {c : Context} {x : List ℕ} {v : Tree} {vs : List Tree} {b : Block} {s s' s'' : State} {o : Result Flow Stop} →
        Turns T c (Some x) (bind x v ∷ []) b s None s' → Visits T c x vs b s' o s'' →
        Visits T c x (v ∷ vs) b s o s''

  -- A `for` loop from a number on up to the end of the span.
  pub data Counts (T : Telling) : Context → List ℕ → Span → ℤ → Block → State → Result Flow Stop → State → Type 0 where
    all_counted : {c : Context} {x : List ℕ} {span : Span} {n : ℤ} {b : Block} {s : State} →
        int_le n span.high ≡ false →
        Counts T c x span n b s (Ok next) s
    count_left : {c : Context} {x : List ℕ} {span : Span} {n : ℤ} {b : Block} {s s' : State} {o : Result Flow Stop} →
        int_le n span.high ≡ true → Turns T c (Some x) (bind x (numbered span.are_objects n) ∷ []) b s (Some o) s' →
        Counts T c x span n b s o s'
    count_then : {c : Context} {x : List ℕ} {span : Span} {n : ℤ} {b : Block} {s s' s'' : State} {o : Result Flow Stop} →
        int_le n span.high ≡ true → Turns T c (Some x) (bind x (numbered span.are_objects n) ∷ []) b s None s' → Counts T c x span (n +ℤ pos 1) b s' o s'' →
        Counts T c x span n b s o s''

  -- An error that a handler names is handled. Its variable is set before its statements run; past the limits E_QUOTA
  -- is raised out of the `try`, whatever the d bit.
  pub data Handles (T : Telling) : Context → List Guarded → Result Flow Stop → State → Result Flow Stop → State → Type 0 where
    nothing_raised : {c : Context} {all : List Guarded} {flow : Flow} {s : State} →
        Handles T c all (Ok flow) s (Ok flow) s
    ticks_out : {c : Context} {all : List Guarded} {entries : List TraceEntry} {s : State} →
        Handles T c all (Err (out_of_ticks entries)) s (Err (out_of_ticks entries)) s
    handles : {c : Context} {all : List Guarded} {raise : Raise} {taken : Option Guarded} {s s' : State} {o : Result Flow Stop} →
        chosen all raise.code ≡ taken → Takes T c taken raise s o s' →
        Handles T c all (Err (raised raise)) s o s'

  pub data Takes (T : Telling) : Context → Option Guarded → Raise → State → Result Flow Stop → State → Type 0 where
    untaken : {c : Context} {raise : Raise} {s : State} →
        Takes T c None raise s (Err (raised raise)) s
    untold : {c : Context} {g : Guarded} {raise : Raise} {s : State} {failure : Failure} →
        answers (told_as c.callers g.name raise) ≡ Err failure →
        Takes T c (Some g) raise s (Err (raised_by (trace c s) failure)) s
    takes : {c : Context} {g : Guarded} {raise : Raise} {bindings : List Binding} {s s' s'' : State} {o : Result Flow Stop} →
        told_as c.callers g.name raise ≡ Ok bindings → bound bindings s ≡ s' → RunsAll T c g.body s' o s'' →
        Takes T c (Some g) raise s o s''
