-- The meaning of the program's values.
use Rattle.std.specs.Prelude.{ℕ, Bool, IsTrue, List, [], Option, Some, None, Result, Ok, Err, map, option_map, reverse}
use Rattle.std.specs.Borrow.{Bor}
use Rattle.std.specs.declared.vec.Vec.{Vec}
use Rattle.std.specs.declared.boxed.Box.{Box}
use Rattle.std.specs.declared.alloc.Global.{Global}
use Rattle.moo_value.specs.declared.value.Value.{Value}
use Rattle.moo_value.specs.Tree.{Tree}
use Rattle.moo_value.specs.View.{tree, trees}
use Rattle.moo_eval_frame.specs.declared.frame.CallStack.{CallStack}
use Rattle.moo_eval_frame.specs.declared.frame.Activation.{Activation}
use Rattle.moo_eval_frame.specs.declared.surroundings.Surroundings as code_surroundings
use Rattle.moo_eval_frame.specs.declared.variables.Variables.{Variables}
use Rattle.moo_eval_frame.specs.declared.variables.Variable.{Variable}
use Rattle.moo_eval_frame.specs.declared.outcome.Raise as code_raise
use Rattle.moo_eval_frame.specs.declared.outcome.Stop as code_stop
use Rattle.moo_eval_frame.specs.declared.outcome.Stop.TheVariants as stop_case
use Rattle.moo_eval_frame.specs.declared.outcome.Failure as code_failure
use Rattle.moo_eval_frame.specs.declared.outcome.Failure.TheVariants as failure_case
use Rattle.moo_eval_frame.specs.declared.outcome.Flow as code_flow
use Rattle.moo_eval_frame.specs.declared.outcome.Flow.TheVariants as flow_case
use Rattle.moo_syntax_ast.specs.Given.{given_names}
use Rattle.moo_eval_slot.specs.Bindings.{Binding, value_of_name}
use Rattle.moo_eval_slot.specs.Held.{slot_value}
use Rattle.moo_eval_frame.specs.GivenValues.{given_values}
use Rattle.moo_eval_frame.specs.Surroundings.{Surroundings}
use Rattle.moo_eval_frame.specs.State.{Context, entries}
use Rattle.moo_eval_frame.specs.declared.frame.TraceEntry.{TraceEntry}
use Rattle.moo_eval_frame.specs.Outcome.{Raise, Stop, raised, out_of_ticks, Failure, fails, stops, Flow, next, returned, broken, continued}

abbrev pub binding_of : Variable → Binding
binding_of v = record { name = v.name; value = tree v.value }

-- of these variables the newest, the last one, hides the others of its name
abbrev pub value_among : List Variable → List ℕ → Option Tree
value_among others = value_of_name (map binding_of (reverse others))

-- the variables that the program doesn't have
abbrev pub others_of : Option (Box (Vec Variable Global) Global) → List Variable
others_of None = []
others_of (Some all) = all.value.items

-- the variables that not every frame has
abbrev pub own_variables : Variables → List ℕ → Option Tree
own_variables variables = slot_value variables.own.names variables.own.values (value_among (others_of variables.others))

-- the value that a folded name has
unfoldable pub variables_of : Variables → List ℕ → Option Tree
variables_of variables = slot_value given_names (given_values variables.given) (own_variables variables)

-- the values in slots
abbrev pub seen_values : List (Option Value) → List (Option Tree)
seen_values = map (option_map (λ v. tree v))

-- the values of these bindings, each there
abbrev pub bound_values : List Binding → List (Option Tree)
bound_values = map (λ b. Some b.value)

abbrev pub indexed_of : Option (Bor Value) → Option Tree
indexed_of indexed = option_map (λ v. tree v.now) indexed

abbrev pub surroundings_of : code_surroundings.Surroundings → Surroundings
surroundings_of s = record { moment = s.moment; connections = s.connections.now }

-- the context of the running frame, inside an index of this value if there is one
abbrev pub context_of : CallStack → Option (Bor Value) → Context
context_of stack indexed = record {
  frame = stack.running;
  callers = stack.callers;
  indexed = indexed_of indexed;
  surroundings = surroundings_of stack.surroundings.now;
}

-- the entries from the running frame down
abbrev pub trace_of : CallStack → Activation → List TraceEntry
trace_of stack active = entries stack.running active.programmer stack.callers

abbrev pub raise_of : code_raise.Raise → Raise
raise_of raise = let account = raise.account.value in record { code = account.code; message = account.message; value = tree account.value; trace = account.trace.items }

-- Lack of memory has no meaning: `IsKnown` is false of it, so its value here is never read.
abbrev pub stop_of : code_stop.Stop → Stop
stop_of (stop_case.Raised raise) = raised (raise_of raise)
stop_of (stop_case.OutOfTicks trace) = out_of_ticks trace.value.items
stop_of stop_case.Memory = out_of_ticks []

abbrev pub failure_of : code_failure.Failure → Failure
failure_of (failure_case.Fails code) = fails code
failure_of (failure_case.Stops stop) = stops (stop_of stop)

abbrev pub flow_of : code_flow.Flow → Flow
flow_of flow_case.Next = next
flow_of (flow_case.Return v) = returned (tree v)
flow_of (flow_case.Break name) = broken name
flow_of (flow_case.Continue name) = continued name

abbrev pub seen_value : Result Value code_stop.Stop → Result Tree Stop
seen_value (Ok v) = Ok (tree v)
seen_value (Err stop) = Err (stop_of stop)

abbrev pub seen_answer : Result Value code_failure.Failure → Result Tree Failure
seen_answer (Ok v) = Ok (tree v)
seen_answer (Err failure) = Err (failure_of failure)

abbrev pub seen_answers : Result (Vec Value Global) code_failure.Failure → Result (List Tree) Failure
seen_answers (Ok vs) = Ok (trees vs.items)
seen_answers (Err failure) = Err (failure_of failure)

-- the meaning of a result, by the meaning of its value
abbrev pub seen_by : {A B : Type 0} → (A → B) → Result A code_failure.Failure → Result B Failure
seen_by f (Ok v) = Ok (f v)
seen_by f (Err failure) = Err (failure_of failure)

abbrev pub seen_done : Result (Unit {0}) code_failure.Failure → Result (Unit {0}) Failure
seen_done (Ok done) = Ok tt
seen_done (Err failure) = Err (failure_of failure)

abbrev pub seen_flow : Result code_flow.Flow code_stop.Stop → Result Flow Stop
seen_flow (Ok flow) = Ok (flow_of flow)
seen_flow (Err stop) = Err (stop_of stop)

-- how a loop ends after a turn, or none if it goes on
abbrev pub seen_turn : Result (Option code_flow.Flow) code_stop.Stop → Option (Result Flow Stop)
seen_turn (Ok None) = None
seen_turn (Ok (Some flow)) = Some (Ok (flow_of flow))
seen_turn (Err stop) = Some (Err (stop_of stop))

-- there was memory enough
abbrev pub HadMemory : code_stop.Stop → Type 0
HadMemory (stop_case.Raised raise) = Unit {0}
HadMemory (stop_case.OutOfTicks trace) = Unit {0}
HadMemory stop_case.Memory = ⊥

-- an outcome that the meaning speaks of: lack of memory may come anywhere, and nothing is said of it
abbrev pub IsKnown : {A : Type 0} → Result A code_stop.Stop → Type 0
IsKnown (Ok v) = Unit {0}
IsKnown (Err stop) = HadMemory stop

abbrev pub HadMemoryIn : code_failure.Failure → Type 0
HadMemoryIn (failure_case.Fails code) = Unit {0}
HadMemoryIn (failure_case.Stops stop) = HadMemory stop

abbrev pub IsKnownFailure : {A : Type 0} → Result A code_failure.Failure → Type 0
IsKnownFailure (Ok v) = Unit {0}
IsKnownFailure (Err failure) = HadMemoryIn failure

-- memory runs out only if this holds
abbrev pub LacksOnlyWhere : Type 0 → code_stop.Stop → Type 0
LacksOnlyWhere P (stop_case.Raised raise) = Unit {0}
LacksOnlyWhere P (stop_case.OutOfTicks trace) = Unit {0}
LacksOnlyWhere P stop_case.Memory = P

abbrev pub LacksOnlyIn : Type 0 → code_failure.Failure → Type 0
LacksOnlyIn P (failure_case.Fails code) = Unit {0}
LacksOnlyIn P (failure_case.Stops stop) = LacksOnlyWhere P stop

-- Settling a failure may lack memory. With the d bit an error may, since it is raised with its traceback. A stop does
-- if memory ran out before.
abbrev pub MayLack : Bool → code_failure.Failure → Type 0
MayLack d (failure_case.Fails code) = IsTrue d
MayLack d (failure_case.Stops stop) = ¬ HadMemory stop
