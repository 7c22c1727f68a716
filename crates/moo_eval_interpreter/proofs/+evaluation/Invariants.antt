use Rattle.std.proofs.Common.{◌+◌, ◌*◌, ◌≤◌, ◌<◌, drop, map, List, Result, None}
use Rattle.moo_value.specs.Tree.{Tree}
use Rattle.moo_value.specs.View.{trees}
use Rattle.moo_syntax_node.specs.Source.{source, source_items}
use Rattle.moo_syntax_node.specs.Blocks.{source_block, source_arm_list, source_handler_list}
use Rattle.moo_eval_frame.specs.Outcome.{Failure, Flow, Stop}
use Rattle.moo_eval_access.specs.State.{State}
use Rattle.moo_eval_access.specs.Target.{Path}
use Rattle.moo_eval_semantics.specs.Meaning.{EvaluatesAll, Locates, Enters, SetsDefaults, RunsAll, Selects, Loops, Visits, Counts, Prepares}
use Rattle.moo_eval_access.specs.SeenTarget.{root_seen, steps_of, spot_of}
use Rattle.moo_eval_control.specs.SeenScatter.{left_out_of}
use Rattle.moo_eval_frame.specs.Seen.{context_of}
use Rattle.moo_builtin.specs.Telling.{Faults}
use Rattle.moo_eval_task.specs.Seen.{state_of}
use Rattle.moo_eval_task.specs.Arguments.{is_splice}
use Rattle.moo_eval_task.specs.Hooks.{HasStatements, LeadsTo, pending_progress}
use Rattle.moo_eval_hook.specs.SeenByHooks.{progress_of}
use Rattle.std.specs.Prelude.{◌≤ℤ◌, ◌≡◌, false}
use Rattle.std.specs.List.{list_any}
use Rattle.moo_eval_control.specs.Handling.{Guarded, guarded_before}
use Rattle.moo_eval_control.specs.SeenHandling.{guarded_of}
use Rattle.moo_eval_semantics.specs.Operands.{before}
use Rattle.moo_eval_interpreter.proofs.+evaluation.Given as goal

-- Each node, statement and turn takes a tick; between two ticks the calls go down these ranks.

abbrev pub decreases-interpreter::evaluate : goal.decreases-interpreter::evaluate
decreases-interpreter::evaluate l = 16 * l.task.now.ticks_left + 3

abbrev pub decreases-conditions::passes : goal.decreases-conditions::passes
decreases-conditions::passes l = 16 * l.task.now.ticks_left + 7

abbrev pub decreases-arithmetic::evaluate_tried : goal.decreases-arithmetic::evaluate_tried
decreases-arithmetic::evaluate_tried l = 16 * l.task.now.ticks_left + 4

abbrev pub decreases-arithmetic::arithmetic : goal.decreases-arithmetic::arithmetic
decreases-arithmetic::arithmetic l = 16 * l.task.now.ticks_left + 7

abbrev pub decreases-conditions::node_passes : goal.decreases-conditions::node_passes
decreases-conditions::node_passes l = 16 * l.task.now.ticks_left + 6

abbrev pub decreases-conditions::value_passes : goal.decreases-conditions::value_passes
decreases-conditions::value_passes l = 16 * l.task.now.ticks_left + 5

abbrev pub decreases-conditions::binary_passes : goal.decreases-conditions::binary_passes
decreases-conditions::binary_passes l = 16 * l.task.now.ticks_left

abbrev pub decreases-conditions::logic_passes : goal.decreases-conditions::logic_passes
decreases-conditions::logic_passes l = 16 * l.task.now.ticks_left

abbrev pub decreases-conditions::not_passes : goal.decreases-conditions::not_passes
decreases-conditions::not_passes l = 16 * l.task.now.ticks_left

abbrev pub decreases-nodes::evaluate_node : goal.decreases-nodes::evaluate_node
decreases-nodes::evaluate_node l = 16 * l.task.now.ticks_left + 2

abbrev pub decreases-assignment::assign_value : goal.decreases-assignment::assign_value
decreases-assignment::assign_value l = 16 * l.task.now.ticks_left + 1

abbrev pub decreases-lengthening::lengthen : goal.decreases-lengthening::lengthen
decreases-lengthening::lengthen l = 16 * l.task.now.ticks_left + 1

abbrev pub decreases-update::update : goal.decreases-update::update
decreases-update::update l = 16 * l.task.now.ticks_left

abbrev pub decreases-update::put_updated : goal.decreases-update::put_updated
decreases-update::put_updated l = 16 * l.task.now.ticks_left + 12

abbrev pub decreases-lengthening::put_longer : goal.decreases-lengthening::put_longer
decreases-lengthening::put_longer l = 16 * l.task.now.ticks_left + 6

abbrev pub decreases-extension::extend_value : goal.decreases-extension::extend_value
decreases-extension::extend_value l = 16 * l.task.now.ticks_left + 1

abbrev pub decreases-extension::put_extended : goal.decreases-extension::put_extended
decreases-extension::put_extended l = 16 * l.task.now.ticks_left + 7

abbrev pub decreases-element::set_element : goal.decreases-element::set_element
decreases-element::set_element l = 16 * l.task.now.ticks_left

abbrev pub decreases-element::put_at : goal.decreases-element::put_at
decreases-element::put_at l = 16 * l.task.now.ticks_left + 7

abbrev pub decreases-interpreter::evaluate_all : goal.decreases-interpreter::evaluate_all
decreases-interpreter::evaluate_all l = 16 * l.task.now.ticks_left + 7

abbrev pub decreases-operators::unary : goal.decreases-operators::unary
decreases-operators::unary l = 16 * l.task.now.ticks_left + 7

abbrev pub decreases-operators::binary : goal.decreases-operators::binary
decreases-operators::binary l = 16 * l.task.now.ticks_left + 7

abbrev pub decreases-deciding::logic : goal.decreases-deciding::logic
decreases-deciding::logic l = 16 * l.task.now.ticks_left + 7

abbrev pub decreases-deciding::logic_alone : goal.decreases-deciding::logic_alone
decreases-deciding::logic_alone l = 16 * l.task.now.ticks_left

abbrev pub decreases-deciding::conditional : goal.decreases-deciding::conditional
decreases-deciding::conditional l = 16 * l.task.now.ticks_left + 8

abbrev pub decreases-operators::index : goal.decreases-operators::index
decreases-operators::index l = 16 * l.task.now.ticks_left + 7

abbrev pub decreases-operators::range : goal.decreases-operators::range
decreases-operators::range l = 16 * l.task.now.ticks_left + 7

abbrev pub decreases-operators::list : goal.decreases-operators::list
decreases-operators::list l = 16 * l.task.now.ticks_left + 8

abbrev pub decreases-calls::verb_call : goal.decreases-calls::verb_call
decreases-calls::verb_call l = 16 * l.task.now.ticks_left + 11

abbrev pub decreases-calls::call_verb : goal.decreases-calls::call_verb
decreases-calls::call_verb l = 16 * l.task.now.ticks_left + 9

abbrev pub decreases-calls::call_written : goal.decreases-calls::call_written
decreases-calls::call_written l = 16 * l.task.now.ticks_left + 9

abbrev pub decreases-arguments::evaluate_arguments : goal.decreases-arguments::evaluate_arguments
decreases-arguments::evaluate_arguments l = 16 * l.task.now.ticks_left + 9

abbrev pub decreases-arguments::evaluate_elements : goal.decreases-arguments::evaluate_elements
decreases-arguments::evaluate_elements l = 16 * l.task.now.ticks_left + 7

abbrev pub decreases-arguments::splice_arguments : goal.decreases-arguments::splice_arguments
decreases-arguments::splice_arguments l = 16 * l.task.now.ticks_left + 8

abbrev pub decreases-calls::run_called : goal.decreases-calls::run_called
decreases-calls::run_called l = 16 * l.task.now.ticks_left + 7

abbrev pub decreases-calls::proceed : goal.decreases-calls::proceed
decreases-calls::proceed l = 16 * l.task.now.ticks_left + 8

abbrev pub decreases-functions::call : goal.decreases-functions::call
decreases-functions::call l = 16 * l.task.now.ticks_left + 13

abbrev pub decreases-functions::call_unary : goal.decreases-functions::call_unary
decreases-functions::call_unary l = 16 * l.task.now.ticks_left + 10

abbrev pub decreases-functions::call_any : goal.decreases-functions::call_any
decreases-functions::call_any l = 16 * l.task.now.ticks_left + 12

abbrev pub decreases-functions::call_spliced : goal.decreases-functions::call_spliced
decreases-functions::call_spliced l = 16 * l.task.now.ticks_left + 11

abbrev pub decreases-functions::call_with : goal.decreases-functions::call_with
decreases-functions::call_with l = 16 * l.task.now.ticks_left + 10

abbrev pub decreases-functions::call_caller : goal.decreases-functions::call_caller
decreases-functions::call_caller l = 16 * l.task.now.ticks_left + 9

abbrev pub decreases-catching::catch : goal.decreases-catching::catch
decreases-catching::catch l = 16 * l.task.now.ticks_left + 10

abbrev pub decreases-catching::attempt : goal.decreases-catching::attempt
decreases-catching::attempt l = 16 * l.task.now.ticks_left

abbrev pub decreases-catching::guards : goal.decreases-catching::guards
decreases-catching::guards l = 16 * l.task.now.ticks_left + 9

abbrev pub decreases-catching::evaluate_codes : goal.decreases-catching::evaluate_codes
decreases-catching::evaluate_codes l = 16 * l.task.now.ticks_left + 8

abbrev pub decreases-assignment::assign : goal.decreases-assignment::assign
decreases-assignment::assign l = 16 * l.task.now.ticks_left + 10

abbrev pub decreases-assignment::assign_path : goal.decreases-assignment::assign_path
decreases-assignment::assign_path l = 16 * l.task.now.ticks_left + 9

abbrev pub decreases-assignment::locate : goal.decreases-assignment::locate
decreases-assignment::locate l = 16 * l.task.now.ticks_left + 8

abbrev pub decreases-assignment::find : goal.decreases-assignment::find
decreases-assignment::find l = 16 * l.task.now.ticks_left + 7

abbrev pub decreases-assignment::step : goal.decreases-assignment::step
decreases-assignment::step l = 16 * l.task.now.ticks_left + 7

abbrev pub decreases-assignment::store : goal.decreases-assignment::store
decreases-assignment::store l = 16 * l.task.now.ticks_left + 8

abbrev pub decreases-scattering::scatter : goal.decreases-scattering::scatter
decreases-scattering::scatter l = 16 * l.task.now.ticks_left + 7

abbrev pub decreases-scattering::set_defaults : goal.decreases-scattering::set_defaults
decreases-scattering::set_defaults l = 16 * l.task.now.ticks_left + 6

-- what the rest gives, after the values so far, is what all items give
abbrev pub invariant-interpreter::evaluate_all-loop-item : goal.invariant-interpreter::evaluate_all-loop-item
invariant-interpreter::evaluate_all-loop-item l = record {
  ticks : l.task.ticks_left ≤ l.fn.task.ticks_left;
  rest : (o : Result (List Tree) Failure) (s : State) → EvaluatesAll Faults (context_of l.stack l.indexed) (source_items (drop l.item-index l.items)) (state_of l.task l.world l.active) o s → EvaluatesAll Faults (context_of l.stack l.indexed) (source_items l.items) (state_of l.fn.task l.fn.world l.fn.active) (before l.values o) s;
}

-- what the rest gives, after the values so far, is what all items give, and nothing is spliced in
abbrev pub invariant-arguments::evaluate_elements-loop-item : goal.invariant-arguments::evaluate_elements-loop-item
invariant-arguments::evaluate_elements-loop-item l = record {
  ticks : l.task.ticks_left ≤ l.fn.task.ticks_left;
  plain : list_any is_splice (drop l.item-index l.items) ≡ false;
  rest : (o : Result (List Tree) Failure) (s : State) → EvaluatesAll Faults (context_of l.stack l.indexed) (source_items (drop l.item-index l.items)) (state_of l.task l.world l.active) o s → EvaluatesAll Faults (context_of l.stack l.indexed) (source_items l.items) (state_of l.fn.task l.fn.world l.fn.active) (before (trees l.values.items) o) s;
}

-- where the rest leads, the whole target leads
abbrev pub invariant-assignment::locate-loop-spot : goal.invariant-assignment::locate-loop-spot
invariant-assignment::locate-loop-spot l = record {
  ticks : l.task.ticks_left ≤ l.fn.task.ticks_left;
  rest : (o : Result Path Failure) (s : State) → Enters Faults (context_of l.stack l.indexed) (root_seen l.path.root) (steps_of l.path.steps.items) (map spot_of (drop l.spot-index l.spot-items)) (state_of l.task l.world l.active) o s → Locates Faults (context_of l.stack l.indexed) (source l.target) (state_of l.fn.task l.fn.world l.fn.active) o s;
}

-- what the rest does is what all defaults do
abbrev pub invariant-scattering::set_defaults-loop-default : goal.invariant-scattering::set_defaults-loop-default
invariant-scattering::set_defaults-loop-default l = record {
  ticks : l.task.ticks_left ≤ l.fn.task.ticks_left;
  rest : (o : Result (Unit {0}) Failure) (s : State) → SetsDefaults Faults (context_of l.stack l.indexed) (map left_out_of (drop l.default-index l.defaults)) (state_of l.task l.world l.active) o s → SetsDefaults Faults (context_of l.stack l.indexed) (map left_out_of l.defaults) (state_of l.fn.task l.fn.world l.fn.active) o s;
}

abbrev pub decreases-statement::run_block : goal.decreases-statement::run_block
decreases-statement::run_block l = 16 * l.task.now.ticks_left + 5

abbrev pub decreases-statement::run_all : goal.decreases-statement::run_all
decreases-statement::run_all l = 16 * l.task.now.ticks_left + 6

abbrev pub decreases-statement::select : goal.decreases-statement::select
decreases-statement::select l = 16 * l.task.now.ticks_left + 8

abbrev pub decreases-loops::for_list : goal.decreases-loops::for_list
decreases-loops::for_list l = 16 * l.task.now.ticks_left + 7

abbrev pub decreases-loops::for_range : goal.decreases-loops::for_range
decreases-loops::for_range l = 16 * l.task.now.ticks_left + 7

abbrev pub decreases-trying::run_finally : goal.decreases-trying::run_finally
decreases-trying::run_finally l = 16 * l.task.now.ticks_left + 7

abbrev pub decreases-statement::branch : goal.decreases-statement::branch
decreases-statement::branch l = 16 * l.task.now.ticks_left + 10

abbrev pub decreases-statement::choose : goal.decreases-statement::choose
decreases-statement::choose l = 16 * l.task.now.ticks_left + 9

abbrev pub decreases-trying::run_except : goal.decreases-trying::run_except
decreases-trying::run_except l = 16 * l.task.now.ticks_left + 12

abbrev pub decreases-trying::run_with_handler : goal.decreases-trying::run_with_handler
decreases-trying::run_with_handler l = 16 * l.task.now.ticks_left + 11

abbrev pub decreases-trying::run_with_handlers : goal.decreases-trying::run_with_handlers
decreases-trying::run_with_handlers l = 16 * l.task.now.ticks_left + 11

abbrev pub decreases-trying::end_try : goal.decreases-trying::end_try
decreases-trying::end_try l = 16 * l.task.now.ticks_left + 8

abbrev pub decreases-statement::perform : goal.decreases-statement::perform
decreases-statement::perform l = 16 * l.task.now.ticks_left + 13

abbrev pub decreases-trying::prepare : goal.decreases-trying::prepare
decreases-trying::prepare l = 16 * l.task.now.ticks_left + 10

abbrev pub decreases-trying::code_values : goal.decreases-trying::code_values
decreases-trying::code_values l = 16 * l.task.now.ticks_left + 9

abbrev pub decreases-statement::give : goal.decreases-statement::give
decreases-statement::give l = 16 * l.task.now.ticks_left + 7

abbrev pub decreases-property::set_property : goal.decreases-property::set_property
decreases-property::set_property l = 16 * l.task.now.ticks_left

abbrev pub decreases-property::put_property : goal.decreases-property::put_property
decreases-property::put_property l = 16 * l.task.now.ticks_left + 7

abbrev pub decreases-property_element::set_property_element : goal.decreases-property_element::set_property_element
decreases-property_element::set_property_element l = 16 * l.task.now.ticks_left

abbrev pub decreases-property_element::put_property_element : goal.decreases-property_element::put_property_element
decreases-property_element::put_property_element l = 16 * l.task.now.ticks_left + 4

abbrev pub decreases-scattering::scatter_alone : goal.decreases-scattering::scatter_alone
decreases-scattering::scatter_alone l = 16 * l.task.now.ticks_left

abbrev pub decreases-statement::drop_value : goal.decreases-statement::drop_value
decreases-statement::drop_value l = 16 * l.task.now.ticks_left + 4

abbrev pub decreases-statement::evaluate_alone : goal.decreases-statement::evaluate_alone
decreases-statement::evaluate_alone l = 16 * l.task.now.ticks_left + 7

-- what the rest does is what all statements do
abbrev pub invariant-statement::run_block-loop-statement : goal.invariant-statement::run_block-loop-statement
invariant-statement::run_block-loop-statement l = record {
  ticks : l.task.ticks_left ≤ l.fn.task.ticks_left;
  fewer : 0 < l.statement-index → l.task.ticks_left < l.fn.task.ticks_left;
  rest : (o : Result Flow Stop) (s : State) → RunsAll Faults (context_of l.stack None) (source_block (drop l.statement-index l.statements)) (state_of l.task l.world l.active) o s → RunsAll Faults (context_of l.stack None) (source_block l.statements) (state_of l.fn.task l.fn.world l.fn.active) o s;
}

-- what the rest does is what all arms do
abbrev pub invariant-statement::select-loop-arm : goal.invariant-statement::select-loop-arm
invariant-statement::select-loop-arm l = record {
  ticks : l.task.ticks_left ≤ l.fn.task.ticks_left;
  rest : (o : Result Flow Stop) (s : State) → Selects Faults (context_of l.stack None) (source_arm_list (drop l.arm-index l.arms)) (state_of l.task l.world l.active) o s → Selects Faults (context_of l.stack None) (source_arm_list l.arms) (state_of l.fn.task l.fn.world l.fn.active) o s;
}

-- what the loop does from here is what it does from its start
-- what the rest of the values does is what all do
-- what the loop does from here is what it does from its start
-- what the rest gives, after the handlers so far, is what all give
abbrev pub invariant-trying::prepare-loop-handler : goal.invariant-trying::prepare-loop-handler
invariant-trying::prepare-loop-handler l = record {
  ticks : l.task.ticks_left ≤ l.fn.task.ticks_left;
  rest : (o : Result (List Guarded) Stop) (s : State) → Prepares Faults (context_of l.stack None) (source_handler_list (drop l.handler-index l.handlers)) (state_of l.task l.world l.active) o s → Prepares Faults (context_of l.stack None) (source_handler_list l.handlers) (state_of l.fn.task l.fn.world l.fn.active) (guarded_before (map guarded_of l.guarded.items) o) s;
}

-- what the function does from here is what it does from its first step
abbrev pub invariant-calls::proceed-verbs : goal.invariant-calls::proceed-verbs
invariant-calls::proceed-verbs l = record {
  ticks : l.task.ticks_left ≤ l.fn.task.ticks_left;
  statements : HasStatements l.pending;
  rest : LeadsTo Faults (context_of l.stack None) (progress_of l.fn.first) (state_of l.fn.task l.fn.world l.active) (pending_progress l.pending) (state_of l.task l.world l.active);
}

abbrev pub decreases-calls::proceed-verbs : goal.decreases-calls::proceed-verbs
decreases-calls::proceed-verbs l = l.task.ticks_left

abbrev pub decreases-scattering::scatter_names : goal.decreases-scattering::scatter_names
decreases-scattering::scatter_names l = 16 * l.task.now.ticks_left + 1

abbrev pub decreases-nodes::evaluate_parts : goal.decreases-nodes::evaluate_parts
decreases-nodes::evaluate_parts l = 16 * l.task.now.ticks_left

abbrev pub decreases-nodes::compute : goal.decreases-nodes::compute
decreases-nodes::compute l = 16 * l.task.now.ticks_left + 14

abbrev pub decreases-calls::call_literal : goal.decreases-calls::call_literal
decreases-calls::call_literal l = 16 * l.task.now.ticks_left + 10

abbrev pub decreases-calls::call_evaluated : goal.decreases-calls::call_evaluated
decreases-calls::call_evaluated l = 16 * l.task.now.ticks_left + 9

abbrev pub decreases-calls::call_computed : goal.decreases-calls::call_computed
decreases-calls::call_computed l = 16 * l.task.now.ticks_left + 10

abbrev pub decreases-property::written_property : goal.decreases-property::written_property
decreases-property::written_property l = 16 * l.task.now.ticks_left + 6

abbrev pub decreases-property::computed_property : goal.decreases-property::computed_property
decreases-property::computed_property l = 16 * l.task.now.ticks_left + 7

abbrev pub decreases-loops::turn : goal.decreases-loops::turn
decreases-loops::turn l = 16 * l.task.now.ticks_left + 1

abbrev pub decreases-loops::visit : goal.decreases-loops::visit
decreases-loops::visit l = 16 * l.task.now.ticks_left + 1

abbrev pub decreases-loops::repeat : goal.decreases-loops::repeat
decreases-loops::repeat l = 16 * l.task.now.ticks_left + 8

abbrev pub decreases-loops::visit_all : goal.decreases-loops::visit_all
decreases-loops::visit_all l = 16 * l.task.now.ticks_left + 6

abbrev pub decreases-loops::count : goal.decreases-loops::count
decreases-loops::count l = 16 * l.task.now.ticks_left + 6

abbrev pub invariant-loops::repeat-turns : goal.invariant-loops::repeat-turns
invariant-loops::repeat-turns l = record {
  ticks : l.task.ticks_left ≤ l.fn.task.ticks_left;
  rest : (o : Result Flow Stop) (s : State) → Loops Faults (context_of l.stack None) l.own (source l.test) (source_block l.body) (state_of l.task l.world l.active) o s → Loops Faults (context_of l.stack None) l.own (source l.test) (source_block l.body) (state_of l.fn.task l.fn.world l.fn.active) o s;
}

abbrev pub decreases-loops::repeat-turns : goal.decreases-loops::repeat-turns
decreases-loops::repeat-turns l = l.task.ticks_left

abbrev pub invariant-loops::visit_all-loop-value : goal.invariant-loops::visit_all-loop-value
invariant-loops::visit_all-loop-value l = record {
  ticks : l.task.ticks_left ≤ l.fn.task.ticks_left;
  rest : (o : Result Flow Stop) (s : State) → Visits Faults (context_of l.stack None) l.name (trees (drop l.value-index l.values)) (source_block l.body) (state_of l.task l.world l.active) o s → Visits Faults (context_of l.stack None) l.name (trees l.values) (source_block l.body) (state_of l.fn.task l.fn.world l.fn.active) o s;
}

abbrev pub invariant-loops::count-numbers : goal.invariant-loops::count-numbers
invariant-loops::count-numbers l = record {
  ticks : l.task.ticks_left ≤ l.fn.task.ticks_left;
  low : l.span.low ≤ℤ l.number;
  rest : (o : Result Flow Stop) (s : State) → Counts Faults (context_of l.stack None) l.name l.span l.number (source_block l.body) (state_of l.task l.world l.active) o s → Counts Faults (context_of l.stack None) l.name l.span l.span.low (source_block l.body) (state_of l.fn.task l.fn.world l.fn.active) o s;
}

abbrev pub decreases-loops::count-numbers : goal.decreases-loops::count-numbers
decreases-loops::count-numbers l = l.task.ticks_left

abbrev pub decreases-deferred::evaluate_stored : goal.decreases-deferred::evaluate_stored
decreases-deferred::evaluate_stored l = 16 * l.task.now.ticks_left + 6

abbrev pub decreases-deferred::defer : goal.decreases-deferred::defer
decreases-deferred::defer l = 16 * l.task.now.ticks_left + 12

abbrev pub decreases-deferred::defer_range : goal.decreases-deferred::defer_range
decreases-deferred::defer_range l = 16 * l.task.now.ticks_left + 4

abbrev pub decreases-deferred::defer_appended : goal.decreases-deferred::defer_appended
decreases-deferred::defer_appended l = 16 * l.task.now.ticks_left + 4

abbrev pub decreases-deferred::defer_prepended : goal.decreases-deferred::defer_prepended
decreases-deferred::defer_prepended l = 16 * l.task.now.ticks_left + 4

abbrev pub decreases-deferred::defer_extended : goal.decreases-deferred::defer_extended
decreases-deferred::defer_extended l = 16 * l.task.now.ticks_left + 8

abbrev pub decreases-deferred::defer_call : goal.decreases-deferred::defer_call
decreases-deferred::defer_call l = 16 * l.task.now.ticks_left + 11

abbrev pub decreases-assignment::assign_changed : goal.decreases-assignment::assign_changed
decreases-assignment::assign_changed l = 16 * l.task.now.ticks_left + 6

abbrev pub decreases-deferred::evaluate_deferred : goal.decreases-deferred::evaluate_deferred
decreases-deferred::evaluate_deferred l = 16 * l.task.now.ticks_left + 5
