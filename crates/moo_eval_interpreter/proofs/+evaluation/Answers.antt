use Rattle.std.proofs.Common.{not, ⊎_elim, ◌-◌, ◌∷◌, [], Ok, Err, refl, sym, ap, subst, ◌∙◌, arith, rules, Some, None, ◌+◌, drop, map}
use Rattle.std.proofs.lemmas.Result.{IfOk-weaker, err_from_is_err_and, on_ok_weaker}
use Rattle.std.proofs.lemmas.List.{append-nil}
use Rattle.std.proofs.lemmas.Int.{to_z-of_z}
use Rattle.std.proofs.Math.ListN.{drop_of_length-le}
use Rattle.moo_eval_frame.specs.Outcome.{fails, stops, answers, next}
use Rattle.moo_value.specs.View.{tree, trees}
use Rattle.moo_syntax_node.specs.Source.{source, source_items, source_codes}
use Rattle.moo_syntax_node.specs.Blocks.{source_block, source_handler_list}
use Rattle.moo_eval_task.specs.declared.task.Task.{Task}
use Rattle.moo_eval_frame.specs.declared.frame.Activation.{Activation}
use Rattle.moo_eval_frame.specs.Seen.{context_of, stop_of, failure_of, flow_of, variables_of, seen_answers, trace_of}
use Rattle.moo_builtin.specs.Telling.{Faults}
use Rattle.moo_eval_semantics.specs.VerbCalls.{verb_caller}
use Rattle.moo_eval_task.specs.Seen.{state_of}
use Rattle.moo_eval_semantics.specs.Meaning.{Computes, EvaluatesAll, spent, begins, operands_end, places_end, applies, no_more, element_stops, element_then, splice_stops, splice_fails, splice_then, literal_is, variable_is, length_is, unary_is, binary_is, logic_decides, logic_goes_on, conditional_true, conditional_false, index_is, range_is, list_is, property_is, verb_fails, verb_runs, call_is, call_runs, is_done, hook_stops, hook_then, assign_is, target_ends, value_stops, assigns, root_ends, locates, parts_end, finds, inside, step_ends, enters, unread, spot_ends, steps_in, no_store, stores, none_missing, default_stops, default_then, Counts, statement_spent, statement_begins, selects, list_stops, list_fails, visits, span_stops, span_fails, counts, loops, breaks_out, continues_on, unprepared, tries, finally_skipped, finally_runs, ends, leaves, proceeds, none_selected, else_runs, test_stops, arm_runs, arm_passed, turn_spent, turns, loop_stops, loop_ends, loop_left, loop_then, all_visited, visit_left, visit_then, all_counted, count_left, count_then, nothing_raised, ticks_out, handles, Prepares, no_codes, codes_stop, codes_then, gives_zero, gives, evaluates}
use Rattle.moo_value.specs.declared.error_code.ErrorCode.TheVariants.{TypeMismatch}
use Rattle.moo_eval_access.specs.SeenTarget.{path_of}
use Rattle.moo_eval_task.proofs.Hooking.{comes_on}
use Rattle.moo_eval_interpreter.proofs.Operands.{goes_on}
use Rattle.moo_eval_interpreter.proofs.Caught.{guards_end, attempt_stops, attempt_gives, attempt_caught, attempt_goes_on, attempt_spent}
use Rattle.moo_syntax_ast.specs.Tree as program
use Rattle.moo_syntax_ast.specs.declared.tree.Literal.TheVariants.{Str}
use Rattle.moo_syntax_ast.specs.declared.operator.BinaryOperator.TheVariants.{Add}
use Rattle.moo_syntax_ast.specs.Tree.{variable, binary, element, no_handler}
use Rattle.moo_eval_task.proofs.Lengthened.{lengthened, longer, too_long, first_stops, first_fails, unspliced, second_stops, longer_all, too_long_by, spliced_stops, spliced_fails, items_end}
use Rattle.moo_eval_interpreter.proofs.Prepended as front
use Rattle.moo_eval_task.specs.Element.{sets_place}
use Rattle.moo_eval_task.proofs.Placed.{put, does_from, not_put, unheld, place_ends, value_ends, passed_over, stopped}
use Rattle.moo_eval_task.proofs.Direct.{assigned, unassigned, performed, unperformed, literal_read}
use Rattle.moo_eval_task.proofs.Extended.{extended, unextended}
use Rattle.moo_eval_interpreter.proofs.ListCalls.{list_called}
use Rattle.moo_eval_task.proofs.Stored.{known_put, known_refused, known_kept, part_stored, object_stops_part, name_stops_part, unread_part, place_stops_part, value_stops_part, part_put}
use Rattle.moo_eval_task.proofs.Properties as property
use Rattle.moo_builtin_operator.specs.Truth.{is_true, truth_value}
use Rattle.moo_eval_interpreter.proofs.ObjectCalls.{named}
use Rattle.moo_eval_interpreter.proofs.Passing.{undecided, decided, operand_stops, negated, not_stops, truth_of, if_err}
use Rattle.moo_eval_interpreter.proofs.Choosing.{passed}
use Rattle.moo_eval_interpreter.proofs.Conditional.{test_stopped, first_chosen, second_chosen}
use Rattle.moo_eval_deferred.specs.Deferred.{deferred_tree}
use Rattle.moo_eval_interpreter.proofs.Spliced.{plain_rest, not_spliced}
use Rattle.moo_eval_interpreter.proofs.Known.{codes_given, errors_given, errors_end, seen_listed}
use Rattle.moo_eval_control.specs.SeenCatching.{code_values}
use Rattle.moo_eval_frame.specs.Outcome.{out_of_ticks}
use Rattle.moo_value.specs.Tree.{error}
use Rattle.moo_eval_task.specs.Arguments.{is_splice}
use Rattle.moo_eval_task.proofs.Exits.{none_left, refused, gathered, unlisted, same_state, optional_ends, goes_on-not, state_at, guarded_on, property_put, runs_from}
use Rattle.moo_eval_control.proofs.Rest.{drop_next}
use Rattle.moo_syntax_node.proofs.Rows.{row_items}
use Rattle.moo_syntax_node.proofs.StatementRows.{row_block, row_arms, row_handlers}
use Rattle.std.specs.Prelude.{◌≤ℤ◌, true, false, option_copied}
use mir.Syntax.{w32, w64}
use mir.Val.{SFits, to_z}
use Rattle.moo_eval_control.specs.Leading.{after_turn, numbered}
use Rattle.moo_eval_control.specs.SeenHandling.{guarded_of}
use Rattle.moo_eval_interpreter.proofs.Counting.{narrow, next_number, not_below, reached}
use Rattle.moo_eval_control.specs.Handling.{guarded}
use Rattle.moo_eval_semantics.specs.Operands.{before}
use Rattle.moo_eval_interpreter.proofs.+evaluation.Goals as goal
use Rattle.moo_eval_interpreter.proofs.+evaluation.Goals.{interpreter::evaluate_all-in-Element+in_ok-value-in-Element+in_ok-push-in-Element, interpreter::evaluate_all-in-Splice+in_ok-value-in-Splice+in_ok-splice-in-Splice}

pub conditions::binary_passes-returns-in-Ok-clause-ok : goal.conditions::binary_passes-returns-in-Ok-clause-ok
conditions::binary_passes-returns-in-Ok-clause-ok t c =
    (tree c.in-Ok.value, begins c.in_ok-take_tick.ensures.taken (rw (c.in_ok-take_tick.ensures.left, c.in-Ok.is) at (c.binary.ensures.meaning (rw c.in-Ok.is tt))) refl, sym c.is_true.ensures)

pub conditions::binary_passes-returns-in_ok-value-in-Err-clause-ok : goal.conditions::binary_passes-returns-in_ok-value-in-Err-clause-ok
conditions::binary_passes-returns-in_ok-value-in-Err-clause-ok t c =
    (tree c.in_ok-value-in-Err.value, begins c.in_ok-take_tick.ensures.taken (rw (c.in_ok-take_tick.ensures.left, c.in-Err.is) at (c.binary.ensures.meaning (rw c.in-Err.is (c.in_ok-value-in-Err.ensures.known tt)))) (c.in_ok-value-in-Err.ensures.outcome tt), sym c.is_true-in-Err.ensures)

pub conditions::binary_passes-returns-in_err-value-in-Err-clause-err : goal.conditions::binary_passes-returns-in_err-value-in-Err-clause-err
conditions::binary_passes-returns-in_err-value-in-Err-clause-err t c =
    let p = err_from_is_err_and c.from_residual-in_err-value-in-Err.result c.from_residual-in_err-value-in-Err.ensures.1 in rw (p.1, p.2) (λ k. begins c.in_ok-take_tick.ensures.taken (rw (c.in_ok-take_tick.ensures.left, c.in-Err.is) at (c.binary.ensures.meaning (rw c.in-Err.is (c.in_err-value-in-Err.ensures.known k)))) (c.in_err-value-in-Err.ensures.outcome k))

pub conditions::binary_passes-returns-in_err-take_tick-clause-err : goal.conditions::binary_passes-returns-in_err-take_tick-clause-err
conditions::binary_passes-returns-in_err-take_tick-clause-err t c =
    let p = err_from_is_err_and c.from_residual.result c.from_residual.ensures.1 in rw (p.1, p.2) (λ k. let h = c.in_err-take_tick.ensures.spent k in rw (c.in_err-take_tick.ensures.kept, h.1) (spent h.0))

pub conditions::logic_passes-returns-clause-ok : goal.conditions::logic_passes-returns-clause-ok
conditions::logic_passes-returns-clause-ok t c =
    let first = c.in_ok-first.ensures.ok in
    let d = rw c.in_ok-take_tick.ensures.left at first.1 in
    IfOk-weaker c.passes-2.result _ _ (λ b h. (h.0, undecided c.in_ok-take_tick.ensures.taken d (c.decides.ensures first.0 first.2 ∙ c.if-decides.false) h.1, h.2)) c.passes-2.ensures.ok

pub conditions::logic_passes-returns-clause-err : goal.conditions::logic_passes-returns-clause-err
conditions::logic_passes-returns-clause-err t c =
    let first = c.in_ok-first.ensures.ok in
    let d = rw c.in_ok-take_tick.ensures.left at first.1 in
    if_err c.passes-2.result (λ e h k. undecided c.in_ok-take_tick.ensures.taken d (c.decides.ensures first.0 first.2 ∙ c.if-decides.false) (h k)) c.passes-2.ensures.err

pub conditions::logic_passes-returns-then-decides-clause-ok : goal.conditions::logic_passes-returns-then-decides-clause-ok
conditions::logic_passes-returns-then-decides-clause-ok t c =
    let first = c.in_ok-first.ensures.ok in
    let d = rw c.in_ok-take_tick.ensures.left at first.1 in
    (first.0, decided c.in_ok-take_tick.ensures.taken d (c.decides.ensures first.0 first.2 ∙ c.if-decides.true), first.2)

pub conditions::logic_passes-returns-in_err-first-clause-err : goal.conditions::logic_passes-returns-in_err-first-clause-err
conditions::logic_passes-returns-in_err-first-clause-err t c =
    let p = err_from_is_err_and c.from_residual-in_err-first.result c.from_residual-in_err-first.ensures.1 in rw (p.1, p.2) (λ k. operand_stops c.in_ok-take_tick.ensures.taken (rw c.in_ok-take_tick.ensures.left at (c.in_err-first.ensures.err k)))

pub conditions::logic_passes-returns-in_err-take_tick-clause-err : goal.conditions::logic_passes-returns-in_err-take_tick-clause-err
conditions::logic_passes-returns-in_err-take_tick-clause-err t c =
    let p = err_from_is_err_and c.from_residual.result c.from_residual.ensures.1 in rw (p.1, p.2) (λ k. let h = c.in_err-take_tick.ensures.spent k in rw (c.in_err-take_tick.ensures.kept, h.1) (spent h.0))

pub conditions::not_passes-returns-clause-ok : goal.conditions::not_passes-returns-clause-ok
conditions::not_passes-returns-clause-ok t c =
    let operand = c.in_ok-passes.ensures.ok in
    let d = rw c.in_ok-take_tick.ensures.left at operand.1 in
    (truth_value (not (is_true operand.0)), negated c.in_ok-take_tick.ensures.taken d, truth_of (not (is_true operand.0)) ∙ ap not operand.2)

pub conditions::not_passes-returns-in_err-passes-clause-err : goal.conditions::not_passes-returns-in_err-passes-clause-err
conditions::not_passes-returns-in_err-passes-clause-err t c =
    let p = err_from_is_err_and c.from_residual-in_err-passes.result c.from_residual-in_err-passes.ensures.1 in rw (p.1, p.2) (λ k. not_stops c.in_ok-take_tick.ensures.taken (rw c.in_ok-take_tick.ensures.left at (c.in_err-passes.ensures.err k)))

pub conditions::not_passes-returns-in_err-take_tick-clause-err : goal.conditions::not_passes-returns-in_err-take_tick-clause-err
conditions::not_passes-returns-in_err-take_tick-clause-err t c =
    let p = err_from_is_err_and c.from_residual.result c.from_residual.ensures.1 in rw (p.1, p.2) (λ k. let h = c.in_err-take_tick.ensures.spent k in rw (c.in_err-take_tick.ensures.kept, h.1) (spent h.0))

pub operators::unary-returns-clause-meaning : goal.operators::unary-returns-clause-meaning
operators::unary-returns-clause-meaning t c =
    λ k. applies (element_then (c.in_ok-operand.ensures.meaning tt) no_more refl) no_more (unary_is (ap answers c.in_ok-unary.ensures))

pub operators::unary-returns-in_err-operand-clause-meaning : goal.operators::unary-returns-in_err-operand-clause-meaning
operators::unary-returns-in_err-operand-clause-meaning t c =
    let p = err_from_is_err_and c.from_residual.result c.from_residual.ensures.1 in rw (p.1, p.2) (λ k. operands_end (element_stops (c.in_err-operand.ensures.meaning k)))

pub operators::unary-returns-in_err-unary-clause-meaning : goal.operators::unary-returns-in_err-unary-clause-meaning
operators::unary-returns-in_err-unary-clause-meaning t c =
    let p = err_from_is_err_and c.from_residual-in_err-unary.result c.from_residual-in_err-unary.ensures.1 in rw (p.1, p.2) (λ k. applies (element_then (c.in_ok-operand.ensures.meaning tt) no_more refl) no_more (unary_is (refused _ _ c.in_err-unary.ensures k)))

pub operators::binary-returns-clause-meaning : goal.operators::binary-returns-clause-meaning
operators::binary-returns-clause-meaning t c =
    λ k. applies (element_then (c.in_ok-left.ensures.meaning tt) (element_then (c.in_ok-right.ensures.meaning tt) no_more refl) refl) no_more (binary_is (ap answers c.in_ok-binary_in_place.ensures))

pub operators::binary-returns-in_err-left-clause-meaning : goal.operators::binary-returns-in_err-left-clause-meaning
operators::binary-returns-in_err-left-clause-meaning t c =
    let p = err_from_is_err_and c.from_residual.result c.from_residual.ensures.1 in rw (p.1, p.2) (λ k. operands_end (element_stops (c.in_err-left.ensures.meaning k)))

pub operators::binary-returns-in_err-right-clause-meaning : goal.operators::binary-returns-in_err-right-clause-meaning
operators::binary-returns-in_err-right-clause-meaning t c =
    let p = err_from_is_err_and c.from_residual-in_err-right.result c.from_residual-in_err-right.ensures.1 in rw (p.1, p.2) (λ k. operands_end (element_then (c.in_ok-left.ensures.meaning tt) (element_stops (c.in_err-right.ensures.meaning k)) refl))

pub operators::binary-returns-in_err-binary_in_place-clause-meaning : goal.operators::binary-returns-in_err-binary_in_place-clause-meaning
operators::binary-returns-in_err-binary_in_place-clause-meaning t c =
    let p = err_from_is_err_and c.from_residual-in_err-binary_in_place.result c.from_residual-in_err-binary_in_place.ensures.1 in rw (p.1, p.2) (λ k. applies (element_then (c.in_ok-left.ensures.meaning tt) (element_then (c.in_ok-right.ensures.meaning tt) no_more refl) refl) no_more (binary_is (refused _ _ c.in_err-binary_in_place.ensures k)))

pub arithmetic::arithmetic-returns-clause-meaning : goal.arithmetic::arithmetic-returns-clause-meaning
arithmetic::arithmetic-returns-clause-meaning t c =
    λ k. applies (element_then (c.in_ok-left.ensures.meaning tt) (element_then (c.in_ok-right.ensures.meaning tt) no_more refl) refl) no_more (binary_is (ap answers c.in_ok-binary_in_place.ensures))

pub arithmetic::arithmetic-returns-in_err-left-clause-meaning : goal.arithmetic::arithmetic-returns-in_err-left-clause-meaning
arithmetic::arithmetic-returns-in_err-left-clause-meaning t c =
    let p = err_from_is_err_and c.from_residual.result c.from_residual.ensures.1 in rw (p.1, p.2) (λ k. operands_end (element_stops (c.in_err-left.ensures.meaning k)))

pub arithmetic::arithmetic-returns-in_err-right-clause-meaning : goal.arithmetic::arithmetic-returns-in_err-right-clause-meaning
arithmetic::arithmetic-returns-in_err-right-clause-meaning t c =
    let p = err_from_is_err_and c.from_residual-in_err-right.result c.from_residual-in_err-right.ensures.1 in rw (p.1, p.2) (λ k. operands_end (element_then (c.in_ok-left.ensures.meaning tt) (element_stops (c.in_err-right.ensures.meaning k)) refl))

pub arithmetic::arithmetic-returns-in_err-binary_in_place-clause-meaning : goal.arithmetic::arithmetic-returns-in_err-binary_in_place-clause-meaning
arithmetic::arithmetic-returns-in_err-binary_in_place-clause-meaning t c =
    let p = err_from_is_err_and c.from_residual-in_err-binary_in_place.result c.from_residual-in_err-binary_in_place.ensures.1 in rw (p.1, p.2) (λ k. applies (element_then (c.in_ok-left.ensures.meaning tt) (element_then (c.in_ok-right.ensures.meaning tt) no_more refl) refl) no_more (binary_is (refused _ _ c.in_err-binary_in_place.ensures k)))

pub deciding::logic-returns-clause-meaning : goal.deciding::logic-returns-clause-meaning
deciding::logic-returns-clause-meaning t c =
    λ k. applies (element_then (c.in_ok-first.ensures.meaning tt) no_more refl) no_more (logic_goes_on (sym c.is_decided.ensures ∙ c.if-is_decided.false) (c.in_ok-evaluate.ensures.meaning tt) refl)

pub deciding::logic-returns-then-is_decided-clause-meaning : goal.deciding::logic-returns-then-is_decided-clause-meaning
deciding::logic-returns-then-is_decided-clause-meaning t c =
    λ k. applies (element_then (c.in_ok-first.ensures.meaning tt) no_more refl) no_more (logic_decides (sym c.is_decided.ensures ∙ c.if-is_decided.true))

pub deciding::logic-returns-in_err-first-clause-meaning : goal.deciding::logic-returns-in_err-first-clause-meaning
deciding::logic-returns-in_err-first-clause-meaning t c =
    let p = err_from_is_err_and c.from_residual.result c.from_residual.ensures.1 in rw (p.1, p.2) (λ k. operands_end (element_stops (c.in_err-first.ensures.meaning k)))

pub deciding::logic-returns-in_err-evaluate-clause-meaning : goal.deciding::logic-returns-in_err-evaluate-clause-meaning
deciding::logic-returns-in_err-evaluate-clause-meaning t c =
    let p = err_from_is_err_and c.from_residual-in_err-evaluate.result c.from_residual-in_err-evaluate.ensures.1 in rw (p.1, p.2) (λ k. applies (element_then (c.in_ok-first.ensures.meaning tt) no_more refl) no_more (logic_goes_on (sym c.is_decided.ensures ∙ c.if-is_decided.false) (c.in_err-evaluate.ensures.meaning k) refl))

pub deciding::logic_alone-returns-then-is_decided-clause-meaning : goal.deciding::logic_alone-returns-then-is_decided-clause-meaning
deciding::logic_alone-returns-then-is_decided-clause-meaning t c =
    λ k. performed c.in_ok-take_tick.ensures.taken (applies (element_then (rw c.in_ok-take_tick.ensures.left at (c.in_ok-first.ensures.meaning tt)) no_more refl) no_more (logic_decides (sym c.is_decided.ensures ∙ c.if-is_decided.true)))

pub deciding::logic_alone-returns-in-Some-clause-meaning : goal.deciding::logic_alone-returns-in-Some-clause-meaning
deciding::logic_alone-returns-in-Some-clause-meaning t c =
    λ k. rw c.in-Some.ensures (goes_on c.in_ok-take_tick.ensures.taken (rw c.in_ok-take_tick.ensures.left at (c.in_ok-first.ensures.meaning tt)) (sym c.is_decided.ensures ∙ c.if-is_decided.false) (c.assign_value.ensures.meaning k))

pub deciding::logic_alone-returns-clause-meaning : goal.deciding::logic_alone-returns-clause-meaning
deciding::logic_alone-returns-clause-meaning t c =
    λ k. goes_on c.in_ok-take_tick.ensures.taken (rw c.in_ok-take_tick.ensures.left at (c.in_ok-first.ensures.meaning tt)) (sym c.is_decided.ensures ∙ c.if-is_decided.false) (c.evaluate_alone.ensures.meaning k)

pub deciding::logic_alone-returns-in_err-take_tick-clause-meaning : goal.deciding::logic_alone-returns-in_err-take_tick-clause-meaning
deciding::logic_alone-returns-in_err-take_tick-clause-meaning t c =
    let p = err_from_is_err_and c.from_residual.result c.from_residual.ensures.1 in rw (p.1, p.2) (λ k. let h = c.in_err-take_tick.ensures.spent k in rw (c.in_err-take_tick.ensures.kept, h.1) (evaluates (spent h.0) refl))

pub deciding::logic_alone-returns-in_err-first-clause-meaning : goal.deciding::logic_alone-returns-in_err-first-clause-meaning
deciding::logic_alone-returns-in_err-first-clause-meaning t c =
    let p = err_from_is_err_and c.from_residual-in_err-first.result c.from_residual-in_err-first.ensures.1 in rw (p.1, p.2) (λ k. unperformed c.in_ok-take_tick.ensures.taken (operands_end (element_stops (rw c.in_ok-take_tick.ensures.left at (c.in_err-first.ensures.meaning k)))))

pub deciding::conditional-returns-clause-meaning : goal.deciding::conditional-returns-clause-meaning
deciding::conditional-returns-clause-meaning t c =
    λ k. applies (element_then c.in_ok-passes.ensures.ok.1 no_more refl) no_more (conditional_false (c.in_ok-passes.ensures.ok.2 ∙ c.if-passes.false) (c.in_ok-evaluate-2.ensures.meaning tt) refl)

pub deciding::conditional-returns-in_err-passes-clause-meaning : goal.deciding::conditional-returns-in_err-passes-clause-meaning
deciding::conditional-returns-in_err-passes-clause-meaning t c =
    let p = err_from_is_err_and c.from_residual.result c.from_residual.ensures.1 in rw (p.1, p.2) (λ k. operands_end (element_stops (c.in_err-passes.ensures.err k)))

pub deciding::conditional-returns-in_err-evaluate-clause-meaning : goal.deciding::conditional-returns-in_err-evaluate-clause-meaning
deciding::conditional-returns-in_err-evaluate-clause-meaning t c =
    let p = err_from_is_err_and c.from_residual-in_err-evaluate.result c.from_residual-in_err-evaluate.ensures.1 in rw (p.1, p.2) (λ k. applies (element_then c.in_ok-passes.ensures.ok.1 no_more refl) no_more (conditional_true (c.in_ok-passes.ensures.ok.2 ∙ c.if-passes.true) (c.in_err-evaluate.ensures.meaning k) refl))

pub operators::index-returns-clause-meaning : goal.operators::index-returns-clause-meaning
operators::index-returns-clause-meaning t c =
    λ k. applies (element_then (c.in_ok-base.ensures.meaning tt) no_more refl) (element_then (c.in_ok-place.ensures.meaning tt) no_more refl) (index_is (ap answers c.in_ok-index.ensures))

pub operators::index-returns-in_err-base-clause-meaning : goal.operators::index-returns-in_err-base-clause-meaning
operators::index-returns-in_err-base-clause-meaning t c =
    let p = err_from_is_err_and c.from_residual.result c.from_residual.ensures.1 in rw (p.1, p.2) (λ k. operands_end (element_stops (c.in_err-base.ensures.meaning k)))

pub operators::index-returns-in_err-place-clause-meaning : goal.operators::index-returns-in_err-place-clause-meaning
operators::index-returns-in_err-place-clause-meaning t c =
    let p = err_from_is_err_and c.from_residual-in_err-place.result c.from_residual-in_err-place.ensures.1 in rw (p.1, p.2) (λ k. places_end (element_then (c.in_ok-base.ensures.meaning tt) no_more refl) (element_stops (c.in_err-place.ensures.meaning k)))

pub operators::index-returns-in_err-index-clause-meaning : goal.operators::index-returns-in_err-index-clause-meaning
operators::index-returns-in_err-index-clause-meaning t c =
    let p = err_from_is_err_and c.from_residual-in_err-index.result c.from_residual-in_err-index.ensures.1 in rw (p.1, p.2) (λ k. applies (element_then (c.in_ok-base.ensures.meaning tt) no_more refl) (element_then (c.in_ok-place.ensures.meaning tt) no_more refl) (index_is (refused _ _ c.in_err-index.ensures k)))

pub operators::range-returns-clause-meaning : goal.operators::range-returns-clause-meaning
operators::range-returns-clause-meaning t c =
    λ k. applies (element_then (c.in_ok-base.ensures.meaning tt) no_more refl) (element_then (c.in_ok-low.ensures.meaning tt) (element_then (c.in_ok-high.ensures.meaning tt) no_more refl) refl) (range_is (ap answers c.in_ok-range.ensures))

pub operators::range-returns-in_err-base-clause-meaning : goal.operators::range-returns-in_err-base-clause-meaning
operators::range-returns-in_err-base-clause-meaning t c =
    let p = err_from_is_err_and c.from_residual.result c.from_residual.ensures.1 in rw (p.1, p.2) (λ k. operands_end (element_stops (c.in_err-base.ensures.meaning k)))

pub operators::range-returns-in_err-low-clause-meaning : goal.operators::range-returns-in_err-low-clause-meaning
operators::range-returns-in_err-low-clause-meaning t c =
    let p = err_from_is_err_and c.from_residual-in_err-low.result c.from_residual-in_err-low.ensures.1 in rw (p.1, p.2) (λ k. places_end (element_then (c.in_ok-base.ensures.meaning tt) no_more refl) (element_stops (c.in_err-low.ensures.meaning k)))

pub operators::range-returns-in_err-high-clause-meaning : goal.operators::range-returns-in_err-high-clause-meaning
operators::range-returns-in_err-high-clause-meaning t c =
    let p = err_from_is_err_and c.from_residual-in_err-high.result c.from_residual-in_err-high.ensures.1 in rw (p.1, p.2) (λ k. places_end (element_then (c.in_ok-base.ensures.meaning tt) no_more refl) (element_then (c.in_ok-low.ensures.meaning tt) (element_stops (c.in_err-high.ensures.meaning k)) refl))

pub operators::range-returns-in_err-range-clause-meaning : goal.operators::range-returns-in_err-range-clause-meaning
operators::range-returns-in_err-range-clause-meaning t c =
    let p = err_from_is_err_and c.from_residual-in_err-range.result c.from_residual-in_err-range.ensures.1 in rw (p.1, p.2) (λ k. applies (element_then (c.in_ok-base.ensures.meaning tt) no_more refl) (element_then (c.in_ok-low.ensures.meaning tt) (element_then (c.in_ok-high.ensures.meaning tt) no_more refl) refl) (range_is (refused _ _ c.in_err-range.ensures k)))

pub operators::list-returns-in_err-values-clause-meaning : goal.operators::list-returns-in_err-values-clause-meaning
operators::list-returns-in_err-values-clause-meaning t c =
    let p = err_from_is_err_and c.from_residual.result c.from_residual.ensures.1 in rw (p.1, p.2) (λ k. operands_end (c.in_err-values.ensures.meaning k))

pub interpreter::evaluate_all-loop-item-preserved : goal.interpreter::evaluate_all-loop-item-preserved
interpreter::evaluate_all-loop-item-preserved t c =
    elim c.match-item.branch [
      | interpreter::evaluate_all-in-Element+in_ok-value-in-Element+in_ok-push-in-Element w ↦ record {
        ticks = omega (arith, ap (λ (x : Task). x.ticks_left) w.task-is);
        rest = λ o s d.
            let e = rw (w.task-is, w.world-is, w.active-is) at d in
            let more = tree w.in_ok-value-in-Element.value ∷ [] in
            let sums = w.values-is ∙ w.in_ok-push-in-Element.ensures in
            subst (λ r. EvaluatesAll Faults (context_of c.args.stack.now c.args.indexed) (source_items c.args.items.now) (state_of c.args.task.now c.args.world.now c.args.active.now) r s)
            (gathered c.loop-item.values c.match-item.values more o sums)
            (c.loop-item.invariant.rest (before more o) s (rw (drop_next c.args.items.now c.loop-item.item-index c.item-item.result c.loop-item-test.true c.item-item.is, w.in-Element.is, ← w.deref.ensures) (element_then (w.in_ok-value-in-Element.ensures.meaning tt) e refl)));
      }
      | interpreter::evaluate_all-in-Splice+in_ok-value-in-Splice+in_ok-splice-in-Splice w ↦ record {
        ticks = omega (arith, ap (λ (x : Task). x.ticks_left) w.task-is);
        rest = λ o s d.
            let e = rw (w.task-is, w.world-is, w.active-is) at d in
            let more = w.in_ok-splice-in-Splice.ensures.ok.0 in
            let sums = w.values-is ∙ w.in_ok-splice-in-Splice.ensures.ok.2 in
            subst (λ r. EvaluatesAll Faults (context_of c.args.stack.now c.args.indexed) (source_items c.args.items.now) (state_of c.args.task.now c.args.world.now c.args.active.now) r s)
            (gathered c.loop-item.values c.match-item.values more o sums)
            (c.loop-item.invariant.rest (before more o) s (rw (drop_next c.args.items.now c.loop-item.item-index c.item-item.result c.loop-item-test.true c.item-item.is, w.in-Splice.is, ← w.deref-in-Splice.ensures) (splice_then (w.in_ok-value-in-Splice.ensures.meaning tt) w.in_ok-splice-in-Splice.ensures.ok.1 e refl)));
      }
    ]

pub interpreter::evaluate_all-returns-clause-meaning : goal.interpreter::evaluate_all-returns-clause-meaning
interpreter::evaluate_all-returns-clause-meaning t c =
    λ k. rw append-nil at (c.loop-item.invariant.rest (Ok []) (state_of c.loop-item.task c.loop-item.world c.loop-item.active) (rw (drop_of_length-le c.args.items.now c.loop-item-test.false) no_more))

pub interpreter::evaluate_all-returns-in_err-value-in-Element-clause-meaning : goal.interpreter::evaluate_all-returns-in_err-value-in-Element-clause-meaning
interpreter::evaluate_all-returns-in_err-value-in-Element-clause-meaning t c =
    let p = err_from_is_err_and c.from_residual-in_err-value-in-Element.result c.from_residual-in_err-value-in-Element.ensures.1 in rw (p.1, p.2) (λ k. c.loop-item.invariant.rest (Err (stops (stop_of c.in_err-value-in-Element.field-0.0))) _ (rw (drop_next c.args.items.now c.loop-item.item-index c.item-item.result c.loop-item-test.true c.item-item.is, c.in-Element.is, ← c.deref.ensures) (element_stops (c.in_err-value-in-Element.ensures.meaning k))))

pub interpreter::evaluate_all-returns-in_err-value-in-Splice-clause-meaning : goal.interpreter::evaluate_all-returns-in_err-value-in-Splice-clause-meaning
interpreter::evaluate_all-returns-in_err-value-in-Splice-clause-meaning t c =
    let p = err_from_is_err_and c.from_residual-in_err-value-in-Splice.result c.from_residual-in_err-value-in-Splice.ensures.1 in rw (p.1, p.2) (λ k. c.loop-item.invariant.rest (Err (stops (stop_of c.in_err-value-in-Splice.field-0.0))) _ (rw (drop_next c.args.items.now c.loop-item.item-index c.item-item.result c.loop-item-test.true c.item-item.is, c.in-Splice.is, ← c.deref-in-Splice.ensures) (splice_stops (c.in_err-value-in-Splice.ensures.meaning k))))

pub interpreter::evaluate_all-returns-in_err-splice-in-Splice-clause-meaning : goal.interpreter::evaluate_all-returns-in_err-splice-in-Splice-clause-meaning
interpreter::evaluate_all-returns-in_err-splice-in-Splice-clause-meaning t c =
    let p = err_from_is_err_and c.from_residual-in_err-splice-in-Splice.result c.from_residual-in_err-splice-in-Splice.ensures.1 in rw (p.1, p.2) (λ k. c.loop-item.invariant.rest (Err (failure_of c.in_err-splice-in-Splice.field-0.0)) _ (rw (drop_next c.args.items.now c.loop-item.item-index c.item-item.result c.loop-item-test.true c.item-item.is, c.in-Splice.is, ← c.deref-in-Splice.ensures) (splice_fails (c.in_ok-value-in-Splice.ensures.meaning tt) (c.in_err-splice-in-Splice.ensures.err k))))

pub arguments::evaluate_elements-loop-item-preserved : goal.arguments::evaluate_elements-loop-item-preserved
arguments::evaluate_elements-loop-item-preserved t c =
    let here = drop_next c.args.items.now c.loop-item.item-index c.item-item.result c.loop-item-test.true c.item-item.is in
    let more = tree c.in_ok-value-in-Element.value ∷ [] in
    record {
      ticks = omega (arith, c.loop-item.invariant.ticks, c.in_ok-value-in-Element.ensures.ticks);
      plain = plain_rest c.item-item.result (drop (c.loop-item.item-index + 1) c.args.items.now) (rw here at c.loop-item.invariant.plain);
      rest = λ o s d.
          subst (λ r. EvaluatesAll Faults (context_of c.args.stack.now c.args.indexed) (source_items c.args.items.now) (state_of c.args.task.now c.args.world.now c.args.active.now) r s)
          (gathered (trees c.loop-item.values.items) (trees c.push.new.values.items) more o c.in_ok-push-in-Element.ensures)
          (c.loop-item.invariant.rest (before more o) s (rw (here, c.in-Element.is, ← c.deref.ensures) (element_then (c.in_ok-value-in-Element.ensures.meaning tt) d refl)));
    }

pub arguments::evaluate_elements-returns-clause-meaning : goal.arguments::evaluate_elements-returns-clause-meaning
arguments::evaluate_elements-returns-clause-meaning t c =
    λ k. rw append-nil at (c.loop-item.invariant.rest (Ok []) (state_of c.loop-item.task c.loop-item.world c.loop-item.active) (rw (drop_of_length-le c.args.items.now c.loop-item-test.false) no_more))

pub arguments::evaluate_elements-returns-in_err-value-in-Element-clause-meaning : goal.arguments::evaluate_elements-returns-in_err-value-in-Element-clause-meaning
arguments::evaluate_elements-returns-in_err-value-in-Element-clause-meaning t c =
    let p = err_from_is_err_and c.from_residual-in_err-value-in-Element.result c.from_residual-in_err-value-in-Element.ensures.1 in rw (p.1, p.2) (λ k. c.loop-item.invariant.rest (Err (stops (stop_of c.in_err-value-in-Element.field-0.0))) _ (rw (drop_next c.args.items.now c.loop-item.item-index c.item-item.result c.loop-item-test.true c.item-item.is, c.in-Element.is, ← c.deref.ensures) (element_stops (c.in_err-value-in-Element.ensures.meaning k))))

pub arguments::evaluate_elements-returns-in-Splice-clause-meaning : goal.arguments::evaluate_elements-returns-in-Splice-clause-meaning
arguments::evaluate_elements-returns-in-Splice-clause-meaning t c =
    λ k. absurd (not_spliced c.item-item.result (drop (c.loop-item.item-index + 1) c.args.items.now) (ap is_splice c.in-Splice.is) (rw (drop_next c.args.items.now c.loop-item.item-index c.item-item.result c.loop-item-test.true c.item-item.is) at c.loop-item.invariant.plain))

pub arguments::evaluate_elements-returns-in-Optional-clause-meaning : goal.arguments::evaluate_elements-returns-in-Optional-clause-meaning
arguments::evaluate_elements-returns-in-Optional-clause-meaning t c =
    λ k. c.loop-item.invariant.rest (Err (fails TypeMismatch)) _ (rw (drop_next c.args.items.now c.loop-item.item-index c.item-item.result c.loop-item-test.true c.item-item.is) (optional_ends c.item-item.result _ (⊎_elim (λ p. rw p.1 tt) (λ p. rw p.2 tt) c.in-Optional.is)))

pub calls::call_evaluated-returns-in_err-evaluate_arguments-clause-meaning : goal.calls::call_evaluated-returns-in_err-evaluate_arguments-clause-meaning
calls::call_evaluated-returns-in_err-evaluate_arguments-clause-meaning t c =
    let p = err_from_is_err_and c.from_residual-in_err-evaluate_arguments.result c.from_residual-in_err-evaluate_arguments.ensures.1 in
    rw (p.1, p.2) (λ k. ⊎_elim
    (λ e. operands_end (element_then (c.in_ok-base.ensures.meaning tt) (element_then (literal_read c.in_ok-take_tick.ensures.taken) (rw c.in_ok-take_tick.ensures.left at e) refl) refl))
    (λ h. applies (element_then (c.in_ok-base.ensures.meaning tt) (element_then (literal_read c.in_ok-take_tick.ensures.taken) (rw c.in_ok-take_tick.ensures.left at h.1) refl) refl) no_more (verb_fails (unlisted _ _ h.2)))
    (c.in_err-evaluate_arguments.ensures.meaning k))

pub calls::call_computed-returns-in_err-evaluate_arguments-clause-meaning : goal.calls::call_computed-returns-in_err-evaluate_arguments-clause-meaning
calls::call_computed-returns-in_err-evaluate_arguments-clause-meaning t c =
    let p = err_from_is_err_and c.from_residual-in_err-evaluate_arguments.result c.from_residual-in_err-evaluate_arguments.ensures.1 in
    rw (p.1, p.2) (λ k. ⊎_elim
    (λ e. operands_end (element_then (c.in_ok-base.ensures.meaning tt) (element_then (c.in_ok-name.ensures.meaning tt) e refl) refl))
    (λ h. applies (element_then (c.in_ok-base.ensures.meaning tt) (element_then (c.in_ok-name.ensures.meaning tt) h.1 refl) refl) no_more (verb_fails (unlisted _ _ h.2)))
    (c.in_err-evaluate_arguments.ensures.meaning k))

pub deciding::conditional-returns-in_err-evaluate-2-clause-meaning : goal.deciding::conditional-returns-in_err-evaluate-2-clause-meaning
deciding::conditional-returns-in_err-evaluate-2-clause-meaning t c =
    let p = err_from_is_err_and c.from_residual-in_err-evaluate-2.result c.from_residual-in_err-evaluate-2.ensures.1 in rw (p.1, p.2) (λ k. applies (element_then c.in_ok-passes.ensures.ok.1 no_more refl) no_more (conditional_false (c.in_ok-passes.ensures.ok.2 ∙ c.if-passes.false) (c.in_err-evaluate-2.ensures.meaning k) refl))

pub deciding::conditional-returns-then-passes-clause-meaning : goal.deciding::conditional-returns-then-passes-clause-meaning
deciding::conditional-returns-then-passes-clause-meaning t c =
    λ k. applies (element_then c.in_ok-passes.ensures.ok.1 no_more refl) no_more (conditional_true (c.in_ok-passes.ensures.ok.2 ∙ c.if-passes.true) (c.in_ok-evaluate.ensures.meaning tt) refl)

pub assignment::assign_path-returns-in_err-path-clause-meaning : goal.assignment::assign_path-returns-in_err-path-clause-meaning
assignment::assign_path-returns-in_err-path-clause-meaning t c =
    let p = err_from_is_err_and c.from_residual.result c.from_residual.ensures.1 in rw (p.1, p.2) (λ k. applies no_more no_more (assign_is (target_ends (c.in_err-path.ensures.meaning k))))

pub assignment::assign_path-returns-in_err-value-clause-meaning : goal.assignment::assign_path-returns-in_err-value-clause-meaning
assignment::assign_path-returns-in_err-value-clause-meaning t c =
    let p = err_from_is_err_and c.from_residual-in_err-value.result c.from_residual-in_err-value.ensures.1 in rw (p.1, p.2) (λ k. applies no_more no_more (assign_is (value_stops (c.in_ok-path.ensures.meaning tt) (c.in_err-value.ensures.meaning k))))

pub assignment::assign_path-returns-in_err-store-clause-meaning : goal.assignment::assign_path-returns-in_err-store-clause-meaning
assignment::assign_path-returns-in_err-store-clause-meaning t c =
    let p = err_from_is_err_and c.from_residual-in_err-store.result c.from_residual-in_err-store.ensures.1 in rw (p.1, p.2) (λ k. applies no_more no_more (assign_is (assigns (c.in_ok-path.ensures.meaning tt) (c.in_ok-value.ensures.meaning tt) (c.in_err-store.ensures.meaning k) refl)))

pub assignment::assign_path-returns-clause-meaning : goal.assignment::assign_path-returns-clause-meaning
assignment::assign_path-returns-clause-meaning t c =
    λ k. applies no_more no_more (assign_is (assigns (c.in_ok-path.ensures.meaning tt) (c.in_ok-value.ensures.meaning tt) (c.in_ok-store.ensures.meaning tt) refl))

pub functions::call_unary-returns-in_err-value-clause-meaning : goal.functions::call_unary-returns-in_err-value-clause-meaning
functions::call_unary-returns-in_err-value-clause-meaning t c =
    let p = err_from_is_err_and c.from_residual.result c.from_residual.ensures.1 in rw (p.1, p.2) (λ k. operands_end (element_stops (rw c.in_default.ensures.none at (c.in_err-value.ensures.meaning k))))

pub functions::call_unary-returns-clause-meaning : goal.functions::call_unary-returns-clause-meaning
functions::call_unary-returns-clause-meaning t c =
    λ k. applies (element_then (rw c.in_default.ensures.none at (c.in_ok-value.ensures.meaning tt)) no_more refl) no_more (call_is c.requires (c.call_values.ensures.call c.args.name.now (sym c.function.ensures) k))

pub functions::call_any-returns-in_err-evaluate_elements-clause-meaning : goal.functions::call_any-returns-in_err-evaluate_elements-clause-meaning
functions::call_any-returns-in_err-evaluate_elements-clause-meaning t c =
    let p = err_from_is_err_and c.from_residual.result c.from_residual.ensures.1 in rw (p.1, p.2) (λ k. operands_end (c.in_err-evaluate_elements.ensures.meaning k))

pub functions::call_any-returns-in-Some-clause-meaning : goal.functions::call_any-returns-in-Some-clause-meaning
functions::call_any-returns-in-Some-clause-meaning t c =
    λ k. applies (c.in_ok-evaluate_elements.ensures.meaning tt) no_more (rw c.of-values.ensures at (c.call_caller.ensures.meaning c.args.indexed c.args.name.now (source_items c.args.items.now) (ap verb_caller (sym c.function-function.ensures) ∙ sym c.verb_caller.ensures ∙ c.in-Some.is) k))

pub functions::call_any-returns-clause-meaning : goal.functions::call_any-returns-clause-meaning
functions::call_any-returns-clause-meaning t c =
    λ k. applies (c.in_ok-evaluate_elements.ensures.meaning tt) no_more (call_is (ap verb_caller (sym c.function-function.ensures) ∙ sym c.verb_caller.ensures ∙ c.in_default.is) (rw c.deref_mut.ensures.value at (c.call_values-answer.ensures.call c.args.name.now (sym c.function-function.ensures) k)))

pub functions::call_spliced-returns-in_err-values-clause-meaning : goal.functions::call_spliced-returns-in_err-values-clause-meaning
functions::call_spliced-returns-in_err-values-clause-meaning t c =
    let p = err_from_is_err_and c.from_residual.result c.from_residual.ensures.1 in rw (p.1, p.2) (λ k. operands_end (c.in_err-values.ensures.meaning k))

pub functions::call_with-returns-in_default-clause-meaning : goal.functions::call_with-returns-in_default-clause-meaning
functions::call_with-returns-in_default-clause-meaning t c =
    λ indexed items k. call_is (ap verb_caller (sym c.function-function.ensures) ∙ sym c.verb_caller.ensures ∙ none_left _ c.in_default.not-Some) (c.call_function.ensures.call c.args.name.now (sym c.function-function.ensures) k)

pub functions::call_with-returns-clause-meaning : goal.functions::call_with-returns-clause-meaning
functions::call_with-returns-clause-meaning t c =
    λ indexed items k. c.call_caller.ensures.meaning indexed c.args.name.now items (ap verb_caller (sym c.function-function.ensures) ∙ sym c.verb_caller.ensures ∙ c.in-Some.is) k

pub functions::call_spliced-returns-clause-meaning : goal.functions::call_spliced-returns-clause-meaning
functions::call_spliced-returns-clause-meaning t c =
    λ k. applies (c.in_ok-values.ensures.meaning tt) no_more (c.call_with.ensures.meaning c.args.indexed (source_items c.args.items.now) k)

pub functions::call_caller-returns-in_err-first-clause-meaning : goal.functions::call_caller-returns-in_err-first-clause-meaning
functions::call_caller-returns-in_err-first-clause-meaning t c =
    let p = err_from_is_err_and c.from_residual.result c.from_residual.ensures.1 in rw (p.1, p.2) (λ indexed name items e k. call_runs e (c.in_err-first.ensures c.args.task.now.ticks_left c.args.task.now.notices.items k) is_done)

pub functions::call_caller-returns-clause-meaning : goal.functions::call_caller-returns-clause-meaning
functions::call_caller-returns-clause-meaning t c =
    λ indexed name items e k. call_runs e (c.in_ok-first.ensures c.args.task.now.ticks_left c.args.task.now.notices.items tt) (c.proceed.ensures.meaning k)

pub calls::proceed-returns-in_err-pending-clause-meaning : goal.calls::proceed-returns-in_err-pending-clause-meaning
calls::proceed-returns-in_err-pending-clause-meaning t c =
    let p = err_from_is_err_and c.from_residual.result c.from_residual.ensures.1 in rw (p.1, p.2) (λ k. c.in_err-pending.ensures.meaning k _ _ is_done)

pub property::written_property-returns-in_err-base-clause-meaning : goal.property::written_property-returns-in_err-base-clause-meaning
property::written_property-returns-in_err-base-clause-meaning t c =
    let p = err_from_is_err_and c.from_residual.result c.from_residual.ensures.1 in rw (p.1, p.2) (λ k. operands_end (element_stops (c.in_err-base.ensures.meaning k)))

pub property::computed_property-returns-in_err-base-clause-meaning : goal.property::computed_property-returns-in_err-base-clause-meaning
property::computed_property-returns-in_err-base-clause-meaning t c =
    let p = err_from_is_err_and c.from_residual.result c.from_residual.ensures.1 in rw (p.1, p.2) (λ k. operands_end (element_stops (c.in_err-base.ensures.meaning k)))

pub property::computed_property-returns-in_err-name-clause-meaning : goal.property::computed_property-returns-in_err-name-clause-meaning
property::computed_property-returns-in_err-name-clause-meaning t c =
    let p = err_from_is_err_and c.from_residual-in_err-name.result c.from_residual-in_err-name.ensures.1 in rw (p.1, p.2) (λ k. operands_end (element_then (c.in_ok-base.ensures.meaning tt) (element_stops (c.in_err-name.ensures.meaning k)) refl))

pub property::computed_property-returns-clause-meaning : goal.property::computed_property-returns-clause-meaning
property::computed_property-returns-clause-meaning t c =
    λ k. applies (element_then (c.in_ok-base.ensures.meaning tt) (element_then (c.in_ok-name.ensures.meaning tt) no_more refl) refl) no_more (let f : SFits w32 c.evaluate-2.new.active.programmer = search rules in property_is (rw (to_z-of_z w32 c.evaluate-2.new.active.programmer f) at (c.read_property.ensures.value k)))

pub calls::call_verb-returns-clause-meaning : goal.calls::call_verb-returns-clause-meaning
calls::call_verb-returns-clause-meaning t c =
    λ indexed a b items k. let h = c.run_called.ensures.meaning c.args.active.now k in verb_runs (c.in_ok-called.ensures tt) h.runs h.leaves h.gives

pub calls::call_verb-returns-in_err-called-clause-meaning : goal.calls::call_verb-returns-in_err-called-clause-meaning
calls::call_verb-returns-in_err-called-clause-meaning t c =
    let p = err_from_is_err_and c.from_residual.result c.from_residual.ensures.1 in rw (p.1, p.2) (λ indexed a b items k. verb_fails (c.in_err-called.ensures k))

pub calls::call_written-returns-clause-meaning : goal.calls::call_written-returns-clause-meaning
calls::call_written-returns-clause-meaning t c =
    λ indexed a b items k. let h = c.run_called.ensures.meaning c.args.active.now k in verb_runs (c.in_ok-called.ensures tt) h.runs h.leaves h.gives

pub calls::call_written-returns-in_err-called-clause-meaning : goal.calls::call_written-returns-in_err-called-clause-meaning
calls::call_written-returns-in_err-called-clause-meaning t c =
    let p = err_from_is_err_and c.from_residual.result c.from_residual.ensures.1 in rw (p.1, p.2) (λ indexed a b items k. verb_fails (c.in_err-called.ensures k))

pub catching::catch-returns-in_err-values-clause-meaning : goal.catching::catch-returns-in_err-values-clause-meaning
catching::catch-returns-in_err-values-clause-meaning t c =
    let p = err_from_is_err_and c.from_residual.result c.from_residual.ensures.1 in rw (p.1, p.2) (λ k. guards_end (source c.args.body.now) (source_codes c.args.codes.now) c.args.other.now (c.in_err-values.ensures.meaning k))

pub catching::catch-returns-in_err-value-clause-meaning : goal.catching::catch-returns-in_err-value-clause-meaning
catching::catch-returns-in_err-value-clause-meaning t c =
    let p = err_from_is_err_and c.from_residual-in_err-value.result c.from_residual-in_err-value.ensures.1 in rw (p.1, p.2) (λ k. attempt_stops (source_codes c.args.codes.now) c.args.other.now (c.in_ok-values.ensures.meaning tt) (rw c.deref.ensures.value at (c.in_err-value.ensures.meaning k)))

pub catching::catch-returns-in-Value-clause-meaning : goal.catching::catch-returns-in-Value-clause-meaning
catching::catch-returns-in-Value-clause-meaning t c =
    λ k. attempt_gives (source_codes c.args.codes.now) c.args.other.now (c.in_ok-values.ensures.meaning tt) (rw (c.deref.ensures.value, c.in-Value.is) at (c.in_ok-value.ensures.meaning tt))

pub catching::catch-returns-in-None-clause-meaning : goal.catching::catch-returns-in-None-clause-meaning
catching::catch-returns-in-None-clause-meaning t c =
    λ k. rw c.in-None.is (attempt_caught (c.in_ok-values.ensures.meaning tt) (rw (c.deref.ensures.value, c.in-Caught.is) at (c.in_ok-value.ensures.meaning tt)))

pub catching::catch-returns-in_err-evaluate-in-Some-clause-meaning : goal.catching::catch-returns-in_err-evaluate-in-Some-clause-meaning
catching::catch-returns-in_err-evaluate-in-Some-clause-meaning t c =
    let p = err_from_is_err_and c.from_residual-in_err-evaluate-in-Some.result c.from_residual-in_err-evaluate-in-Some.ensures.1 in rw (p.1, p.2, c.in-Some.is, ← c.deref-in-Some.ensures) (λ k. attempt_goes_on (c.in_ok-values.ensures.meaning tt) (rw (c.deref.ensures.value, c.in-Caught.is) at (c.in_ok-value.ensures.meaning tt)) (c.in_err-evaluate-in-Some.ensures.meaning k) refl)

pub catching::catch-returns-in_ok-evaluate-in-Some-clause-meaning : goal.catching::catch-returns-in_ok-evaluate-in-Some-clause-meaning
catching::catch-returns-in_ok-evaluate-in-Some-clause-meaning t c =
    λ k. rw (c.in-Some.is, ← c.deref-in-Some.ensures) (attempt_goes_on (c.in_ok-values.ensures.meaning tt) (rw (c.deref.ensures.value, c.in-Caught.is) at (c.in_ok-value.ensures.meaning tt)) (c.in_ok-evaluate-in-Some.ensures.meaning tt) refl)

pub interpreter::evaluate_all-returns-in-Optional-clause-meaning : goal.interpreter::evaluate_all-returns-in-Optional-clause-meaning
interpreter::evaluate_all-returns-in-Optional-clause-meaning t c =
    λ k. c.loop-item.invariant.rest (Err (fails TypeMismatch)) _ (rw (drop_next c.args.items.now c.loop-item.item-index c.item-item.result c.loop-item-test.true c.item-item.is) (optional_ends c.item-item.result _ (⊎_elim (λ p. rw p.1 tt) (λ p. rw p.2 tt) c.in-Optional.is)))

pub catching::guards-returns-in-Any-clause-meaning : goal.catching::guards-returns-in-Any-clause-meaning
catching::guards-returns-in-Any-clause-meaning t c =
    λ k. rw (c.in-Any.is, c.new.ensures.items) no_more

pub catching::guards-returns-in_ok-take_ticks-in-Known-clause-meaning : goal.catching::guards-returns-in_ok-take_ticks-in-Known-clause-meaning
catching::guards-returns-in_ok-take_ticks-in-Known-clause-meaning t c =
    λ k. rw (c.in-Known.is, c.in_ok-take_ticks-in-Known.ensures.left) (errors_given c.in-Known.errors.items (state_of c.args.task.now c.args.world.now c.args.active.now) (c.args.task.now.ticks_left - c.len.result) (omega (arith, c.in_ok-take_ticks-in-Known.ensures.taken, c.len.ensures, c.in-Known.errors.ok.0)) (omega (arith, c.len.ensures, c.in-Known.errors.ok.0)))

pub catching::guards-returns-in_err-take_ticks-in-Known-clause-meaning : goal.catching::guards-returns-in_err-take_ticks-in-Known-clause-meaning
catching::guards-returns-in_err-take_ticks-in-Known-clause-meaning t c =
    let p = err_from_is_err_and c.from_residual.result c.from_residual.ensures.1 in
    rw (p.1, p.2) (λ k. let h = c.in_err-take_ticks-in-Known.ensures.spent k in rw (c.in-Known.is, c.in_err-take_ticks-in-Known.ensures.emptied, h.1) (errors_end c.in-Known.errors.items (state_of c.args.task.now c.args.world.now c.args.active.now) c.args.task.now.ticks_left refl (omega (arith, h.0, c.len.ensures, c.in-Known.errors.ok.0))))

pub catching::guards-returns-in-Listed-clause-meaning : goal.catching::guards-returns-in-Listed-clause-meaning
catching::guards-returns-in-Listed-clause-meaning t c =
    λ k. rw (c.in-Listed.is, row_items, ← c.deref.ensures.value)
    (subst (λ o. EvaluatesAll Faults (context_of c.args.stack.now c.args.indexed) (source_items c.deref.result.now) (state_of c.args.task.now c.args.world.now c.args.active.now) o (state_of c.evaluate_codes.new.task c.evaluate_codes.new.world c.evaluate_codes.new.active))
    (sym (seen_listed c.evaluate_codes.result))
    (c.evaluate_codes.ensures.meaning k))

pub catching::evaluate_codes-returns-clause-meaning : goal.catching::evaluate_codes-returns-clause-meaning
catching::evaluate_codes-returns-clause-meaning t c =
    λ k. rw c.in_ok-into_values.ensures (c.in_ok-values.ensures.meaning tt)

pub catching::evaluate_codes-returns-in_err-values-clause-meaning : goal.catching::evaluate_codes-returns-in_err-values-clause-meaning
catching::evaluate_codes-returns-in_err-values-clause-meaning t c =
    let p = err_from_is_err_and c.from_residual.result c.from_residual.ensures.1 in rw (p.1, p.2) (λ k. c.in_err-values.ensures.meaning k)

pub assignment::locate-returns-in_err-root-clause-meaning : goal.assignment::locate-returns-in_err-root-clause-meaning
assignment::locate-returns-in_err-root-clause-meaning t c =
    let p = err_from_is_err_and c.from_residual-in_err-root.result c.from_residual-in_err-root.ensures.1 in rw (p.1, p.2) (λ k. root_ends (rw c.in_ok-parts.ensures.root at (c.in_err-root.ensures.meaning k)))

pub assignment::locate-loop-spot-init : goal.assignment::locate-loop-spot-init
assignment::locate-loop-spot-init t c =
    record { ticks = omega arith; rest = λ o s d. locates (rw c.in_ok-parts.ensures.root at (c.in_ok-root.ensures.meaning tt)) (rw (c.deref-spot-items.ensures.value, c.in_ok-parts.ensures.spots, c.new.ensures.items) at d) }

pub assignment::locate-returns-in_err-step-clause-meaning : goal.assignment::locate-returns-in_err-step-clause-meaning
assignment::locate-returns-in_err-step-clause-meaning t c =
    let p = err_from_is_err_and c.from_residual-in_err-step.result c.from_residual-in_err-step.ensures.1 in rw (p.1, p.2) (λ k. c.loop-spot.invariant.rest (Err (failure_of c.in_err-step.field-0.0)) _ (rw (drop_next c.deref-spot-items.result.now c.loop-spot.spot-index c.spot-item.result c.loop-spot-test.true c.spot-item.is) (step_ends (c.in_err-step.ensures.meaning k))))

pub assignment::locate-loop-spot-preserved : goal.assignment::locate-loop-spot-preserved
assignment::locate-loop-spot-preserved t c =
    record { ticks = omega arith; rest = λ o s d. c.loop-spot.invariant.rest o s (rw (drop_next c.deref-spot-items.result.now c.loop-spot.spot-index c.spot-item.result c.loop-spot-test.true c.spot-item.is) (enters (c.in_ok-step.ensures.meaning tt) (rw (c.in_ok-push_step.ensures.root, c.in_ok-push_step.ensures.steps) at d))) }

pub assignment::locate-returns-clause-meaning : goal.assignment::locate-returns-clause-meaning
assignment::locate-returns-clause-meaning t c =
    λ k. c.loop-spot.invariant.rest (Ok (path_of c.loop-spot.path)) _ (rw (drop_of_length-le c.deref-spot-items.result.now c.loop-spot-test.false) inside)

pub scattering::set_defaults-returns-in_err-value-clause-meaning : goal.scattering::set_defaults-returns-in_err-value-clause-meaning
scattering::set_defaults-returns-in_err-value-clause-meaning t c =
    let p = err_from_is_err_and c.from_residual.result c.from_residual.ensures.1 in rw (p.1, p.2) (λ k. c.loop-default.invariant.rest (Err (stops (stop_of c.in_err-value.field-0.0))) _ (rw (drop_next c.args.defaults.now c.loop-default.default-index c.default-item.result c.loop-default-test.true c.default-item.is) (default_stops (c.in_err-value.ensures.meaning k))))

pub scattering::set_defaults-loop-default-preserved : goal.scattering::set_defaults-loop-default-preserved
scattering::set_defaults-loop-default-preserved t c =
    record { ticks = omega arith; rest = λ o s d. c.loop-default.invariant.rest o s (rw (drop_next c.args.defaults.now c.loop-default.default-index c.default-item.result c.loop-default-test.true c.default-item.is) (default_then (c.in_ok-value.ensures.meaning tt) (same_state (sym c.in_ok-set.ensures) refl) d)) }

pub scattering::set_defaults-returns-clause-meaning : goal.scattering::set_defaults-returns-clause-meaning
scattering::set_defaults-returns-clause-meaning t c =
    λ k. c.loop-default.invariant.rest (Ok tt) _ (rw (drop_of_length-le c.args.defaults.now c.loop-default-test.false) none_missing)

pub assignment::step-returns-in_err-container-clause-meaning : goal.assignment::step-returns-in_err-container-clause-meaning
assignment::step-returns-in_err-container-clause-meaning t c =
    let p = err_from_is_err_and c.from_residual.result c.from_residual.ensures.1 in rw (p.1, p.2) (λ k. unread (c.in_err-container.ensures k))

pub assignment::step-returns-in_err-place-in-Element-clause-meaning : goal.assignment::step-returns-in_err-place-in-Element-clause-meaning
assignment::step-returns-in_err-place-in-Element-clause-meaning t c =
    let p = err_from_is_err_and c.from_residual-in_err-place-in-Element.result c.from_residual-in_err-place-in-Element.ensures.1 in rw (p.1, p.2, c.in-Element.is) (λ k. spot_ends (c.in_ok-container.ensures tt) (element_stops (c.in_err-place-in-Element.ensures.meaning k)))

pub assignment::step-returns-in_err-low-in-Part-clause-meaning : goal.assignment::step-returns-in_err-low-in-Part-clause-meaning
assignment::step-returns-in_err-low-in-Part-clause-meaning t c =
    let p = err_from_is_err_and c.from_residual-in_err-low-in-Part.result c.from_residual-in_err-low-in-Part.ensures.1 in rw (p.1, p.2, c.in-Part.is) (λ k. spot_ends (c.in_ok-container.ensures tt) (element_stops (c.in_err-low-in-Part.ensures.meaning k)))

pub assignment::step-returns-in_err-high-in-Part-clause-meaning : goal.assignment::step-returns-in_err-high-in-Part-clause-meaning
assignment::step-returns-in_err-high-in-Part-clause-meaning t c =
    let p = err_from_is_err_and c.from_residual-in_err-high-in-Part.result c.from_residual-in_err-high-in-Part.ensures.1 in rw (p.1, p.2, c.in-Part.is) (λ k. spot_ends (c.in_ok-container.ensures tt) (element_then (c.in_ok-low-in-Part.ensures.meaning tt) (element_stops (c.in_err-high-in-Part.ensures.meaning k)) refl))

pub assignment::step-returns-in_ok-place-in-Element-clause-meaning : goal.assignment::step-returns-in_ok-place-in-Element-clause-meaning
assignment::step-returns-in_ok-place-in-Element-clause-meaning t c =
    λ k. rw c.in-Element.is (steps_in (c.in_ok-container.ensures tt) (element_then (c.in_ok-place-in-Element.ensures.meaning tt) no_more refl))

pub assignment::step-returns-in_ok-high-in-Part-clause-meaning : goal.assignment::step-returns-in_ok-high-in-Part-clause-meaning
assignment::step-returns-in_ok-high-in-Part-clause-meaning t c =
    λ k. rw c.in-Part.is (steps_in (c.in_ok-container.ensures tt) (element_then (c.in_ok-low-in-Part.ensures.meaning tt) (element_then (c.in_ok-high-in-Part.ensures.meaning tt) no_more refl) refl))

pub assignment::find-returns-in_err-base-in-Some-clause-meaning : goal.assignment::find-returns-in_err-base-in-Some-clause-meaning
assignment::find-returns-in_err-base-in-Some-clause-meaning t c =
    let p = err_from_is_err_and c.from_residual.result c.from_residual.ensures.1 in rw (p.1, p.2, c.in-Some.ensures.some) (λ k. parts_end (element_stops (c.in_err-base-in-Some.ensures.meaning k)))

pub assignment::find-returns-in_err-name-in-Some-clause-meaning : goal.assignment::find-returns-in_err-name-in-Some-clause-meaning
assignment::find-returns-in_err-name-in-Some-clause-meaning t c =
    let p = err_from_is_err_and c.from_residual-in_err-name-in-Some.result c.from_residual-in_err-name-in-Some.ensures.1 in rw (p.1, p.2, c.in-Some.ensures.some) (λ k. parts_end (element_then (c.in_ok-base-in-Some.ensures.meaning tt) (element_stops (c.in_err-name-in-Some.ensures.meaning k)) refl))

pub assignment::find-returns-in_ok-name-in-Some-clause-meaning : goal.assignment::find-returns-in_ok-name-in-Some-clause-meaning
assignment::find-returns-in_ok-name-in-Some-clause-meaning t c =
    λ k. rw c.in-Some.ensures.some (finds (element_then (c.in_ok-base-in-Some.ensures.meaning tt) (element_then (c.in_ok-name-in-Some.ensures.meaning tt) no_more refl) refl) refl)

pub assignment::find-returns-in-None-clause-meaning : goal.assignment::find-returns-in-None-clause-meaning
assignment::find-returns-in-None-clause-meaning t c =
    λ k. finds (rw c.in-None.ensures.none no_more) c.root_alone.ensures

pub assignment::store-returns-in-Property-clause-meaning : goal.assignment::store-returns-in-Property-clause-meaning
assignment::store-returns-in-Property-clause-meaning t c =
    λ k. rw c.in-Property.is (rw c.in_ok-value.ensures.value at (c.store_property.ensures (context_of c.args.stack.now c.args.indexed) k))

pub assignment::store-returns-in-Literals-clause-meaning : goal.assignment::store-returns-in-Literals-clause-meaning
assignment::store-returns-in-Literals-clause-meaning t c =
    λ k. rw c.in-Literals.is (rw c.in_ok-value.ensures.value at (c.store_literals.ensures (context_of c.args.stack.now c.args.indexed) (state_of c.args.task.now c.args.world.now c.args.active.now) k))

pub assignment::store-returns-in_ok-whole-in-Scatter-clause-meaning : goal.assignment::store-returns-in_ok-whole-in-Scatter-clause-meaning
assignment::store-returns-in_ok-whole-in-Scatter-clause-meaning t c =
    λ k. rw c.in-Scatter.is (stores (rw c.in_ok-value.ensures.value at (c.in_ok-whole-in-Scatter.ensures tt)) (c.scatter.ensures.meaning k))

pub assignment::store-returns-in_err-whole-in-Scatter-clause-meaning : goal.assignment::store-returns-in_err-whole-in-Scatter-clause-meaning
assignment::store-returns-in_err-whole-in-Scatter-clause-meaning t c =
    let p = err_from_is_err_and c.from_residual-in_err-whole-in-Scatter.result c.from_residual-in_err-whole-in-Scatter.ensures.1 in rw (p.1, p.2) (λ k. no_store (rw c.in_ok-value.ensures.value at (c.in_err-whole-in-Scatter.ensures k)))

pub statement::run_block-returns-in_err-flow-clause-meaning : goal.statement::run_block-returns-in_err-flow-clause-meaning
statement::run_block-returns-in_err-flow-clause-meaning t c =
    let p = err_from_is_err_and c.from_residual-in_err-flow.result c.from_residual-in_err-flow.ensures.1 in
    rw (p.1, p.2) (λ k. c.loop-statement.invariant.rest (Err (stop_of c.in_err-flow.field-0.0)) _ (rw (drop_next c.args.statements.now c.loop-statement.statement-index c.statement-item.result c.loop-statement-test.true c.statement-item.is) (leaves (statement_begins c.in_ok-take_tick.ensures.taken (rw c.in_ok-take_tick.ensures.left at (does_from (c.try_statement.ensures.kept c.if-try_statement.false c.loop-statement.world) (c.in_err-flow.ensures.meaning k)))) refl)))

pub statement::run_block-loop-statement-preserved : goal.statement::run_block-loop-statement-preserved
statement::run_block-loop-statement-preserved t c =
    let tick = c.in_ok-take_tick.ensures in
    let left = ap (λ (x : Task). x.ticks_left) tick.left in
    record {
      ticks = omega (arith, left);
      fewer = λ z. omega (arith, left, tick.taken);
      rest = λ o s d. c.loop-statement.invariant.rest o s (rw (drop_next c.args.statements.now c.loop-statement.statement-index c.statement-item.result c.loop-statement-test.true c.statement-item.is) (proceeds (statement_begins tick.taken (rw tick.left at (does_from (c.try_statement.ensures.kept c.if-try_statement.false c.loop-statement.world) (rw c.in-Next.is at (c.in_ok-flow.ensures.meaning tt))))) d));
    }

pub statement::run_block-returns-in_err-take_tick-clause-meaning : goal.statement::run_block-returns-in_err-take_tick-clause-meaning
statement::run_block-returns-in_err-take_tick-clause-meaning t c =
    let p = err_from_is_err_and c.from_residual.result c.from_residual.ensures.1 in
    rw (p.1, p.2) (λ k. let h = c.in_err-take_tick.ensures.spent k in c.loop-statement.invariant.rest (Err (stop_of c.in_err-take_tick.field-0.0)) _ (rw (drop_next c.args.statements.now c.loop-statement.statement-index c.statement-item.result c.loop-statement-test.true c.statement-item.is, c.in_err-take_tick.ensures.kept, h.1) (leaves (statement_spent h.0) refl)))

pub statement::run_block-loop-statement-preserved-then-try_statement : goal.statement::run_block-loop-statement-preserved-then-try_statement
statement::run_block-loop-statement-preserved-then-try_statement t c =
    let tick = c.in_ok-take_tick.ensures in
    let left = ap (λ (x : Task). x.ticks_left) tick.left in
    record {
      ticks = omega (arith, left);
      fewer = λ z. omega (arith, left, tick.taken);
      rest = λ o s d. c.loop-statement.invariant.rest o s (rw (drop_next c.args.statements.now c.loop-statement.statement-index c.statement-item.result c.loop-statement-test.true c.statement-item.is) (proceeds (statement_begins tick.taken (rw tick.left at (c.try_statement.ensures.done c.if-try_statement.true c.loop-statement.world (context_of c.args.stack.now None)))) d));
    }

pub statement::run_block-returns-clause-meaning : goal.statement::run_block-returns-clause-meaning
statement::run_block-returns-clause-meaning t c =
    λ k. c.loop-statement.invariant.rest (Ok next) _ (rw (drop_of_length-le c.args.statements.now c.loop-statement-test.false) ends)

pub statement::branch-returns-in-Some-clause-meaning : goal.statement::branch-returns-in-Some-clause-meaning
statement::branch-returns-in-Some-clause-meaning t c =
    λ k. selects ((rw c.in-Some.is at c.in_ok-chosen.ensures.ok) _ _ (c.run_block.ensures.meaning k))

pub statement::branch-returns-in-None-clause-meaning : goal.statement::branch-returns-in-None-clause-meaning
statement::branch-returns-in-None-clause-meaning t c =
    λ k. selects (rw c.in-None.is at c.in_ok-chosen.ensures.ok)

pub statement::branch-returns-in_err-chosen-clause-meaning : goal.statement::branch-returns-in_err-chosen-clause-meaning
statement::branch-returns-in_err-chosen-clause-meaning t c =
    let p = err_from_is_err_and c.from_residual.result c.from_residual.ensures.1 in rw (p.1, p.2) (λ k. selects (c.in_err-chosen.ensures.err k))

pub statement::choose-returns-clause-ok : goal.statement::choose-returns-clause-ok
statement::choose-returns-clause-ok t c =
    IfOk-weaker c.select.result _ _ (λ chosen h. passed _ _ _ c.in_ok-passes.ensures.ok.1 (c.in_ok-passes.ensures.ok.2 ∙ c.if-passes.false) _ h) c.select.ensures.ok

pub statement::choose-returns-clause-err : goal.statement::choose-returns-clause-err
statement::choose-returns-clause-err t c =
    if_err c.select.result (λ e h k. arm_passed c.in_ok-passes.ensures.ok.1 (c.in_ok-passes.ensures.ok.2 ∙ c.if-passes.false) (h k)) c.select.ensures.err

pub statement::choose-returns-then-passes-clause-ok : goal.statement::choose-returns-then-passes-clause-ok
statement::choose-returns-then-passes-clause-ok t c =
    λ o s d. arm_runs c.in_ok-passes.ensures.ok.1 (c.in_ok-passes.ensures.ok.2 ∙ c.if-passes.true) d

pub statement::choose-returns-in_err-passes-clause-err : goal.statement::choose-returns-in_err-passes-clause-err
statement::choose-returns-in_err-passes-clause-err t c =
    let p = err_from_is_err_and c.from_residual.result c.from_residual.ensures.1 in rw (p.1, p.2) (λ k. test_stops (c.in_err-passes.ensures.err k))

pub statement::select-returns-clause-ok : goal.statement::select-returns-clause-ok
statement::select-returns-clause-ok t c =
    c.loop-arm.invariant.rest (Ok next) _ (rw (drop_of_length-le c.args.arms.now c.loop-arm-test.false) none_selected)

pub statement::select-returns-in-Else-clause-ok : goal.statement::select-returns-in-Else-clause-ok
statement::select-returns-in-Else-clause-ok t c =
    λ o s d. c.loop-arm.invariant.rest o s (rw (drop_next c.args.arms.now c.loop-arm.arm-index c.arm-item.result c.loop-arm-test.true c.arm-item.is, c.in-Else.is, row_block, ← c.deref-in-Else.ensures.value) (else_runs d))

pub statement::select-returns-then-passes-clause-ok : goal.statement::select-returns-then-passes-clause-ok
statement::select-returns-then-passes-clause-ok t c =
    λ o s d. c.loop-arm.invariant.rest o s (rw (drop_next c.args.arms.now c.loop-arm.arm-index c.arm-item.result c.loop-arm-test.true c.arm-item.is, c.in-ElseIf.is, row_block, ← c.deref.ensures, ← c.deref-then-passes.ensures.value) (arm_runs c.in_ok-passes-in-ElseIf.ensures.ok.1 (c.in_ok-passes-in-ElseIf.ensures.ok.2 ∙ c.if-passes.true) d))

pub statement::select-returns-in_err-passes-in-ElseIf-clause-err : goal.statement::select-returns-in_err-passes-in-ElseIf-clause-err
statement::select-returns-in_err-passes-in-ElseIf-clause-err t c =
    let p = err_from_is_err_and c.from_residual.result c.from_residual.ensures.1 in rw (p.1, p.2) (λ k. c.loop-arm.invariant.rest (Err (stop_of c.in_err-passes-in-ElseIf.field-0.0)) _ (rw (drop_next c.args.arms.now c.loop-arm.arm-index c.arm-item.result c.loop-arm-test.true c.arm-item.is, c.in-ElseIf.is, ← c.deref.ensures) (test_stops (c.in_err-passes-in-ElseIf.ensures.err k))))

pub statement::select-loop-arm-preserved : goal.statement::select-loop-arm-preserved
statement::select-loop-arm-preserved t c =
    record { ticks = omega arith; rest = λ o s d. c.loop-arm.invariant.rest o s (rw (drop_next c.args.arms.now c.loop-arm.arm-index c.arm-item.result c.loop-arm-test.true c.arm-item.is, c.in-ElseIf.is, ← c.deref.ensures) (arm_passed c.in_ok-passes-in-ElseIf.ensures.ok.1 (c.in_ok-passes-in-ElseIf.ensures.ok.2 ∙ c.if-passes.false) d)) }

pub loops::for_list-returns-in-Ok-clause-meaning : goal.loops::for_list-returns-in-Ok-clause-meaning
loops::for_list-returns-in-Ok-clause-meaning t c =
    λ k. visits (c.in_ok-list.ensures.meaning tt) c.in-Ok.ensures.ok (c.visit_all.ensures.meaning k)

pub loops::for_list-returns-in_err-list-clause-meaning : goal.loops::for_list-returns-in_err-list-clause-meaning
loops::for_list-returns-in_err-list-clause-meaning t c =
    let p = err_from_is_err_and c.from_residual.result c.from_residual.ensures.1 in rw (p.1, p.2) (λ k. list_stops (c.in_err-list.ensures.meaning k))

pub loops::for_range-returns-in_err-low-clause-meaning : goal.loops::for_range-returns-in_err-low-clause-meaning
loops::for_range-returns-in_err-low-clause-meaning t c =
    let p = err_from_is_err_and c.from_residual.result c.from_residual.ensures.1 in rw (p.1, p.2) (λ k. span_stops (element_stops (c.in_err-low.ensures.meaning k)))

pub loops::for_range-returns-in_err-high-clause-meaning : goal.loops::for_range-returns-in_err-high-clause-meaning
loops::for_range-returns-in_err-high-clause-meaning t c =
    let p = err_from_is_err_and c.from_residual-in_err-high.result c.from_residual-in_err-high.ensures.1 in rw (p.1, p.2) (λ k. span_stops (element_then (c.in_ok-low.ensures.meaning tt) (element_stops (c.in_err-high.ensures.meaning k)) refl))

pub loops::for_range-returns-in-Ok-clause-meaning : goal.loops::for_range-returns-in-Ok-clause-meaning
loops::for_range-returns-in-Ok-clause-meaning t c =
    λ k. counts (element_then (c.in_ok-low.ensures.meaning tt) (element_then (c.in_ok-high.ensures.meaning tt) no_more refl) refl) c.in-Ok.ensures.ok (c.count.ensures.meaning k)

pub trying::run_finally-returns-then-not-runs_finally-clause-meaning : goal.trying::run_finally-returns-then-not-runs_finally-clause-meaning
trying::run_finally-returns-then-not-runs_finally-clause-meaning t c =
    λ k. finally_skipped (c.run_all-outcome.ensures.meaning k) (sym (c.runs_finally.ensures.outcome k) ∙ c.if-not-runs_finally.true)

pub trying::run_finally-returns-clause-meaning : goal.trying::run_finally-returns-clause-meaning
trying::run_finally-returns-clause-meaning t c =
    λ k. let h = c.runs_finally.ensures.known c.if-not-runs_finally.false in finally_runs (c.run_all-outcome.ensures.meaning h) (sym (c.runs_finally.ensures.outcome h) ∙ c.if-not-runs_finally.false) (c.run_all-last.ensures.meaning (c.after_finally.ensures.known k)) (sym c.after_finally.ensures.outcome)

pub trying::run_with_handlers-returns-in_err-guarded-clause-meaning : goal.trying::run_with_handlers-returns-in_err-guarded-clause-meaning
trying::run_with_handlers-returns-in_err-guarded-clause-meaning t c =
    let p = err_from_is_err_and c.from_residual.result c.from_residual.ensures.1 in rw (p.1, p.2) (λ k. unprepared (c.in_err-guarded.ensures.meaning k))

pub statement::perform-returns-in-Return-clause-meaning : goal.statement::perform-returns-in-Return-clause-meaning
statement::perform-returns-in-Return-clause-meaning t c =
    λ k. rw c.in-Return.is (c.give.ensures.meaning k)

pub statement::perform-returns-in-Expression-clause-meaning : goal.statement::perform-returns-in-Expression-clause-meaning
statement::perform-returns-in-Expression-clause-meaning t c =
    λ k. rw (c.in-Expression.is, ← c.deref.ensures) (c.evaluate_alone.ensures.meaning k)

pub statement::perform-returns-in-If-clause-meaning : goal.statement::perform-returns-in-If-clause-meaning
statement::perform-returns-in-If-clause-meaning t c =
    λ k. rw (c.in-If.is, row_block, row_arms, ← c.deref-in-If.ensures, ← c.deref-in-If-2.ensures.value, ← c.deref-in-If-3.ensures.value) (c.branch-task.ensures.meaning k)

pub statement::perform-returns-in-ForList-clause-meaning : goal.statement::perform-returns-in-ForList-clause-meaning
statement::perform-returns-in-ForList-clause-meaning t c =
    λ k. rw (c.in-ForList.is, row_block, ← c.deref-in-ForList.ensures, ← c.deref-in-ForList-2.ensures.value) (c.for_list.ensures.meaning k)

pub statement::perform-returns-in-ForRange-clause-meaning : goal.statement::perform-returns-in-ForRange-clause-meaning
statement::perform-returns-in-ForRange-clause-meaning t c =
    λ k. rw (c.in-ForRange.is, row_block, ← c.deref-in-ForRange.ensures, ← c.deref-in-ForRange-2.ensures, ← c.deref-in-ForRange-3.ensures.value) (c.for_range.ensures.meaning k)

pub statement::perform-returns-in-While-clause-meaning : goal.statement::perform-returns-in-While-clause-meaning
statement::perform-returns-in-While-clause-meaning t c =
    λ k. rw (c.in-While.is, row_block, ← c.deref-in-While.ensures, ← c.deref-in-While-2.ensures.value) (loops (c.repeat.ensures.meaning k))

pub statement::perform-returns-in_ok-copied_name-in-Break-clause-meaning : goal.statement::perform-returns-in_ok-copied_name-in-Break-clause-meaning
statement::perform-returns-in_ok-copied_name-in-Break-clause-meaning t c =
    λ k. rw (c.in-Break.is, c.in_ok-copied_name-in-Break.ensures.copy) breaks_out

pub statement::perform-returns-in_ok-copied_name-in-Continue-clause-meaning : goal.statement::perform-returns-in_ok-copied_name-in-Continue-clause-meaning
statement::perform-returns-in_ok-copied_name-in-Continue-clause-meaning t c =
    λ k. rw (c.in-Continue.is, c.in_ok-copied_name-in-Continue.ensures.copy) continues_on

pub statement::perform-returns-in-TryExcept-clause-meaning : goal.statement::perform-returns-in-TryExcept-clause-meaning
statement::perform-returns-in-TryExcept-clause-meaning t c =
    λ k. rw (c.in-TryExcept.is, row_block, row_handlers, ← c.deref-in-TryExcept.ensures.value, ← c.deref-in-TryExcept-2.ensures.value) (c.run_except.ensures.meaning k)

pub statement::perform-returns-in-TryFinally-clause-meaning : goal.statement::perform-returns-in-TryFinally-clause-meaning
statement::perform-returns-in-TryFinally-clause-meaning t c =
    λ k. rw (c.in-TryFinally.is, row_block c.in-TryFinally.body, row_block c.in-TryFinally.cleanup, ← c.deref-in-TryFinally.ensures.value, ← c.deref-in-TryFinally-2.ensures.value) (c.run_finally.ensures.meaning k)

pub statement::run_block-returns-in_default : goal.statement::run_block-returns-in_default
statement::run_block-returns-in_default t c =
    let tick = c.in_ok-take_tick.ensures in
    let left = ap (λ (x : Task). x.ticks_left) tick.left in
    record {
      meaning = λ k. c.loop-statement.invariant.rest (Ok (flow_of c.in_ok-flow.flow)) _ (rw (drop_next c.args.statements.now c.loop-statement.statement-index c.statement-item.result c.loop-statement-test.true c.statement-item.is) (leaves (statement_begins tick.taken (rw tick.left at (does_from (c.try_statement.ensures.kept c.if-try_statement.false c.loop-statement.world) (c.in_ok-flow.ensures.meaning tt)))) (goes_on-not _ c.in_default.not-Next)));
      ticks = omega (arith, left);
      fewer = λ some. omega (arith, left, tick.taken);
    }

pub loops::for_list-returns-clause-meaning : goal.loops::for_list-returns-clause-meaning
loops::for_list-returns-clause-meaning t c =
    λ k. list_fails (c.in_ok-list.ensures.meaning tt) c.in-Err.ensures.err (c.no_turn.ensures.flow k)

pub loops::for_range-returns-clause-meaning : goal.loops::for_range-returns-clause-meaning
loops::for_range-returns-clause-meaning t c =
    λ k. span_fails (element_then (c.in_ok-low.ensures.meaning tt) (element_then (c.in_ok-high.ensures.meaning tt) no_more refl) refl) c.in-Err.ensures.err (c.no_turn.ensures.flow k)

pub trying::prepare-loop-handler-preserved : goal.trying::prepare-loop-handler-preserved
trying::prepare-loop-handler-preserved t c =
    let parts = c.handler_parts-parts.result in
    let vs = code_values parts.codes.now c.in_ok-values.values.items in
    let h = c.in_ok-values.ensures.meaning tt in
    record {
      ticks = omega (arith, c.loop-handler.invariant.ticks, c.in_ok-values.ensures.ticks);
      rest = λ o s d.
          let g = guarded (option_copied parts.name) (source_codes parts.codes.now) (source_block parts.body.now) vs in
          subst (λ r. Prepares Faults (context_of c.args.stack.now None) (source_handler_list c.args.handlers.now) (state_of c.args.task.now c.args.world.now c.args.active.now) r s)
          (guarded_on (map guarded_of c.loop-handler.guarded.items) _ g o c.in_ok-push_guarded.ensures)
          (c.loop-handler.invariant.rest _ s (rw (drop_next c.args.handlers.now c.loop-handler.handler-index c.handler-item.result c.loop-handler-test.true c.handler-item.is, c.handler_parts-parts.ensures (source_handler_list (drop (c.loop-handler.handler-index + 1) c.args.handlers.now))) (codes_then h.1 h.2 d refl)));
    }

pub trying::prepare-returns-in_err-values-clause-meaning : goal.trying::prepare-returns-in_err-values-clause-meaning
trying::prepare-returns-in_err-values-clause-meaning t c =
    let p = err_from_is_err_and c.from_residual.result c.from_residual.ensures.1 in
    rw (p.1, p.2) (λ k.
    let h = c.in_err-values.ensures.meaning k in
    c.loop-handler.invariant.rest (Err (stop_of c.in_err-values.field-0.0)) _ (rw (drop_next c.args.handlers.now c.loop-handler.handler-index c.handler-item.result c.loop-handler-test.true c.handler-item.is, c.handler_parts-parts.ensures (source_handler_list (drop (c.loop-handler.handler-index + 1) c.args.handlers.now))) (codes_stop h.1 h.2)))

pub trying::code_values-returns-in-Any-clause-meaning : goal.trying::code_values-returns-in-Any-clause-meaning
trying::code_values-returns-in-Any-clause-meaning t c = λ k. (Ok [], rw c.in-Any.is no_more, rw (c.in-Any.is, c.new.ensures.items) refl)

pub trying::code_values-returns-in_ok-take_ticks-in-Known-clause-meaning : goal.trying::code_values-returns-in_ok-take_ticks-in-Known-clause-meaning
trying::code_values-returns-in_ok-take_ticks-in-Known-clause-meaning t c = λ k. (
  Ok (map (λ e. error e) c.in-Known.errors.items),
  rw (c.in-Known.is, c.in_ok-take_ticks-in-Known.ensures.left) (errors_given c.in-Known.errors.items (state_of c.args.task.now c.args.world.now c.args.active.now) (c.args.task.now.ticks_left - c.len.result) (omega (arith, c.in_ok-take_ticks-in-Known.ensures.taken, c.len.ensures, c.in-Known.errors.ok.0)) (omega (arith, c.len.ensures, c.in-Known.errors.ok.0))),
  rw c.in-Known.is refl,
)

pub trying::code_values-returns-in_err-take_ticks-in-Known-clause-meaning : goal.trying::code_values-returns-in_err-take_ticks-in-Known-clause-meaning
trying::code_values-returns-in_err-take_ticks-in-Known-clause-meaning t c =
    let p = err_from_is_err_and c.from_residual.result c.from_residual.ensures.1 in
    rw (p.1, p.2) (λ k.
    let h = c.in_err-take_ticks-in-Known.ensures.spent k in (
      Err (stops (out_of_ticks (trace_of c.args.stack.now c.args.active.now))),
      rw (c.in-Known.is, c.in_err-take_ticks-in-Known.ensures.emptied) (errors_end c.in-Known.errors.items (state_of c.args.task.now c.args.world.now c.args.active.now) c.args.task.now.ticks_left refl (omega (arith, h.0, c.len.ensures, c.in-Known.errors.ok.0))),
      ap Err (sym h.1),
    ))

pub trying::code_values-returns-in-Listed-clause-meaning : goal.trying::code_values-returns-in-Listed-clause-meaning
trying::code_values-returns-in-Listed-clause-meaning t c = λ k. (
  seen_answers c.evaluate_codes-outcome.result,
  rw (c.in-Listed.is, row_items, ← c.deref.ensures.value) (c.evaluate_codes-outcome.ensures.meaning (c.settle_codes.ensures.known k)),
  c.settle_codes.ensures.outcome k ∙ codes_given c.args.codes.now (λ vs. rw c.in-Listed.is refl) c.settle_codes.result,
)

pub trying::prepare-returns-clause-meaning : goal.trying::prepare-returns-clause-meaning
trying::prepare-returns-clause-meaning t c =
    λ k. rw append-nil at (c.loop-handler.invariant.rest (Ok []) (state_of c.loop-handler.task c.loop-handler.world c.loop-handler.active) (rw (drop_of_length-le c.args.handlers.now c.loop-handler-test.false) no_codes))

pub statement::give-returns-in-None-clause-meaning : goal.statement::give-returns-in-None-clause-meaning
statement::give-returns-in-None-clause-meaning t c = rw c.in-None.is (λ k. gives_zero)

pub statement::give-returns-in_ok-evaluate-in-Some-clause-meaning : goal.statement::give-returns-in_ok-evaluate-in-Some-clause-meaning
statement::give-returns-in_ok-evaluate-in-Some-clause-meaning t c =
    rw (c.in-Some.is, ← c.deref.ensures) (λ k. gives (c.in_ok-evaluate-in-Some.ensures.meaning tt) refl)

pub statement::give-returns-in_err-evaluate-in-Some-clause-meaning : goal.statement::give-returns-in_err-evaluate-in-Some-clause-meaning
statement::give-returns-in_err-evaluate-in-Some-clause-meaning t c =
    let p = err_from_is_err_and c.from_residual.result c.from_residual.ensures.1 in
    rw (p.1, p.2, c.in-Some.is, ← c.deref.ensures) (λ k. gives (c.in_err-evaluate-in-Some.ensures.meaning k) refl)

pub assignment::assign-returns-in_ok-set-in-Variable-2-clause-meaning : goal.assignment::assign-returns-in_ok-set-in-Variable-2-clause-meaning
assignment::assign-returns-in_ok-set-in-Variable-2-clause-meaning t c =
    λ k. rw c.in-Variable-2.is (assigned (c.in_ok-value-in-Variable-2.ensures.meaning tt) (same_state (sym (rw c.in_ok-copy-in-Variable-2.ensures.value at c.in_ok-set-in-Variable-2.ensures)) refl))

pub assignment::assign-returns-in_err-value-in-Variable-2-clause-meaning : goal.assignment::assign-returns-in_err-value-in-Variable-2-clause-meaning
assignment::assign-returns-in_err-value-in-Variable-2-clause-meaning t c =
    let p = err_from_is_err_and c.from_residual.result c.from_residual.ensures.1 in rw (p.1, p.2) (λ k. rw c.in-Variable-2.is (unassigned (c.in_err-value-in-Variable-2.ensures.meaning k)))

pub assignment::assign_value-returns-clause-meaning : goal.assignment::assign_value-returns-clause-meaning
assignment::assign_value-returns-clause-meaning t c =
    λ k. performed c.in_ok-take_tick.ensures.taken (assigned (rw c.in_ok-take_tick.ensures.left at (c.in_ok-value-2.ensures.meaning tt)) (same_state (sym c.in_ok-set.ensures) refl))

pub assignment::assign_value-returns-in_err-take_tick-clause-meaning : goal.assignment::assign_value-returns-in_err-take_tick-clause-meaning
assignment::assign_value-returns-in_err-take_tick-clause-meaning t c =
    let p = err_from_is_err_and c.from_residual.result c.from_residual.ensures.1 in rw (p.1, p.2) (λ k. let h = c.in_err-take_tick.ensures.spent k in rw (c.in_err-take_tick.ensures.kept, h.1) (evaluates (spent h.0) refl))

pub lengthening::lengthen-returns-clause-meaning : goal.lengthening::lengthen-returns-clause-meaning
lengthening::lengthen-returns-clause-meaning t c =
    λ k. does_from (c.in_ok-lengthened.ensures.kept c.if-lengthened.false c.args.world.now) (c.end_assignment.ensures _ _ _ c.in_ok-take_tick.ensures.taken (rw c.in_ok-take_tick.ensures.left at c.in_ok-take_tick-2.ensures.taken) (rw (c.in_ok-take_tick-2.ensures.left, c.in_ok-take_tick.ensures.left) at c.put_longer-set.ensures.ok) (rw (c.in_ok-take_tick-2.ensures.left, c.in_ok-take_tick.ensures.left) at c.put_longer-set.ensures.err) k)

pub lengthening::lengthen-returns-in_err-take_tick-clause-meaning : goal.lengthening::lengthen-returns-in_err-take_tick-clause-meaning
lengthening::lengthen-returns-in_err-take_tick-clause-meaning t c =
    let p = err_from_is_err_and c.from_residual-in_err-take_tick.result c.from_residual-in_err-take_tick.ensures.1 in rw (p.1, p.2) (λ k. does_from (c.in_ok-lengthened.ensures.kept c.if-lengthened.false c.args.world.now) (let h = c.in_err-take_tick.ensures.spent k in rw (c.in_err-take_tick.ensures.kept, h.1) (evaluates (spent h.0) refl)))

pub lengthening::lengthen-returns-in_err-take_tick-2-clause-meaning : goal.lengthening::lengthen-returns-in_err-take_tick-2-clause-meaning
lengthening::lengthen-returns-in_err-take_tick-2-clause-meaning t c =
    let p = err_from_is_err_and c.from_residual-in_err-take_tick-2.result c.from_residual-in_err-take_tick-2.ensures.1 in rw (p.1, p.2) (λ k. does_from (c.in_ok-lengthened.ensures.kept c.if-lengthened.false c.args.world.now) (let h = c.in_err-take_tick-2.ensures.spent k in rw (c.in_err-take_tick-2.ensures.kept, c.in_ok-take_tick.ensures.left, h.1) (unperformed c.in_ok-take_tick.ensures.taken (unassigned (spent (rw c.in_ok-take_tick.ensures.left at h.0))))))

pub extension::extend_value-returns-clause-meaning : goal.extension::extend_value-returns-clause-meaning
extension::extend_value-returns-clause-meaning t c =
    λ k. does_from (c.in_ok-extended.ensures.kept c.if-extended.false c.args.world.now) (c.end_assignment.ensures _ _ _ c.in_ok-take_tick.ensures.taken (rw c.in_ok-take_tick.ensures.left at c.in_ok-take_tick-2.ensures.taken) (rw (c.in_ok-take_tick-2.ensures.left, c.in_ok-take_tick.ensures.left) at c.put_extended-set.ensures.ok) (rw (c.in_ok-take_tick-2.ensures.left, c.in_ok-take_tick.ensures.left) at c.put_extended-set.ensures.err) k)

pub extension::extend_value-returns-in_err-take_tick-clause-meaning : goal.extension::extend_value-returns-in_err-take_tick-clause-meaning
extension::extend_value-returns-in_err-take_tick-clause-meaning t c =
    let p = err_from_is_err_and c.from_residual-in_err-take_tick.result c.from_residual-in_err-take_tick.ensures.1 in rw (p.1, p.2) (λ k. does_from (c.in_ok-extended.ensures.kept c.if-extended.false c.args.world.now) (let h = c.in_err-take_tick.ensures.spent k in rw (c.in_err-take_tick.ensures.kept, h.1) (evaluates (spent h.0) refl)))

pub extension::extend_value-returns-in_err-take_tick-2-clause-meaning : goal.extension::extend_value-returns-in_err-take_tick-2-clause-meaning
extension::extend_value-returns-in_err-take_tick-2-clause-meaning t c =
    let p = err_from_is_err_and c.from_residual-in_err-take_tick-2.result c.from_residual-in_err-take_tick-2.ensures.1 in rw (p.1, p.2) (λ k. does_from (c.in_ok-extended.ensures.kept c.if-extended.false c.args.world.now) (let h = c.in_err-take_tick-2.ensures.spent k in rw (c.in_err-take_tick-2.ensures.kept, c.in_ok-take_tick.ensures.left, h.1) (unperformed c.in_ok-take_tick.ensures.taken (unassigned (spent (rw c.in_ok-take_tick.ensures.left at h.0))))))

pub extension::put_extended-returns-clause-ok : goal.extension::put_extended-returns-clause-ok
extension::put_extended-returns-clause-ok t c =
    let h = c.in_ok-set_sum.ensures.ok in
    extended (c.in_ok-first.ensures.meaning None c.args.world.now tt) (c.in_ok-last.ensures.meaning tt) h.1 (same_state (sym h.2) refl)

pub extension::put_extended-returns-in_err-first-clause-err : goal.extension::put_extended-returns-in_err-first-clause-err
extension::put_extended-returns-in_err-first-clause-err t c =
    let p = err_from_is_err_and c.from_residual.result c.from_residual.ensures.1 in rw (p.1, p.2) (λ k. operands_end (element_stops (c.in_err-first.ensures.meaning None c.args.world.now k)))

pub extension::put_extended-returns-in_err-last-clause-err : goal.extension::put_extended-returns-in_err-last-clause-err
extension::put_extended-returns-in_err-last-clause-err t c =
    let p = err_from_is_err_and c.from_residual-in_err-last.result c.from_residual-in_err-last.ensures.1 in rw (p.1, p.2) (λ k. operands_end (element_then (c.in_ok-first.ensures.meaning None c.args.world.now tt) (element_stops (c.in_err-last.ensures.meaning k)) refl))

pub extension::put_extended-returns-in_err-set_sum-clause-err : goal.extension::put_extended-returns-in_err-set_sum-clause-err
extension::put_extended-returns-in_err-set_sum-clause-err t c =
    let p = err_from_is_err_and c.from_residual-in_err-set_sum.result c.from_residual-in_err-set_sum.ensures.1 in
    rw (p.1, p.2) (λ k. subst (λ s. Computes Faults (context_of c.args.stack.now None) (binary Add (variable c.args.name.now) (source c.args.last.now)) (state_of c.args.task.now c.args.world.now c.args.active.now) (Err (failure_of c.in_err-set_sum.field-0.0)) s) (same_state (sym (c.in_err-set_sum.ensures.kept k)) refl) (unextended (c.in_ok-first.ensures.meaning None c.args.world.now tt) (c.in_ok-last.ensures.meaning tt) (c.in_err-set_sum.ensures.err k)))

pub statement::perform-returns-in-Extend-clause-meaning : goal.statement::perform-returns-in-Extend-clause-meaning
statement::perform-returns-in-Extend-clause-meaning t c =
    λ k. rw (c.in-Extend.is, ← c.deref-in-Extend.ensures) (c.extend_value.ensures.meaning k)

pub update::update-returns-clause-meaning : goal.update::update-returns-clause-meaning
update::update-returns-clause-meaning t c =
    λ k. c.end_assignment.ensures _ _ _ c.in_ok-take_tick.ensures.taken (rw c.in_ok-take_tick.ensures.left at c.in_ok-take_tick-2.ensures.taken) (rw (c.in_ok-take_tick-2.ensures.left, c.in_ok-take_tick.ensures.left) at c.put_updated-set.ensures.ok) (rw (c.in_ok-take_tick-2.ensures.left, c.in_ok-take_tick.ensures.left) at c.put_updated-set.ensures.err) k

pub update::update-returns-in_err-take_tick-clause-meaning : goal.update::update-returns-in_err-take_tick-clause-meaning
update::update-returns-in_err-take_tick-clause-meaning t c =
    let p = err_from_is_err_and c.from_residual.result c.from_residual.ensures.1 in rw (p.1, p.2) (λ k. let h = c.in_err-take_tick.ensures.spent k in rw (c.in_err-take_tick.ensures.kept, h.1) (evaluates (spent h.0) refl))

pub update::update-returns-in_err-take_tick-2-clause-meaning : goal.update::update-returns-in_err-take_tick-2-clause-meaning
update::update-returns-in_err-take_tick-2-clause-meaning t c =
    let p = err_from_is_err_and c.from_residual-in_err-take_tick-2.result c.from_residual-in_err-take_tick-2.ensures.1 in rw (p.1, p.2) (λ k. let h = c.in_err-take_tick-2.ensures.spent k in rw (c.in_err-take_tick-2.ensures.kept, c.in_ok-take_tick.ensures.left, h.1) (unperformed c.in_ok-take_tick.ensures.taken (unassigned (spent (rw c.in_ok-take_tick.ensures.left at h.0)))))

pub element::set_element-returns-clause-meaning : goal.element::set_element-returns-clause-meaning
element::set_element-returns-clause-meaning t c =
    λ k. c.end_statement.ensures _ _ _ c.in_ok-take_tick.ensures.taken (on_ok_weaker c.put_at-done.result (λ h. (_, h.computes)) (rw c.in_ok-take_tick.ensures.left at c.put_at-done.ensures.ok)) (rw c.in_ok-take_tick.ensures.left at c.put_at-done.ensures.err) k

pub element::set_element-returns-in_err-take_tick-clause-meaning : goal.element::set_element-returns-in_err-take_tick-clause-meaning
element::set_element-returns-in_err-take_tick-clause-meaning t c =
    let p = err_from_is_err_and c.from_residual.result c.from_residual.ensures.1 in rw (p.1, p.2) (λ k. let h = c.in_err-take_tick.ensures.spent k in rw (c.in_err-take_tick.ensures.kept, h.1) (evaluates (spent h.0) refl))

pub element::put_at-returns-in_err-container-clause-err : goal.element::put_at-returns-in_err-container-clause-err
element::put_at-returns-in_err-container-clause-err t c =
    let p = err_from_is_err_and c.from_residual.result c.from_residual.ensures.1 in rw (p.1, p.2) (λ k. unheld (c.in_err-container.ensures.value k))

pub element::put_at-returns-in_err-place-clause-err : goal.element::put_at-returns-in_err-place-clause-err
element::put_at-returns-in_err-place-clause-err t c =
    let p = err_from_is_err_and c.from_residual-in_err-place.result c.from_residual-in_err-place.ensures.1 in rw (p.1, p.2) (λ k. place_ends (c.in_ok-container.ensures.value tt) (c.in_err-place.ensures.meaning k))

pub statement::drop_value-returns-then-is_put-clause-meaning : goal.statement::drop_value-returns-then-is_put-clause-meaning
statement::drop_value-returns-then-is_put-clause-meaning t c =
    λ k. c.in_ok-is_put.ensures.put c.if-is_put.true c.args.world.now (context_of c.args.stack.now None)

pub statement::drop_value-returns-clause-meaning : goal.statement::drop_value-returns-clause-meaning
statement::drop_value-returns-clause-meaning t c =
    λ k. does_from (c.in_ok-is_put.ensures.kept c.if-is_put.false c.args.world.now) (evaluates (c.in_ok-_value.ensures.meaning tt) refl)

pub statement::drop_value-returns-in_err-_value-clause-meaning : goal.statement::drop_value-returns-in_err-_value-clause-meaning
statement::drop_value-returns-in_err-_value-clause-meaning t c =
    let p = err_from_is_err_and c.from_residual-in_err-_value.result c.from_residual-in_err-_value.ensures.1 in
    rw (p.1, p.2) (λ k. does_from (c.in_ok-is_put.ensures.kept c.if-is_put.false c.args.world.now) (evaluates (c.in_err-_value.ensures.meaning k) refl))

pub calls::proceed-returns-in-Answer-clause-meaning : goal.calls::proceed-returns-in-Answer-clause-meaning
calls::proceed-returns-in-Answer-clause-meaning t c =
    λ k. c.verbs.invariant.rest _ _ (rw c.in-Answer.is is_done)

pub calls::proceed-returns-in_err-answer-clause-meaning : goal.calls::proceed-returns-in_err-answer-clause-meaning
calls::proceed-returns-in_err-answer-clause-meaning t c =
    let p = err_from_is_err_and c.from_residual-in_err-answer.result c.from_residual-in_err-answer.ensures.1 in rw (p.1, p.2) (λ k. let h = rw c.into_inner.ensures at (c.in_err-answer.ensures.meaning c.args.active.now k) in c.verbs.invariant.rest _ _ (rw c.in-Verb.is (hook_stops h.runs h.leaves h.gives)))

pub calls::proceed-returns-in_err-pending-2-clause-meaning : goal.calls::proceed-returns-in_err-pending-2-clause-meaning
calls::proceed-returns-in_err-pending-2-clause-meaning t c =
    let p = err_from_is_err_and c.from_residual-in_err-pending-2.result c.from_residual-in_err-pending-2.ensures.1 in rw (p.1, p.2) (λ k. let h = rw c.into_inner.ensures at (c.in_ok-answer.ensures.meaning c.args.active.now tt) in c.verbs.invariant.rest _ _ (rw c.in-Verb.is (hook_then h.runs h.leaves h.gives refl (c.in_err-pending-2.ensures.meaning k _ _ is_done))))

pub calls::proceed-verbs-smaller : goal.calls::proceed-verbs-smaller
calls::proceed-verbs-smaller t c =
    let some = rw c.in-Verb.is at c.verbs.invariant.statements in
    let fewer = c.in_ok-answer.ensures.fewer (rw c.into_inner.ensures some) in
    omega (arith, fewer, c.in_ok-pending-2.ensures.ticks)

pub calls::proceed-verbs-preserved : goal.calls::proceed-verbs-preserved
calls::proceed-verbs-preserved t c =
    record { ticks = omega (arith, c.in_ok-pending-2.ensures.ticks); statements = c.in_ok-pending-2.ensures.statements; rest = λ r u d. let h = rw c.into_inner.ensures at (c.in_ok-answer.ensures.meaning c.args.active.now tt) in c.verbs.invariant.rest r u (rw c.in-Verb.is (hook_then h.runs h.leaves h.gives refl (c.in_ok-pending-2.ensures.meaning tt r u d))) }

pub operators::list-returns-clause-meaning : goal.operators::list-returns-clause-meaning
operators::list-returns-clause-meaning t c =
    λ k. applies (c.in_ok-values.ensures.meaning tt) no_more (list_is (c.listed.ensures k))

pub scattering::scatter-returns-in_err-defaults-clause-meaning : goal.scattering::scatter-returns-in_err-defaults-clause-meaning
scattering::scatter-returns-in_err-defaults-clause-meaning t c =
    let p = err_from_is_err_and c.from_residual.result c.from_residual.ensures.1 in rw (p.1, p.2) (λ k. c.in_err-defaults.ensures.err k _ _)

pub scattering::scatter-returns-clause-meaning : goal.scattering::scatter-returns-clause-meaning
scattering::scatter-returns-clause-meaning t c =
    λ k. c.in_ok-defaults.ensures.ok _ _ _ _ (rw c.deref.ensures.value at (c.set_defaults.ensures.meaning k))

pub assignment::store-returns-in-Variable-clause-meaning : goal.assignment::store-returns-in-Variable-clause-meaning
assignment::store-returns-in-Variable-clause-meaning t c =
    λ k. rw c.in-Variable.is (rw c.in_ok-value.ensures.value at (c.store_variable.ensures (context_of c.args.stack.now c.args.indexed) c.args.world.now k))

pub calls::call_evaluated-returns-in_err-base-clause-meaning : goal.calls::call_evaluated-returns-in_err-base-clause-meaning
calls::call_evaluated-returns-in_err-base-clause-meaning t c =
    let p = err_from_is_err_and c.from_residual.result c.from_residual.ensures.1 in rw (p.1, p.2) (λ k. operands_end (element_stops (c.in_err-base.ensures.meaning k)))

pub calls::call_computed-returns-in_err-base-clause-meaning : goal.calls::call_computed-returns-in_err-base-clause-meaning
calls::call_computed-returns-in_err-base-clause-meaning t c =
    let p = err_from_is_err_and c.from_residual.result c.from_residual.ensures.1 in rw (p.1, p.2) (λ k. operands_end (element_stops (c.in_err-base.ensures.meaning k)))

pub calls::call_computed-returns-in_err-name-clause-meaning : goal.calls::call_computed-returns-in_err-name-clause-meaning
calls::call_computed-returns-in_err-name-clause-meaning t c =
    let p = err_from_is_err_and c.from_residual-in_err-name.result c.from_residual-in_err-name.ensures.1 in rw (p.1, p.2) (λ k. operands_end (element_then (c.in_ok-base.ensures.meaning tt) (element_stops (c.in_err-name.ensures.meaning k)) refl))

pub calls::call_evaluated-returns-in_err-take_tick-clause-meaning : goal.calls::call_evaluated-returns-in_err-take_tick-clause-meaning
calls::call_evaluated-returns-in_err-take_tick-clause-meaning t c =
    let p = err_from_is_err_and c.from_residual-in_err-take_tick.result c.from_residual-in_err-take_tick.ensures.1 in rw (p.1, p.2) (λ k. let h = c.in_err-take_tick.ensures.spent k in rw (c.in_err-take_tick.ensures.kept, h.1) (operands_end (element_then (c.in_ok-base.ensures.meaning tt) (element_stops (spent h.0)) refl)))

pub calls::call_evaluated-returns-clause-meaning : goal.calls::call_evaluated-returns-clause-meaning
calls::call_evaluated-returns-clause-meaning t c =
    λ k. (applies (element_then (c.in_ok-base.ensures.meaning tt) (element_then (literal_read c.in_ok-take_tick.ensures.taken) (rw c.in_ok-take_tick.ensures.left at (c.in_ok-evaluate_arguments.ensures.meaning tt)) refl) refl) no_more (c.call_written.ensures.meaning c.args.indexed _ _ _ k))

pub calls::call_computed-returns-clause-meaning : goal.calls::call_computed-returns-clause-meaning
calls::call_computed-returns-clause-meaning t c =
    λ k. applies (element_then (c.in_ok-base.ensures.meaning tt) (element_then (c.in_ok-name.ensures.meaning tt) (c.in_ok-evaluate_arguments.ensures.meaning tt) refl) refl) no_more (c.call_verb.ensures.meaning c.args.indexed (source c.args.base.now) (source c.args.name.now) (source_items c.args.items.now) k)

pub calls::run_called-returns-clause-meaning : goal.calls::run_called-returns-clause-meaning
calls::run_called-returns-clause-meaning t c =
    let f : SFits w32 c.args.called.stack.running.programmer = search rules in
    λ caller k. record { outcome = _; last = _; runs = runs_from (same_state c.in_ok-begun.ensures (to_z-of_z w32 c.args.called.stack.running.programmer f)) c.code-statements.ensures (c.run_block-outcome.ensures.meaning (c.answered.ensures.known k)); leaves = refl; gives = c.answered.ensures.answer }

pub calls::run_called-returns-clause-fewer : goal.calls::run_called-returns-clause-fewer
calls::run_called-returns-clause-fewer t c =
    λ begins. comes_on _ c.answered.result c.run_block-outcome.result c.answered.ensures.comes (on_ok_weaker c.run_block-outcome.result (λ h. h (λ e. begins (sym c.code-statements.ensures ∙ e))) c.run_block-outcome.ensures.fewer)

pub statement::perform-returns-in-Set-clause-meaning : goal.statement::perform-returns-in-Set-clause-meaning
statement::perform-returns-in-Set-clause-meaning t c =
    λ k. rw (c.in-Set.is, ← c.deref-in-Set.ensures) (c.assign_value.ensures.meaning k)

pub statement::perform-returns-in-Lengthen-clause-meaning : goal.statement::perform-returns-in-Lengthen-clause-meaning
statement::perform-returns-in-Lengthen-clause-meaning t c =
    λ k. rw (c.in-Lengthen.is, ← c.deref-in-Lengthen.ensures) (c.lengthen.ensures.meaning k)

pub statement::perform-returns-in-Put-clause-meaning : goal.statement::perform-returns-in-Put-clause-meaning
statement::perform-returns-in-Put-clause-meaning t c =
    λ k. rw (c.in-Put.is, ← c.deref-in-Put.ensures, ← c.deref-in-Put-2.ensures) (c.set_element.ensures.meaning k)

pub property::set_property-returns-in_err-take_tick-clause-meaning : goal.property::set_property-returns-in_err-take_tick-clause-meaning
property::set_property-returns-in_err-take_tick-clause-meaning t c =
    let p = err_from_is_err_and c.from_residual.result c.from_residual.ensures.1 in rw (p.1, p.2) (λ k. let h = c.in_err-take_tick.ensures.spent k in rw (c.in_err-take_tick.ensures.kept, h.1) (evaluates (spent h.0) refl))

pub property::set_property-returns-clause-meaning : goal.property::set_property-returns-clause-meaning
property::set_property-returns-clause-meaning t c =
    λ k. c.end_statement.ensures _ _ _ c.in_ok-take_tick.ensures.taken (rw c.in_ok-take_tick.ensures.left at c.put_property-done.ensures.ok) (rw c.in_ok-take_tick.ensures.left at c.put_property-done.ensures.err) k

pub scattering::scatter_alone-returns-in_err-take_tick-clause-meaning : goal.scattering::scatter_alone-returns-in_err-take_tick-clause-meaning
scattering::scatter_alone-returns-in_err-take_tick-clause-meaning t c =
    let p = err_from_is_err_and c.from_residual.result c.from_residual.ensures.1 in rw (p.1, p.2) (λ k. let h = c.in_err-take_tick.ensures.spent k in rw (c.in_err-take_tick.ensures.kept, h.1) (evaluates (spent h.0) refl))

pub property::written_property-returns-in_err-take_tick-clause-meaning : goal.property::written_property-returns-in_err-take_tick-clause-meaning
property::written_property-returns-in_err-take_tick-clause-meaning t c =
    let p = err_from_is_err_and c.from_residual-in_err-take_tick.result c.from_residual-in_err-take_tick.ensures.1 in rw (p.1, p.2) (λ k. let h = c.in_err-take_tick.ensures.spent k in rw (c.in_err-take_tick.ensures.kept, h.1) (operands_end (element_then (c.in_ok-base.ensures.meaning tt) (element_stops (spent h.0)) refl)))

pub property::written_property-returns-clause-meaning : goal.property::written_property-returns-clause-meaning
property::written_property-returns-clause-meaning t c =
    λ k. rw (c.in_ok-take_tick.ensures.left) (applies (element_then (c.in_ok-base.ensures.meaning tt) (element_then (literal_read c.in_ok-take_tick.ensures.taken) no_more refl) refl) no_more (let f : SFits w32 c.evaluate.new.active.programmer = search rules in property_is (rw (to_z-of_z w32 c.evaluate.new.active.programmer f) at (c.read_written.ensures.value k))))

pub property::put_property-returns-in_err-base-clause-err : goal.property::put_property-returns-in_err-base-clause-err
property::put_property-returns-in_err-base-clause-err t c =
    let p = err_from_is_err_and c.from_residual.result c.from_residual.ensures.1 in rw (p.1, p.2) (λ k. property.object_stops (c.in_err-base.ensures.meaning k))

pub property::put_property-returns-in_err-take_tick-clause-err : goal.property::put_property-returns-in_err-take_tick-clause-err
property::put_property-returns-in_err-take_tick-clause-err t c =
    let p = err_from_is_err_and c.from_residual-in_err-take_tick.result c.from_residual-in_err-take_tick.ensures.1 in rw (p.1, p.2) (λ k. let h = c.in_err-take_tick.ensures.spent k in rw (c.in-Some.ensures, c.in_err-take_tick.ensures.kept, h.1) (property.name_stops (c.in_ok-base.ensures.meaning tt) (spent h.0)))

pub property::put_property-returns-in_err-value-clause-err : goal.property::put_property-returns-in_err-value-clause-err
property::put_property-returns-in_err-value-clause-err t c =
    let p = err_from_is_err_and c.from_residual-in_err-value.result c.from_residual-in_err-value.ensures.1 in rw (p.1, p.2) (λ k. rw c.in-Some.ensures (property.value_stops_put (c.in_ok-base.ensures.meaning tt) (literal_read c.in_ok-take_tick.ensures.taken) (rw c.in_ok-take_tick.ensures.left at (c.in_err-value.ensures.err k))))

pub property::put_property-returns-in_err-name-clause-err : goal.property::put_property-returns-in_err-name-clause-err
property::put_property-returns-in_err-name-clause-err t c =
    let p = err_from_is_err_and c.from_residual-in_err-name.result c.from_residual-in_err-name.ensures.1 in rw (p.1, p.2) (λ k. property.name_stops (c.in_ok-base.ensures.meaning tt) (c.in_err-name.ensures.meaning k))

pub scattering::scatter_alone-returns-in_err-value-clause-meaning : goal.scattering::scatter_alone-returns-in_err-value-clause-meaning
scattering::scatter_alone-returns-in_err-value-clause-meaning t c =
    let p = err_from_is_err_and c.from_residual-in_err-value.result c.from_residual-in_err-value.ensures.1 in rw (p.1, p.2) (λ k. unperformed c.in_ok-take_tick.ensures.taken (property.undealt (rw c.in_ok-take_tick.ensures.left at (c.in_err-value.ensures.meaning k))))

pub scattering::scatter_alone-returns-in-Ok-clause-meaning : goal.scattering::scatter_alone-returns-in-Ok-clause-meaning
scattering::scatter_alone-returns-in-Ok-clause-meaning t c =
    λ k. performed c.in_ok-take_tick.ensures.taken (property.dealt (rw c.in_ok-take_tick.ensures.left at (c.in_ok-value.ensures.meaning tt)) (rw c.in-Ok.is at (c.scatter.ensures.meaning (rw c.in-Ok.is tt))) refl)

pub scattering::scatter_alone-returns-in_err-_error-in-Err-clause-meaning : goal.scattering::scatter_alone-returns-in_err-_error-in-Err-clause-meaning
scattering::scatter_alone-returns-in_err-_error-in-Err-clause-meaning t c =
    let p = err_from_is_err_and c.from_residual-in_err-_error-in-Err.result c.from_residual-in_err-_error-in-Err.ensures.1 in rw (p.1, p.2) (λ k. stopped c.in_ok-take_tick.ensures.taken (property.dealt (rw c.in_ok-take_tick.ensures.left at (c.in_ok-value.ensures.meaning tt)) (rw c.in-Err.is at (c.scatter.ensures.meaning (rw c.in-Err.is (c.in_err-_error-in-Err.ensures.known k)))) refl) (c.in_err-_error-in-Err.ensures.outcome k))

pub scattering::scatter_alone-returns-clause-meaning : goal.scattering::scatter_alone-returns-clause-meaning
scattering::scatter_alone-returns-clause-meaning t c =
    λ k. passed_over c.in_ok-take_tick.ensures.taken (property.dealt (rw c.in_ok-take_tick.ensures.left at (c.in_ok-value.ensures.meaning tt)) (rw c.in-Err.is at (c.scatter.ensures.meaning (rw c.in-Err.is (c.in_ok-_error-in-Err.ensures.known tt)))) refl) (c.in_ok-_error-in-Err.ensures.outcome tt)

pub statement::perform-returns-in-ScatterNames-clause-meaning : goal.statement::perform-returns-in-ScatterNames-clause-meaning
statement::perform-returns-in-ScatterNames-clause-meaning t c =
    λ k. rw (c.in-ScatterNames.is, ← c.deref-in-ScatterNames.ensures.value, ← c.deref-in-ScatterNames-2.ensures) (c.scatter_names.ensures.meaning k)

pub statement::perform-returns-in-Scatter-clause-meaning : goal.statement::perform-returns-in-Scatter-clause-meaning
statement::perform-returns-in-Scatter-clause-meaning t c =
    λ k. rw (c.in-Scatter.is, ← c.deref-in-Scatter.ensures.value, ← c.deref-in-Scatter-2.ensures) (c.scatter_alone.ensures.meaning k)

pub nodes::evaluate_parts-returns-in-Ok-clause-meaning : goal.nodes::evaluate_parts-returns-in-Ok-clause-meaning
nodes::evaluate_parts-returns-in-Ok-clause-meaning t c =
    λ k. begins c.in_ok-take_tick.ensures.taken (rw (c.in_ok-take_tick.ensures.left, c.in-Ok.is) at (c.compute.ensures.meaning (rw c.in-Ok.is tt))) refl

pub nodes::evaluate_parts-returns-in-Err-clause-meaning : goal.nodes::evaluate_parts-returns-in-Err-clause-meaning
nodes::evaluate_parts-returns-in-Err-clause-meaning t c =
    λ k. begins c.in_ok-take_tick.ensures.taken (rw (c.in_ok-take_tick.ensures.left, c.in-Err.is) at (c.compute.ensures.meaning (rw c.in-Err.is (c.settled.ensures.known k)))) (c.settled.ensures.outcome k)

pub nodes::evaluate_parts-returns-in_err-take_tick-clause-meaning : goal.nodes::evaluate_parts-returns-in_err-take_tick-clause-meaning
nodes::evaluate_parts-returns-in_err-take_tick-clause-meaning t c =
    let p = err_from_is_err_and c.from_residual.result c.from_residual.ensures.1 in rw (p.1, p.2) (λ k. let h = c.in_err-take_tick.ensures.spent k in rw (c.in_err-take_tick.ensures.kept, h.1) (spent h.0))

pub nodes::compute-returns-in-Integer-clause-meaning : goal.nodes::compute-returns-in-Integer-clause-meaning
nodes::compute-returns-in-Integer-clause-meaning t c =
    let fits : SFits w32 c.in-Integer.number = search rules in
    λ k. rw (c.in-Integer.is, to_z-of_z w32 c.in-Integer.number fits) (applies no_more no_more literal_is)

pub nodes::compute-returns-in-Object-clause-meaning : goal.nodes::compute-returns-in-Object-clause-meaning
nodes::compute-returns-in-Object-clause-meaning t c =
    let fits : SFits w32 c.in-Object.number = search rules in
    λ k. rw (c.in-Object.is, to_z-of_z w32 c.in-Object.number fits) (applies no_more no_more literal_is)

pub nodes::compute-returns-in-Error-clause-meaning : goal.nodes::compute-returns-in-Error-clause-meaning
nodes::compute-returns-in-Error-clause-meaning t c = λ k. rw c.in-Error.is (applies no_more no_more literal_is)

pub nodes::compute-returns-in-Str-clause-meaning : goal.nodes::compute-returns-in-Str-clause-meaning
nodes::compute-returns-in-Str-clause-meaning t c =
    λ k. rw (c.in-Str.is, ← c.copied_text.ensures k) (applies no_more no_more literal_is)

pub nodes::compute-returns-in-Variable-clause-meaning : goal.nodes::compute-returns-in-Variable-clause-meaning
nodes::compute-returns-in-Variable-clause-meaning t c =
    λ k. rw c.in-Variable.is (applies no_more no_more (variable_is (c.read_variable.ensures.value k)))

pub nodes::compute-returns-in-Length-clause-meaning : goal.nodes::compute-returns-in-Length-clause-meaning
nodes::compute-returns-in-Length-clause-meaning t c =
    λ k. rw c.in-Length.is (applies no_more no_more (length_is c.measure.ensures))

pub nodes::compute-returns-in-List-clause-meaning : goal.nodes::compute-returns-in-List-clause-meaning
nodes::compute-returns-in-List-clause-meaning t c =
    λ k. rw (c.in-List.is, row_items, ← c.deref-in-List.ensures.value) (c.list.ensures.meaning k)

pub nodes::compute-returns-in-Constant-clause-meaning : goal.nodes::compute-returns-in-Constant-clause-meaning
nodes::compute-returns-in-Constant-clause-meaning t c =
    λ k. rw c.in-Constant.is (c.constant.ensures.meaning c.args.indexed c.args.world.now k)

pub nodes::compute-returns-in-VerbCall-clause-meaning : goal.nodes::compute-returns-in-VerbCall-clause-meaning
nodes::compute-returns-in-VerbCall-clause-meaning t c =
    λ k. rw (c.in-VerbCall.is, row_items, ← c.deref-in-VerbCall.ensures, ← c.deref-in-VerbCall-2.ensures, ← c.deref-in-VerbCall-3.ensures, ← c.deref-in-VerbCall-4.ensures.value) (c.verb_call.ensures.meaning k)

pub nodes::compute-returns-in-Call-clause-meaning : goal.nodes::compute-returns-in-Call-clause-meaning
nodes::compute-returns-in-Call-clause-meaning t c =
    λ k. rw (c.in-Call.is, row_items, ← c.deref-in-Call.ensures.value) (c.call.ensures.meaning k)

pub catching::attempt-returns-in-Some-clause-meaning : goal.catching::attempt-returns-in-Some-clause-meaning
catching::attempt-returns-in-Some-clause-meaning t c =
    λ k. record { outcome = _; evaluates = c.in-Some.ensures.some c.args.world.now (context_of c.args.stack.now c.args.indexed); seen = (refl, refl) }

pub catching::attempt-returns-in-Ok-clause-meaning : goal.catching::attempt-returns-in-Ok-clause-meaning
catching::attempt-returns-in-Ok-clause-meaning t c =
    λ k. rw (← c.in_default.ensures.none) (record { outcome = _; evaluates = begins c.in_ok-take_tick.ensures.taken (rw (c.in_ok-take_tick.ensures.left, c.in-Ok.is) at (c.compute.ensures.meaning (rw c.in-Ok.is tt))) refl; seen = (refl, refl) })

pub catching::attempt-returns-in-Err-clause-meaning : goal.catching::attempt-returns-in-Err-clause-meaning
catching::attempt-returns-in-Err-clause-meaning t c =
    λ k. rw (← c.in_default.ensures.none) (record { outcome = _; evaluates = begins c.in_ok-take_tick.ensures.taken (rw (c.in_ok-take_tick.ensures.left, c.in-Err.is) at (c.compute.ensures.meaning (rw c.in-Err.is (c.settle_attempt.ensures.known k)))) refl; seen = c.settle_attempt.ensures.seen k })

pub catching::attempt-returns-in_err-take_tick-clause-meaning : goal.catching::attempt-returns-in_err-take_tick-clause-meaning
catching::attempt-returns-in_err-take_tick-clause-meaning t c =
    let p = err_from_is_err_and c.from_residual.result c.from_residual.ensures.1 in rw (p.1, p.2) (λ k. let h = c.in_err-take_tick.ensures.spent k in rw (c.in_err-take_tick.ensures.kept, ← c.in_default.ensures.none) (attempt_spent h.1 h.0))

pub property_element::set_property_element-returns-in_err-take_tick-clause-meaning : goal.property_element::set_property_element-returns-in_err-take_tick-clause-meaning
property_element::set_property_element-returns-in_err-take_tick-clause-meaning t c =
    let p = err_from_is_err_and c.from_residual.result c.from_residual.ensures.1 in rw (p.1, p.2) (λ k. let h = c.in_err-take_tick.ensures.spent k in rw (c.in_err-take_tick.ensures.kept, h.1) (evaluates (spent h.0) refl))

pub property_element::set_property_element-returns-clause-meaning : goal.property_element::set_property_element-returns-clause-meaning
property_element::set_property_element-returns-clause-meaning t c =
    λ k. c.end_statement.ensures _ _ _ c.in_ok-take_tick.ensures.taken (rw c.in_ok-take_tick.ensures.left at c.put_property_element-done.ensures.ok) (rw c.in_ok-take_tick.ensures.left at c.put_property_element-done.ensures.err) k

pub property_element::put_property_element-returns-in_err-base-clause-err : goal.property_element::put_property_element-returns-in_err-base-clause-err
property_element::put_property_element-returns-in_err-base-clause-err t c =
    let p = err_from_is_err_and c.from_residual.result c.from_residual.ensures.1 in rw (p.1, p.2) (λ k. object_stops_part (c.in_err-base.ensures.meaning k))

pub property_element::put_property_element-returns-in_err-take_tick-clause-err : goal.property_element::put_property_element-returns-in_err-take_tick-clause-err
property_element::put_property_element-returns-in_err-take_tick-clause-err t c =
    let p = err_from_is_err_and c.from_residual-in_err-take_tick.result c.from_residual-in_err-take_tick.ensures.1 in rw (p.1, p.2) (λ k. let h = c.in_err-take_tick.ensures.spent k in rw (c.in_err-take_tick.ensures.kept, h.1) (name_stops_part (c.in_ok-base.ensures.meaning tt) (spent h.0)))

pub property_element::put_property_element-returns-in_err-container-clause-err : goal.property_element::put_property_element-returns-in_err-container-clause-err
property_element::put_property_element-returns-in_err-container-clause-err t c =
    let p = err_from_is_err_and c.from_residual-in_err-container.result c.from_residual-in_err-container.ensures.1 in rw (p.1, p.2) (λ k. let f : SFits w32 c.evaluate.new.active.programmer = search rules in rw c.in_ok-take_tick.ensures.left (unread_part (c.in_ok-base.ensures.meaning tt) (literal_read c.in_ok-take_tick.ensures.taken) (rw (to_z-of_z w32 c.evaluate.new.active.programmer f) at (c.in_err-container.ensures.value k))))

pub property_element::put_property_element-returns-in_err-place-clause-err : goal.property_element::put_property_element-returns-in_err-place-clause-err
property_element::put_property_element-returns-in_err-place-clause-err t c =
    let p = err_from_is_err_and c.from_residual-in_err-place.result c.from_residual-in_err-place.ensures.1 in rw (p.1, p.2) (λ k. let f : SFits w32 c.evaluate.new.active.programmer = search rules in place_stops_part (c.in_ok-base.ensures.meaning tt) (literal_read c.in_ok-take_tick.ensures.taken) (rw (to_z-of_z w32 c.evaluate.new.active.programmer f) at (c.in_ok-container.ensures.value tt)) (rw c.in_ok-take_tick.ensures.left at (c.in_err-place.ensures.meaning k)))

pub extension::extend_value-returns-then-extended-clause-meaning : goal.extension::extend_value-returns-then-extended-clause-meaning
extension::extend_value-returns-then-extended-clause-meaning t c =
    λ k. c.in_ok-extended.ensures.extended c.if-extended.true c.args.world.now (context_of c.args.stack.now None)

pub lengthening::lengthen-returns-then-lengthened-clause-meaning : goal.lengthening::lengthen-returns-then-lengthened-clause-meaning
lengthening::lengthen-returns-then-lengthened-clause-meaning t c =
    λ k. c.in_ok-lengthened.ensures.lengthened c.if-lengthened.true c.args.world.now (context_of c.args.stack.now None)

pub scattering::scatter_names-returns-then-scattered-clause-meaning : goal.scattering::scatter_names-returns-then-scattered-clause-meaning
scattering::scatter_names-returns-then-scattered-clause-meaning t c =
    λ k. c.in_ok-scattered.ensures.set c.if-scattered.true c.args.world.now (context_of c.args.stack.now None)

pub scattering::scatter_names-returns-in_err-take_tick-clause-meaning : goal.scattering::scatter_names-returns-in_err-take_tick-clause-meaning
scattering::scatter_names-returns-in_err-take_tick-clause-meaning t c =
    let p = err_from_is_err_and c.from_residual-in_err-take_tick.result c.from_residual-in_err-take_tick.ensures.1 in
    rw (p.1, p.2) (λ k. does_from (c.in_ok-scattered.ensures.kept c.if-scattered.false c.args.world.now) (let h = c.in_err-take_tick.ensures.spent k in rw (c.in_err-take_tick.ensures.kept, h.1) (evaluates (spent h.0) refl)))

pub scattering::scatter_names-returns-in_err-value-clause-meaning : goal.scattering::scatter_names-returns-in_err-value-clause-meaning
scattering::scatter_names-returns-in_err-value-clause-meaning t c =
    let p = err_from_is_err_and c.from_residual-in_err-value.result c.from_residual-in_err-value.ensures.1 in
    rw (p.1, p.2) (λ k. does_from (c.in_ok-scattered.ensures.kept c.if-scattered.false c.args.world.now) (unperformed c.in_ok-take_tick.ensures.taken (property.undealt (rw c.in_ok-take_tick.ensures.left at (c.in_err-value.ensures.meaning k)))))

pub scattering::scatter_names-returns-in-Ok-clause-meaning : goal.scattering::scatter_names-returns-in-Ok-clause-meaning
scattering::scatter_names-returns-in-Ok-clause-meaning t c =
    let h = c.in-Ok.ensures.ok in
    λ k. does_from (c.in_ok-scattered.ensures.kept c.if-scattered.false c.args.world.now) (performed c.in_ok-take_tick.ensures.taken (property.dealt (rw c.in_ok-take_tick.ensures.left at (c.in_ok-value.ensures.meaning tt)) (property.names_set c.args.names.now h.1 (same_state (sym h.2) (sym c.in-Ok.ensures.programmer))) refl))

pub scattering::scatter_names-returns-in_err-_error-in-Err-clause-meaning : goal.scattering::scatter_names-returns-in_err-_error-in-Err-clause-meaning
scattering::scatter_names-returns-in_err-_error-in-Err-clause-meaning t c =
    let p = err_from_is_err_and c.from_residual-in_err-_error-in-Err.result c.from_residual-in_err-_error-in-Err.ensures.1 in
    rw (p.1, p.2) (λ k. let h = c.in-Err.ensures.err (c.in_err-_error-in-Err.ensures.known k) in does_from (c.in_ok-scattered.ensures.kept c.if-scattered.false c.args.world.now) (stopped c.in_ok-take_tick.ensures.taken (property.dealt (rw c.in_ok-take_tick.ensures.left at (c.in_ok-value.ensures.meaning tt)) (property.names_kept h.1 h.2 (ap (λ (a : Activation). state_of c.evaluate.new.task c.evaluate.new.world a) h.3)) refl) (c.in_err-_error-in-Err.ensures.outcome k)))

pub scattering::scatter_names-returns-clause-meaning : goal.scattering::scatter_names-returns-clause-meaning
scattering::scatter_names-returns-clause-meaning t c =
    let h = c.in-Err.ensures.err (c.in_ok-_error-in-Err.ensures.known tt) in
    λ k. does_from (c.in_ok-scattered.ensures.kept c.if-scattered.false c.args.world.now) (passed_over c.in_ok-take_tick.ensures.taken (property.dealt (rw c.in_ok-take_tick.ensures.left at (c.in_ok-value.ensures.meaning tt)) (property.names_kept h.1 h.2 (ap (λ (a : Activation). state_of c.evaluate.new.task c.evaluate.new.world a) h.3)) refl) (c.in_ok-_error-in-Err.ensures.outcome tt))

pub trying::run_with_handler-returns-in_err-values-clause-meaning : goal.trying::run_with_handler-returns-in_err-values-clause-meaning
trying::run_with_handler-returns-in_err-values-clause-meaning t c =
    let p = err_from_is_err_and c.from_residual.result c.from_residual.ensures.1 in
    rw (p.1, p.2) (λ k. let h = c.in_err-values.ensures.meaning k in rw (c.handler_parts-parts.ensures no_handler) (unprepared (codes_stop h.1 h.2)))

pub trying::run_with_handler-returns-clause-meaning : goal.trying::run_with_handler-returns-clause-meaning
trying::run_with_handler-returns-clause-meaning t c =
    λ k. let h = c.in_ok-values.ensures.meaning tt in
    rw (c.handler_parts-parts.ensures no_handler) (tries (codes_then h.1 h.2 no_codes refl) (c.run_all-outcome.ensures.meaning (c.end_try.ensures.known k)) (rw (c.from_ref.ensures.value, c.with_values-guarded.ensures) at (c.end_try.ensures.meaning k)))

pub trying::run_with_handlers-returns-clause-meaning : goal.trying::run_with_handlers-returns-clause-meaning
trying::run_with_handlers-returns-clause-meaning t c =
    λ k. tries (c.in_ok-guarded.ensures.meaning tt) (c.run_all-outcome.ensures.meaning (c.end_try.ensures.known k)) (rw c.deref.ensures.value at (c.end_try.ensures.meaning k))

pub trying::end_try-returns-in-Ok-clause-meaning : goal.trying::end_try-returns-in-Ok-clause-meaning
trying::end_try-returns-in-Ok-clause-meaning t c = λ k. rw c.in-Ok.is nothing_raised

pub trying::end_try-returns-in_ok-body-in-Err-Raised-clause-meaning : goal.trying::end_try-returns-in_ok-body-in-Err-Raised-clause-meaning
trying::end_try-returns-in_ok-body-in-Err-Raised-clause-meaning t c =
    λ k. rw (c.in-Err-Raised.is, c.in-Err-Raised.field-0-is) (handles refl (c.in_ok-body-in-Err-Raised.ensures.ok _ _ _ (c.run_all.ensures.meaning k)))

pub trying::end_try-returns-in_err-body-in-Err-Raised-clause-meaning : goal.trying::end_try-returns-in_err-body-in-Err-Raised-clause-meaning
trying::end_try-returns-in_err-body-in-Err-Raised-clause-meaning t c =
    let p = err_from_is_err_and c.from_residual.result c.from_residual.ensures.1 in rw (p.1, p.2) (λ k. rw (c.in-Err-Raised.is, c.in-Err-Raised.field-0-is) (handles refl (c.in_err-body-in-Err-Raised.ensures.err k _)))

pub trying::end_try-returns-in-Err-OutOfTicks-clause-meaning : goal.trying::end_try-returns-in-Err-OutOfTicks-clause-meaning
trying::end_try-returns-in-Err-OutOfTicks-clause-meaning t c = λ k. rw (c.in-Err-OutOfTicks.is, c.in-Err-OutOfTicks.field-0-is) ticks_out

pub calls::call_literal-returns-in-None-clause-meaning : goal.calls::call_literal-returns-in-None-clause-meaning
calls::call_literal-returns-in-None-clause-meaning t c =
    λ k. rw c.in-None.ensures.none at (c.call_evaluated.ensures.meaning k)

pub calls::call_literal-returns-in_err-evaluate_arguments-in-Some-clause-meaning : goal.calls::call_literal-returns-in_err-evaluate_arguments-in-Some-clause-meaning
calls::call_literal-returns-in_err-evaluate_arguments-in-Some-clause-meaning t c =
    let p = err_from_is_err_and c.from_residual.result c.from_residual.ensures.1 in
    let h = c.in-Some.ensures.some in
    rw (p.1, p.2) (λ k. ⊎_elim
    (λ e. operands_end (named (variables_of c.args.active.now.variables) c.args.name.now h.0 refl h.1 (rw h.2 at e)))
    (λ d. applies (named (variables_of c.args.active.now.variables) c.args.name.now h.0 refl h.1 (rw h.2 at d.1)) no_more (verb_fails (unlisted _ _ d.2)))
    (c.in_err-evaluate_arguments-in-Some.ensures.meaning k))

pub calls::call_literal-returns-in_ok-evaluate_arguments-in-Some-clause-meaning : goal.calls::call_literal-returns-in_ok-evaluate_arguments-in-Some-clause-meaning
calls::call_literal-returns-in_ok-evaluate_arguments-in-Some-clause-meaning t c =
    let h = c.in-Some.ensures.some in
    let this : SFits w32 c.in-Some.this = search rules in
    λ k. applies (named (variables_of c.args.active.now.variables) c.args.name.now h.0 refl h.1 (rw h.2 at (c.in_ok-evaluate_arguments-in-Some.ensures.meaning tt))) no_more (rw (to_z-of_z w32 c.in-Some.this this) at (c.call_written.ensures.meaning c.args.indexed (source c.args.base.now) (program.literal (Str c.args.name.now)) (source_items c.args.items.now) k))

pub loops::turn-returns-clause-meaning : goal.loops::turn-returns-clause-meaning
loops::turn-returns-clause-meaning t c =
    λ k. turns c.in_ok-take_tick.ensures.taken (ap (λ x. state_of x c.args.world.now c.args.active.now) (sym c.in_ok-take_tick.ensures.left)) (c.in_ok-flow.ensures.meaning tt) (sym (c.after_turn.ensures ∙ ap (λ x. after_turn x (Ok (flow_of c.in_ok-flow.flow))) c.as_ref.ensures.value))

pub loops::turn-returns-in-Next-clause-meaning : goal.loops::turn-returns-in-Next-clause-meaning
loops::turn-returns-in-Next-clause-meaning t c =
    λ k. turns c.in_ok-take_tick.ensures.taken (ap (λ x. state_of x c.args.world.now c.args.active.now) (sym c.in_ok-take_tick.ensures.left)) (rw c.in-Next.is at (c.in_ok-flow.ensures.meaning tt)) refl

pub loops::turn-returns-in_err-take_tick-clause-meaning : goal.loops::turn-returns-in_err-take_tick-clause-meaning
loops::turn-returns-in_err-take_tick-clause-meaning t c =
    let p = err_from_is_err_and c.from_residual.result c.from_residual.ensures.1 in rw (p.1, p.2) (λ k. let h = c.in_err-take_tick.ensures.spent k in rw (c.in_err-take_tick.ensures.kept, h.1) (turn_spent h.0))

pub loops::turn-returns-in_err-flow-clause-meaning : goal.loops::turn-returns-in_err-flow-clause-meaning
loops::turn-returns-in_err-flow-clause-meaning t c =
    let p = err_from_is_err_and c.from_residual-in_err-flow.result c.from_residual-in_err-flow.ensures.1 in rw (p.1, p.2) (λ k. turns c.in_ok-take_tick.ensures.taken (ap (λ x. state_of x c.args.world.now c.args.active.now) (sym c.in_ok-take_tick.ensures.left)) (c.in_err-flow.ensures.meaning k) refl)

pub loops::visit-returns-clause-meaning : goal.loops::visit-returns-clause-meaning
loops::visit-returns-clause-meaning t c =
    λ k. turns c.in_ok-take_tick.ensures.taken (let left = sym c.in_ok-take_tick.ensures.left in state_at (ap (λ (x : Task). x.ticks_left) left) (ap (λ (x : Task). x.notices.items) left) (sym c.in_ok-set_value.ensures)) (c.in_ok-flow.ensures.meaning tt) (sym (c.after_turn.ensures ∙ ap (λ x. after_turn (Some x) (Ok (flow_of c.in_ok-flow.flow))) c.text.ensures))

pub loops::visit-returns-in-Next-clause-meaning : goal.loops::visit-returns-in-Next-clause-meaning
loops::visit-returns-in-Next-clause-meaning t c =
    λ k. turns c.in_ok-take_tick.ensures.taken (let left = sym c.in_ok-take_tick.ensures.left in state_at (ap (λ (x : Task). x.ticks_left) left) (ap (λ (x : Task). x.notices.items) left) (sym c.in_ok-set_value.ensures)) (rw c.in-Next.is at (c.in_ok-flow.ensures.meaning tt)) refl

pub loops::visit-returns-in_err-take_tick-clause-meaning : goal.loops::visit-returns-in_err-take_tick-clause-meaning
loops::visit-returns-in_err-take_tick-clause-meaning t c =
    let p = err_from_is_err_and c.from_residual.result c.from_residual.ensures.1 in rw (p.1, p.2) (λ k. let h = c.in_err-take_tick.ensures.spent k in rw (c.in_err-take_tick.ensures.kept, h.1) (turn_spent h.0))

pub loops::visit-returns-in_err-flow-clause-meaning : goal.loops::visit-returns-in_err-flow-clause-meaning
loops::visit-returns-in_err-flow-clause-meaning t c =
    let p = err_from_is_err_and c.from_residual-in_err-flow.result c.from_residual-in_err-flow.ensures.1 in rw (p.1, p.2) (λ k. turns c.in_ok-take_tick.ensures.taken (let left = sym c.in_ok-take_tick.ensures.left in state_at (ap (λ (x : Task). x.ticks_left) left) (ap (λ (x : Task). x.notices.items) left) (sym c.in_ok-set_value.ensures)) (c.in_err-flow.ensures.meaning k) refl)

pub loops::repeat-returns-then-not-passes-clause-meaning : goal.loops::repeat-returns-then-not-passes-clause-meaning
loops::repeat-returns-then-not-passes-clause-meaning t c =
    λ k. c.turns.invariant.rest (Ok next) _ (loop_ends c.in_ok-passes.ensures.ok.1 (c.in_ok-passes.ensures.ok.2 ∙ c.if-not-passes.true))

pub loops::repeat-returns-in-Some-clause-meaning : goal.loops::repeat-returns-in-Some-clause-meaning
loops::repeat-returns-in-Some-clause-meaning t c =
    λ k. c.turns.invariant.rest (Ok (flow_of c.in-Some.flow)) _ (loop_left c.in_ok-passes.ensures.ok.1 (c.in_ok-passes.ensures.ok.2 ∙ c.if-not-passes.false) (rw c.in-Some.is at (c.in_ok-flow.ensures.meaning tt)))

pub loops::repeat-returns-in_err-passes-clause-meaning : goal.loops::repeat-returns-in_err-passes-clause-meaning
loops::repeat-returns-in_err-passes-clause-meaning t c =
    let p = err_from_is_err_and c.from_residual.result c.from_residual.ensures.1 in rw (p.1, p.2) (λ k. c.turns.invariant.rest (Err (stop_of c.in_err-passes.field-0.0)) _ (loop_stops (c.in_err-passes.ensures.err k)))

pub loops::repeat-turns-preserved : goal.loops::repeat-turns-preserved
loops::repeat-turns-preserved t c =
    record { ticks = omega arith; rest = λ o s d. c.turns.invariant.rest o s (loop_then c.in_ok-passes.ensures.ok.1 (c.in_ok-passes.ensures.ok.2 ∙ c.if-not-passes.false) (rw (none_left c.in_ok-flow.field-0 c.in_default.not-Some) at (c.in_ok-flow.ensures.meaning tt)) d) }

pub loops::repeat-returns-in_err-flow-clause-meaning : goal.loops::repeat-returns-in_err-flow-clause-meaning
loops::repeat-returns-in_err-flow-clause-meaning t c =
    let p = err_from_is_err_and c.from_residual-in_err-flow.result c.from_residual-in_err-flow.ensures.1 in rw (p.1, p.2) (λ k. c.turns.invariant.rest (Err (stop_of c.in_err-flow.field-0.0)) _ (loop_left c.in_ok-passes.ensures.ok.1 (c.in_ok-passes.ensures.ok.2 ∙ c.if-not-passes.false) (c.in_err-flow.ensures.meaning k)))

pub loops::visit_all-returns-clause-meaning : goal.loops::visit_all-returns-clause-meaning
loops::visit_all-returns-clause-meaning t c =
    λ k. c.loop-value.invariant.rest (Ok next) _ (rw (drop_of_length-le c.args.values.now c.loop-value-test.false) all_visited)

pub loops::visit_all-returns-in-Some-clause-meaning : goal.loops::visit_all-returns-in-Some-clause-meaning
loops::visit_all-returns-in-Some-clause-meaning t c =
    λ k. c.loop-value.invariant.rest (Ok (flow_of c.in-Some.flow)) _ (rw (drop_next c.args.values.now c.loop-value.value-index c.value-item.result c.loop-value-test.true c.value-item.is) (visit_left (rw (c.in-Some.is, c.in_ok-value.ensures.value) at (c.in_ok-flow.ensures.meaning tt))))

pub loops::visit_all-loop-value-preserved : goal.loops::visit_all-loop-value-preserved
loops::visit_all-loop-value-preserved t c =
    record { ticks = omega arith; rest = λ o s d. c.loop-value.invariant.rest o s (rw (drop_next c.args.values.now c.loop-value.value-index c.value-item.result c.loop-value-test.true c.value-item.is) (visit_then (rw ((none_left c.in_ok-flow.field-0 c.in_default.not-Some), c.in_ok-value.ensures.value) at (c.in_ok-flow.ensures.meaning tt)) d)) }

pub loops::visit_all-returns-in_err-flow-clause-meaning : goal.loops::visit_all-returns-in_err-flow-clause-meaning
loops::visit_all-returns-in_err-flow-clause-meaning t c =
    let p = err_from_is_err_and c.from_residual-in_err-flow.result c.from_residual-in_err-flow.ensures.1 in rw (p.1, p.2) (λ k. c.loop-value.invariant.rest (Err (stop_of c.in_err-flow.field-0.0)) _ (rw (drop_next c.args.values.now c.loop-value.value-index c.value-item.result c.loop-value-test.true c.value-item.is) (visit_left (rw c.in_ok-value.ensures.value at (c.in_err-flow.ensures.meaning k)))))

pub loops::count-returns-in_err-flow-clause-meaning : goal.loops::count-returns-in_err-flow-clause-meaning
loops::count-returns-in_err-flow-clause-meaning t c =
    let p = err_from_is_err_and c.from_residual.result c.from_residual.ensures.1 in rw (p.1, p.2) (λ k. let f : SFits w32 c.args.span.low = search rules in let g : SFits w32 c.args.span.high = search rules in let h = reached (to_z w64 c.numbers.number-bits) c.from.result c.args.span.high true g c.from.ensures c.numbers-test.true in let e = c.value-value.ensures ∙ ap (numbered c.args.span.are_objects) (narrow c.args.span.low c.args.span.high (to_z w64 c.numbers.number-bits) f g c.numbers.invariant.low h) in c.numbers.invariant.rest (Err (stop_of c.in_err-flow.field-0.0)) _ (count_left h (rw e at (c.in_err-flow.ensures.meaning k))))

pub loops::count-returns-in-Some-clause-meaning : goal.loops::count-returns-in-Some-clause-meaning
loops::count-returns-in-Some-clause-meaning t c =
    λ k. let f : SFits w32 c.args.span.low = search rules in let g : SFits w32 c.args.span.high = search rules in let h = reached (to_z w64 c.numbers.number-bits) c.from.result c.args.span.high true g c.from.ensures c.numbers-test.true in let e = c.value-value.ensures ∙ ap (numbered c.args.span.are_objects) (narrow c.args.span.low c.args.span.high (to_z w64 c.numbers.number-bits) f g c.numbers.invariant.low h) in c.numbers.invariant.rest (Ok (flow_of c.in-Some.flow)) _ (count_left h (rw (c.in-Some.is, e) at (c.in_ok-flow.ensures.meaning tt)))

pub loops::count-numbers-preserved : goal.loops::count-numbers-preserved
loops::count-numbers-preserved t c =
    let f : SFits w32 c.args.span.low = search rules in let g : SFits w32 c.args.span.high = search rules in let h = reached (to_z w64 c.numbers.number-bits) c.from.result c.args.span.high true g c.from.ensures c.numbers-test.true in let e = c.value-value.ensures ∙ ap (numbered c.args.span.are_objects) (narrow c.args.span.low c.args.span.high (to_z w64 c.numbers.number-bits) f g c.numbers.invariant.low h) in let q = next_number c.args.span.low c.args.span.high (to_z w64 c.numbers.number-bits) f g c.numbers.invariant.low h in record { ticks = omega arith; low = subst (λ x. c.args.span.low ≤ℤ x) (sym q) (not_below c.args.span.low (to_z w64 c.numbers.number-bits) c.numbers.invariant.low); rest = λ o s d. c.numbers.invariant.rest o s (count_then h (rw (c.in_default.is, e) at (c.in_ok-flow.ensures.meaning tt)) (subst (λ x. Counts Faults (context_of c.args.stack.now None) c.args.name.now c.args.span x (source_block c.args.body.now) (state_of c.visit.new.task c.visit.new.world c.visit.new.active) o s) q d)) }

pub loops::count-returns-clause-meaning : goal.loops::count-returns-clause-meaning
loops::count-returns-clause-meaning t c =
    λ k. let g : SFits w32 c.args.span.high = search rules in let h = reached (to_z w64 c.numbers.number-bits) c.from.result c.args.span.high false g c.from.ensures c.numbers-test.false in c.numbers.invariant.rest (Ok next) _ (all_counted h)

pub conditions::node_passes-returns-in-Some-try_property_test-clause-ok : goal.conditions::node_passes-returns-in-Some-try_property_test-clause-ok
conditions::node_passes-returns-in-Some-try_property_test-clause-ok t c =
    rw c.in_default-try_comparison.ensures.none at (c.in-Some-try_property_test.ensures.some (context_of c.args.stack.now c.args.indexed))

pub deferred::evaluate_deferred-returns-in_err-take_tick-clause-err : goal.deferred::evaluate_deferred-returns-in_err-take_tick-clause-err
deferred::evaluate_deferred-returns-in_err-take_tick-clause-err t c =
    let p = err_from_is_err_and c.from_residual.result c.from_residual.ensures.1 in rw (p.1, p.2) (λ k. let h = c.in_err-take_tick.ensures.spent k in rw (c.in_err-take_tick.ensures.kept, h.1) (spent h.0))

pub deferred::evaluate_deferred-returns-in_err-passes-clause-err : goal.deferred::evaluate_deferred-returns-in_err-passes-clause-err
deferred::evaluate_deferred-returns-in_err-passes-clause-err t c =
    let p = err_from_is_err_and c.from_residual-in_err-passes.result c.from_residual-in_err-passes.ensures.1 in rw (p.1, p.2) (λ k. rw (c.in-Conditional.is, ← c.deref.ensures) (test_stopped c.in_ok-take_tick.ensures.taken (rw c.in_ok-take_tick.ensures.left at (c.in_err-passes.ensures.err k))))

pub deferred::evaluate_deferred-returns-then-passes-clause-ok : goal.deferred::evaluate_deferred-returns-then-passes-clause-ok
deferred::evaluate_deferred-returns-then-passes-clause-ok t c =
    let test = c.in_ok-passes.ensures.ok in let d = rw c.in_ok-take_tick.ensures.left at test.1 in rw (c.in-Conditional.is, ← c.deref.ensures, ← c.deref-then-passes.ensures) (IfOk-weaker c.evaluate_deferred.result _ _ (λ v h. first_chosen c.in_ok-take_tick.ensures.taken d (test.2 ∙ c.if-passes.true) h) c.evaluate_deferred.ensures.ok)

pub deferred::evaluate_deferred-returns-then-passes-clause-err : goal.deferred::evaluate_deferred-returns-then-passes-clause-err
deferred::evaluate_deferred-returns-then-passes-clause-err t c =
    let test = c.in_ok-passes.ensures.ok in let d = rw c.in_ok-take_tick.ensures.left at test.1 in rw (c.in-Conditional.is, ← c.deref.ensures, ← c.deref-then-passes.ensures) (if_err c.evaluate_deferred.result (λ e h k. first_chosen c.in_ok-take_tick.ensures.taken d (test.2 ∙ c.if-passes.true) (h k)) c.evaluate_deferred.ensures.err)

pub deferred::evaluate_deferred-returns-in-Conditional-clause-ok : goal.deferred::evaluate_deferred-returns-in-Conditional-clause-ok
deferred::evaluate_deferred-returns-in-Conditional-clause-ok t c =
    let test = c.in_ok-passes.ensures.ok in let d = rw c.in_ok-take_tick.ensures.left at test.1 in rw (c.in-Conditional.is, ← c.deref.ensures, ← c.deref-in-Conditional.ensures) (IfOk-weaker c.evaluate_deferred-in-Conditional.result _ _ (λ v h. second_chosen c.in_ok-take_tick.ensures.taken d (test.2 ∙ c.if-passes.false) h) c.evaluate_deferred-in-Conditional.ensures.ok)

pub deferred::evaluate_deferred-returns-in-Conditional-clause-err : goal.deferred::evaluate_deferred-returns-in-Conditional-clause-err
deferred::evaluate_deferred-returns-in-Conditional-clause-err t c =
    let test = c.in_ok-passes.ensures.ok in let d = rw c.in_ok-take_tick.ensures.left at test.1 in rw (c.in-Conditional.is, ← c.deref.ensures, ← c.deref-in-Conditional.ensures) (if_err c.evaluate_deferred-in-Conditional.result (λ e h k. second_chosen c.in_ok-take_tick.ensures.taken d (test.2 ∙ c.if-passes.false) (h k)) c.evaluate_deferred-in-Conditional.ensures.err)

pub deferred::evaluate_deferred-returns-in_err-value-clause-err : goal.deferred::evaluate_deferred-returns-in_err-value-clause-err
deferred::evaluate_deferred-returns-in_err-value-clause-err t c =
    let p = err_from_is_err_and c.from_residual-in_err-value.result c.from_residual-in_err-value.ensures.1 in rw (p.1, p.2) (λ k. c.in_err-value.ensures.meaning k)

pub deferred::evaluate_deferred-returns-in_err-take_tick-2-clause-err : goal.deferred::evaluate_deferred-returns-in_err-take_tick-2-clause-err
deferred::evaluate_deferred-returns-in_err-take_tick-2-clause-err t c =
    let p = err_from_is_err_and c.from_residual-in_err-take_tick-2.result c.from_residual-in_err-take_tick-2.ensures.1 in rw (p.1, p.2) (λ k. let h = c.in_err-take_tick-2.ensures.spent k in rw (c.in_err-take_tick-2.ensures.kept, h.1) (spent h.0))

pub element::put_at-returns-clause-ok : goal.element::put_at-returns-clause-ok
element::put_at-returns-clause-ok t c =
    let h = c.in_ok-set_deferred_at.ensures.ok in put (c.in_ok-container.ensures.value tt) (c.in_ok-place.ensures.meaning tt) c.in_ok-value.ensures.ok h.1 (same_state (sym h.2) refl)

pub element::put_at-returns-in_err-value-clause-err : goal.element::put_at-returns-in_err-value-clause-err
element::put_at-returns-in_err-value-clause-err t c =
    let p = err_from_is_err_and c.from_residual-in_err-value.result c.from_residual-in_err-value.ensures.1 in rw (p.1, p.2) (λ k. value_ends (c.in_ok-container.ensures.value tt) (c.in_ok-place.ensures.meaning tt) (c.in_err-value.ensures.err k))

pub element::put_at-returns-in_err-set_deferred_at-clause-err : goal.element::put_at-returns-in_err-set_deferred_at-clause-err
element::put_at-returns-in_err-set_deferred_at-clause-err t c =
    let p = err_from_is_err_and c.from_residual-in_err-set_deferred_at.result c.from_residual-in_err-set_deferred_at.ensures.1 in
    rw (p.1, p.2) (λ k. subst (λ s. Computes Faults (context_of c.args.stack.now None) (sets_place c.args.name.now (source c.args.place.now) (source c.args.value.now)) (state_of c.args.task.now c.args.world.now c.args.active.now) (Err (failure_of c.in_err-set_deferred_at.field-0.0)) s) (same_state (sym (c.in_err-set_deferred_at.ensures.kept k)) refl) (not_put (c.in_ok-container.ensures.value tt) (c.in_ok-place.ensures.meaning tt) c.in_ok-value.ensures.ok (c.in_err-set_deferred_at.ensures.err k)))

pub property::put_property-returns-in-Some-clause-ok : goal.property::put_property-returns-in-Some-clause-ok
property::put_property-returns-in-Some-clause-ok t c =
    rw c.in-Some.ensures (known_put (deferred_tree c.in_ok-value.value) c.write_written_deferred.result (λ k. let f : SFits w32 c.evaluate_stored.new.active.programmer = search rules in property.put (c.in_ok-base.ensures.meaning tt) (literal_read c.in_ok-take_tick.ensures.taken) (rw c.in_ok-take_tick.ensures.left at c.in_ok-value.ensures.ok) (property_put _ (rw (to_z-of_z w32 c.evaluate_stored.new.active.programmer f) at (c.write_written_deferred.ensures.world k)) (known_kept _ _ c.write_written_deferred.result k c.write_written_deferred.ensures.kept)) refl))

pub property::put_property-returns-clause-ok : goal.property::put_property-returns-clause-ok
property::put_property-returns-clause-ok t c =
    known_put (deferred_tree c.in_ok-value-2.value) c.write_deferred.result (λ k. let f : SFits w32 c.evaluate_stored-2.new.active.programmer = search rules in property.put (c.in_ok-base.ensures.meaning tt) (c.in_ok-name.ensures.meaning tt) c.in_ok-value-2.ensures.ok (property_put _ (rw (to_z-of_z w32 c.evaluate_stored-2.new.active.programmer f) at (c.write_deferred.ensures.world k)) (known_kept _ _ c.write_deferred.result k c.write_deferred.ensures.kept)) refl)

pub property_element::put_property_element-returns-clause-ok : goal.property_element::put_property_element-returns-clause-ok
property_element::put_property_element-returns-clause-ok t c =
    known_put (deferred_tree c.in_ok-value.value) c.set_property_deferred_at.result (λ k. let f : SFits w32 c.evaluate.new.active.programmer = search rules in let g : SFits w32 c.evaluate_stored.new.active.programmer = search rules in part_put (c.in_ok-base.ensures.meaning tt) (literal_read c.in_ok-take_tick.ensures.taken) (rw (to_z-of_z w32 c.evaluate.new.active.programmer f) at (c.in_ok-container.ensures.value tt)) (rw c.in_ok-take_tick.ensures.left at (c.in_ok-place.ensures.meaning tt)) c.in_ok-value.ensures.ok (part_stored _ c.set_property_deferred_at.result refl (rw (to_z-of_z w32 c.evaluate_stored.new.active.programmer g) at (c.set_property_deferred_at.ensures.world k)) c.set_property_deferred_at.ensures.kept k))

pub property::put_property-returns-in-Some-clause-err : goal.property::put_property-returns-in-Some-clause-err
property::put_property-returns-in-Some-clause-err t c =
    rw c.in-Some.ensures (known_refused (deferred_tree c.in_ok-value.value) c.write_written_deferred.result (λ k. let f : SFits w32 c.evaluate_stored.new.active.programmer = search rules in property.put (c.in_ok-base.ensures.meaning tt) (literal_read c.in_ok-take_tick.ensures.taken) (rw c.in_ok-take_tick.ensures.left at c.in_ok-value.ensures.ok) (property_put _ (rw (to_z-of_z w32 c.evaluate_stored.new.active.programmer f) at (c.write_written_deferred.ensures.world k)) (known_kept _ _ c.write_written_deferred.result k c.write_written_deferred.ensures.kept)) refl))

pub property::put_property-returns-clause-err : goal.property::put_property-returns-clause-err
property::put_property-returns-clause-err t c =
    known_refused (deferred_tree c.in_ok-value-2.value) c.write_deferred.result (λ k. let f : SFits w32 c.evaluate_stored-2.new.active.programmer = search rules in property.put (c.in_ok-base.ensures.meaning tt) (c.in_ok-name.ensures.meaning tt) c.in_ok-value-2.ensures.ok (property_put _ (rw (to_z-of_z w32 c.evaluate_stored-2.new.active.programmer f) at (c.write_deferred.ensures.world k)) (known_kept _ _ c.write_deferred.result k c.write_deferred.ensures.kept)) refl)

pub property_element::put_property_element-returns-clause-err : goal.property_element::put_property_element-returns-clause-err
property_element::put_property_element-returns-clause-err t c =
    known_refused (deferred_tree c.in_ok-value.value) c.set_property_deferred_at.result (λ k. let f : SFits w32 c.evaluate.new.active.programmer = search rules in let g : SFits w32 c.evaluate_stored.new.active.programmer = search rules in part_put (c.in_ok-base.ensures.meaning tt) (literal_read c.in_ok-take_tick.ensures.taken) (rw (to_z-of_z w32 c.evaluate.new.active.programmer f) at (c.in_ok-container.ensures.value tt)) (rw c.in_ok-take_tick.ensures.left at (c.in_ok-place.ensures.meaning tt)) c.in_ok-value.ensures.ok (part_stored _ c.set_property_deferred_at.result refl (rw (to_z-of_z w32 c.evaluate_stored.new.active.programmer g) at (c.set_property_deferred_at.ensures.world k)) c.set_property_deferred_at.ensures.kept k))

pub property::put_property-returns-in_err-value-2-clause-err : goal.property::put_property-returns-in_err-value-2-clause-err
property::put_property-returns-in_err-value-2-clause-err t c =
    let p = err_from_is_err_and c.from_residual-in_err-value-2.result c.from_residual-in_err-value-2.ensures.1 in rw (p.1, p.2) (λ k. property.value_stops_put (c.in_ok-base.ensures.meaning tt) (c.in_ok-name.ensures.meaning tt) (c.in_err-value-2.ensures.err k))

pub property_element::put_property_element-returns-in_err-value-clause-err : goal.property_element::put_property_element-returns-in_err-value-clause-err
property_element::put_property_element-returns-in_err-value-clause-err t c =
    let p = err_from_is_err_and c.from_residual-in_err-value.result c.from_residual-in_err-value.ensures.1 in rw (p.1, p.2) (λ k. let f : SFits w32 c.evaluate.new.active.programmer = search rules in value_stops_part (c.in_ok-base.ensures.meaning tt) (literal_read c.in_ok-take_tick.ensures.taken) (rw (to_z-of_z w32 c.evaluate.new.active.programmer f) at (c.in_ok-container.ensures.value tt)) (rw c.in_ok-take_tick.ensures.left at (c.in_ok-place.ensures.meaning tt)) (c.in_err-value.ensures.err k))

pub lengthening::put_longer-returns-clause-ok : goal.lengthening::put_longer-returns-clause-ok
lengthening::put_longer-returns-clause-ok t c =
    lengthened c.in-List.list (rw c.in-List.is at (c.in_ok-found.ensures.meaning None c.args.world.now tt)) (c.in_ok-last.ensures.meaning tt) c.in-Some.ensures.some (same_state (sym c.in_ok-set_deferred.ensures) refl)

pub lengthening::put_longer-returns-in_err-found-clause-err : goal.lengthening::put_longer-returns-in_err-found-clause-err
lengthening::put_longer-returns-in_err-found-clause-err t c =
    let p = err_from_is_err_and c.from_residual.result c.from_residual.ensures.1 in rw (p.1, p.2) (λ k. first_stops (c.in_err-found.ensures.meaning None c.args.world.now k))

pub lengthening::put_longer-returns-in_default-clause-err : goal.lengthening::put_longer-returns-in_default-clause-err
lengthening::put_longer-returns-in_default-clause-err t c =
    λ k. first_fails (c.in_ok-found.ensures.meaning None c.args.world.now tt) (unspliced _ c.in_default.not-List)

pub lengthening::put_longer-returns-in_err-last-clause-err : goal.lengthening::put_longer-returns-in_err-last-clause-err
lengthening::put_longer-returns-in_err-last-clause-err t c =
    let p = err_from_is_err_and c.from_residual-in_err-last.result c.from_residual-in_err-last.ensures.1 in rw (p.1, p.2) (λ k. second_stops c.in-List.list (rw c.in-List.is at (c.in_ok-found.ensures.meaning None c.args.world.now tt)) (c.in_err-last.ensures.meaning k))

pub lengthening::put_longer-returns-in_default-appended-clause-err : goal.lengthening::put_longer-returns-in_default-appended-clause-err
lengthening::put_longer-returns-in_default-appended-clause-err t c =
    λ k. too_long c.in-List.list (rw c.in-List.is at (c.in_ok-found.ensures.meaning None c.args.world.now tt)) (c.in_ok-last.ensures.meaning tt) (ap answers c.in_default-appended.ensures.none)

pub update::put_updated-returns-in_err-value-clause-err : goal.update::put_updated-returns-in_err-value-clause-err
update::put_updated-returns-in_err-value-clause-err t c =
    let p = err_from_is_err_and c.from_residual.result c.from_residual.ensures.1 in rw (p.1, p.2) (λ k. c.in_err-value.ensures.meaning k)

pub assignment::assign-returns-in-Variable-clause-meaning : goal.assignment::assign-returns-in-Variable-clause-meaning
assignment::assign-returns-in-Variable-clause-meaning t c =
    λ k. rw c.in-Variable.is (c.assign_changed.ensures.meaning k)

pub assignment::assign_changed-returns-clause-meaning : goal.assignment::assign_changed-returns-clause-meaning
assignment::assign_changed-returns-clause-meaning t c =
    λ k. rw c.in_ok-assigned.ensures.value (assigned c.in_ok-value.ensures.ok (same_state (sym c.in_ok-assigned.ensures.set) refl))

pub assignment::assign_changed-returns-in_err-value-clause-meaning : goal.assignment::assign_changed-returns-in_err-value-clause-meaning
assignment::assign_changed-returns-in_err-value-clause-meaning t c =
    let p = err_from_is_err_and c.from_residual.result c.from_residual.ensures.1 in rw (p.1, p.2) (λ k. unassigned (c.in_err-value.ensures.err k))

pub assignment::assign_value-returns-then-is_own_change-clause-meaning : goal.assignment::assign_value-returns-then-is_own_change-clause-meaning
assignment::assign_value-returns-then-is_own_change-clause-meaning t c =
    λ k. performed c.in_ok-take_tick.ensures.taken (assigned (rw c.in_ok-take_tick.ensures.left at c.in_ok-value.ensures.ok) (same_state (sym c.in_ok-set_deferred.ensures) refl))

pub assignment::assign_value-returns-in_err-value-clause-meaning : goal.assignment::assign_value-returns-in_err-value-clause-meaning
assignment::assign_value-returns-in_err-value-clause-meaning t c =
    let p = err_from_is_err_and c.from_residual-in_err-value.result c.from_residual-in_err-value.ensures.1 in rw (p.1, p.2) (λ k. unperformed c.in_ok-take_tick.ensures.taken (unassigned (rw c.in_ok-take_tick.ensures.left at (c.in_err-value.ensures.err k))))

pub assignment::assign_value-returns-in_err-value-2-clause-meaning : goal.assignment::assign_value-returns-in_err-value-2-clause-meaning
assignment::assign_value-returns-in_err-value-2-clause-meaning t c =
    let p = err_from_is_err_and c.from_residual-in_err-value-2.result c.from_residual-in_err-value-2.ensures.1 in rw (p.1, p.2) (λ k. unperformed c.in_ok-take_tick.ensures.taken (unassigned (rw c.in_ok-take_tick.ensures.left at (c.in_err-value-2.ensures.meaning k))))

pub deferred::evaluate_stored-returns-in_err-value-clause-err : goal.deferred::evaluate_stored-returns-in_err-value-clause-err
deferred::evaluate_stored-returns-in_err-value-clause-err t c =
    let p = err_from_is_err_and c.from_residual.result c.from_residual.ensures.1 in rw (p.1, p.2) (λ k. c.in_err-value.ensures.meaning k)

pub deferred::evaluate_deferred-returns-in-Ok-clause-ok : goal.deferred::evaluate_deferred-returns-in-Ok-clause-ok
deferred::evaluate_deferred-returns-in-Ok-clause-ok t c =
    rw c.in-Some.ensures (begins c.in_ok-take_tick-2.ensures.taken (rw (c.in_ok-take_tick-2.ensures.left, c.in-Ok.is) at (c.defer.ensures.meaning (rw c.in-Ok.is tt))) refl)

pub deferred::evaluate_deferred-returns-in_ok-value-in-Err-clause-ok : goal.deferred::evaluate_deferred-returns-in_ok-value-in-Err-clause-ok
deferred::evaluate_deferred-returns-in_ok-value-in-Err-clause-ok t c =
    rw c.in-Some.ensures (begins c.in_ok-take_tick-2.ensures.taken (rw (c.in_ok-take_tick-2.ensures.left, c.in-Err.is) at (c.defer.ensures.meaning (rw c.in-Err.is (c.in_ok-value-in-Err.ensures.known tt)))) (c.in_ok-value-in-Err.ensures.outcome tt))

pub deferred::evaluate_deferred-returns-in_err-value-in-Err-clause-err : goal.deferred::evaluate_deferred-returns-in_err-value-in-Err-clause-err
deferred::evaluate_deferred-returns-in_err-value-in-Err-clause-err t c =
    let p = err_from_is_err_and c.from_residual-in_err-value-in-Err.result c.from_residual-in_err-value-in-Err.ensures.1 in rw (p.1, p.2) (λ k. rw c.in-Some.ensures (begins c.in_ok-take_tick-2.ensures.taken (rw (c.in_ok-take_tick-2.ensures.left, c.in-Err.is) at (c.defer.ensures.meaning (rw c.in-Err.is (c.in_err-value-in-Err.ensures.known k)))) (c.in_err-value-in-Err.ensures.outcome k)))

pub deferred::defer-returns-in-Appended-clause-meaning : goal.deferred::defer-returns-in-Appended-clause-meaning
deferred::defer-returns-in-Appended-clause-meaning t c =
    λ k. rw c.in-Appended.is (c.defer_appended.ensures.meaning k)

pub deferred::defer-returns-in-Prepended-clause-meaning : goal.deferred::defer-returns-in-Prepended-clause-meaning
deferred::defer-returns-in-Prepended-clause-meaning t c =
    λ k. rw c.in-Prepended.is (c.defer_prepended.ensures.meaning k)

pub deferred::defer-returns-in-Extended-clause-meaning : goal.deferred::defer-returns-in-Extended-clause-meaning
deferred::defer-returns-in-Extended-clause-meaning t c =
    λ k. rw c.in-Extended.is (c.defer_extended.ensures.meaning k)

pub deferred::defer-returns-in-Called-clause-meaning : goal.deferred::defer-returns-in-Called-clause-meaning
deferred::defer-returns-in-Called-clause-meaning t c =
    λ k. rw c.in-Called.is (c.defer_call.ensures.meaning k)

pub deferred::defer-returns-in-Part-clause-meaning : goal.deferred::defer-returns-in-Part-clause-meaning
deferred::defer-returns-in-Part-clause-meaning t c =
    λ k. rw c.in-Part.is (c.defer_range.ensures.meaning k)

pub deferred::defer_range-returns-clause-meaning : goal.deferred::defer_range-returns-clause-meaning
deferred::defer_range-returns-clause-meaning t c =
    λ k. applies (element_then (c.in_ok-base.ensures.meaning tt) no_more refl) (element_then (c.in_ok-low.ensures.meaning tt) (element_then (c.in_ok-high.ensures.meaning tt) no_more refl) refl) (range_is (c.deferred_range.ensures k))

pub deferred::defer_range-returns-in_err-base-clause-meaning : goal.deferred::defer_range-returns-in_err-base-clause-meaning
deferred::defer_range-returns-in_err-base-clause-meaning t c =
    let p = err_from_is_err_and c.from_residual.result c.from_residual.ensures.1 in rw (p.1, p.2) (λ k. operands_end (element_stops (c.in_err-base.ensures.meaning k)))

pub deferred::defer_range-returns-in_err-low-clause-meaning : goal.deferred::defer_range-returns-in_err-low-clause-meaning
deferred::defer_range-returns-in_err-low-clause-meaning t c =
    let p = err_from_is_err_and c.from_residual-in_err-low.result c.from_residual-in_err-low.ensures.1 in rw (p.1, p.2) (λ k. places_end (element_then (c.in_ok-base.ensures.meaning tt) no_more refl) (element_stops (c.in_err-low.ensures.meaning k)))

pub deferred::defer_range-returns-in_err-high-clause-meaning : goal.deferred::defer_range-returns-in_err-high-clause-meaning
deferred::defer_range-returns-in_err-high-clause-meaning t c =
    let p = err_from_is_err_and c.from_residual-in_err-high.result c.from_residual-in_err-high.ensures.1 in rw (p.1, p.2) (λ k. places_end (element_then (c.in_ok-base.ensures.meaning tt) no_more refl) (element_then (c.in_ok-low.ensures.meaning tt) (element_stops (c.in_err-high.ensures.meaning k)) refl))

pub deferred::defer_appended-returns-in_err-found-clause-meaning : goal.deferred::defer_appended-returns-in_err-found-clause-meaning
deferred::defer_appended-returns-in_err-found-clause-meaning t c =
    let p = err_from_is_err_and c.from_residual.result c.from_residual.ensures.1 in rw (p.1, p.2) (λ k. first_stops (c.in_err-found.ensures.meaning k))

pub deferred::defer_appended-returns-in_default-clause-meaning : goal.deferred::defer_appended-returns-in_default-clause-meaning
deferred::defer_appended-returns-in_default-clause-meaning t c =
    λ k. first_fails (c.in_ok-found.ensures.meaning tt) (unspliced _ c.in_default.not-List)

pub deferred::defer_appended-returns-in_err-last-clause-meaning : goal.deferred::defer_appended-returns-in_err-last-clause-meaning
deferred::defer_appended-returns-in_err-last-clause-meaning t c =
    let p = err_from_is_err_and c.from_residual-in_err-last.result c.from_residual-in_err-last.ensures.1 in rw (p.1, p.2) (λ k. second_stops c.in-List.list (rw c.in-List.is at (c.in_ok-found.ensures.meaning tt)) (c.in_err-last.ensures.meaning k))

pub deferred::defer_appended-returns-in-Some-clause-meaning : goal.deferred::defer_appended-returns-in-Some-clause-meaning
deferred::defer_appended-returns-in-Some-clause-meaning t c =
    λ k. longer c.in-List.list (rw c.in-List.is at (c.in_ok-found.ensures.meaning tt)) (c.in_ok-last.ensures.meaning tt) c.in-Some.ensures.some

pub deferred::defer_appended-returns-in-None-clause-meaning : goal.deferred::defer_appended-returns-in-None-clause-meaning
deferred::defer_appended-returns-in-None-clause-meaning t c =
    λ k. too_long c.in-List.list (rw c.in-List.is at (c.in_ok-found.ensures.meaning tt)) (c.in_ok-last.ensures.meaning tt) (ap answers c.in-None.ensures.none)

pub deferred::defer_prepended-returns-in_err-first-clause-meaning : goal.deferred::defer_prepended-returns-in_err-first-clause-meaning
deferred::defer_prepended-returns-in_err-first-clause-meaning t c =
    let p = err_from_is_err_and c.from_residual.result c.from_residual.ensures.1 in rw (p.1, p.2) (λ k. front.first_stops (c.in_err-first.ensures.meaning k))

pub deferred::defer_prepended-returns-in_err-found-clause-meaning : goal.deferred::defer_prepended-returns-in_err-found-clause-meaning
deferred::defer_prepended-returns-in_err-found-clause-meaning t c =
    let p = err_from_is_err_and c.from_residual-in_err-found.result c.from_residual-in_err-found.ensures.1 in rw (p.1, p.2) (λ k. front.second_stops (c.in_ok-first.ensures.meaning tt) (c.in_err-found.ensures.meaning k))

pub deferred::defer_prepended-returns-in_default-clause-meaning : goal.deferred::defer_prepended-returns-in_default-clause-meaning
deferred::defer_prepended-returns-in_default-clause-meaning t c =
    λ k. front.second_fails (c.in_ok-first.ensures.meaning tt) (c.in_ok-found.ensures.meaning tt) (unspliced _ c.in_default.not-List)

pub deferred::defer_prepended-returns-in-Some-clause-meaning : goal.deferred::defer_prepended-returns-in-Some-clause-meaning
deferred::defer_prepended-returns-in-Some-clause-meaning t c =
    λ k. front.longer c.in-List.list (c.in_ok-first.ensures.meaning tt) (rw c.in-List.is at (c.in_ok-found.ensures.meaning tt)) c.in-Some.ensures.some

pub deferred::defer_prepended-returns-in-None-clause-meaning : goal.deferred::defer_prepended-returns-in-None-clause-meaning
deferred::defer_prepended-returns-in-None-clause-meaning t c =
    λ k. front.too_long c.in-List.list (c.in_ok-first.ensures.meaning tt) (rw c.in-List.is at (c.in_ok-found.ensures.meaning tt)) (ap answers c.in-None.ensures.none)

pub deferred::defer_extended-returns-in_err-found-clause-meaning : goal.deferred::defer_extended-returns-in_err-found-clause-meaning
deferred::defer_extended-returns-in_err-found-clause-meaning t c =
    let p = err_from_is_err_and c.from_residual.result c.from_residual.ensures.1 in rw (p.1, p.2) (λ k. spliced_stops (c.in_err-found.ensures.meaning k))

pub deferred::defer_extended-returns-in_default-clause-meaning : goal.deferred::defer_extended-returns-in_default-clause-meaning
deferred::defer_extended-returns-in_default-clause-meaning t c =
    λ k. spliced_fails (c.in_ok-found.ensures.meaning tt) (unspliced _ c.in_default.not-List)

pub deferred::defer_extended-returns-in_err-values-clause-meaning : goal.deferred::defer_extended-returns-in_err-values-clause-meaning
deferred::defer_extended-returns-in_err-values-clause-meaning t c =
    let p = err_from_is_err_and c.from_residual-in_err-values.result c.from_residual-in_err-values.ensures.1 in rw (p.1, p.2) (λ k. items_end c.in-List.list (rw c.in-List.is at (c.in_ok-found.ensures.meaning tt)) (c.in_err-values.ensures.meaning k))

pub deferred::defer_extended-returns-in-Some-clause-meaning : goal.deferred::defer_extended-returns-in-Some-clause-meaning
deferred::defer_extended-returns-in-Some-clause-meaning t c =
    λ k. longer_all c.in-List.list (rw c.in-List.is at (c.in_ok-found.ensures.meaning tt)) (c.in_ok-values.ensures.meaning tt) (rw c.in_ok-values-2.ensures at c.in-Some.ensures.some)

pub deferred::defer_extended-returns-in-None-clause-meaning : goal.deferred::defer_extended-returns-in-None-clause-meaning
deferred::defer_extended-returns-in-None-clause-meaning t c =
    λ k. too_long_by c.in-List.list (rw c.in-List.is at (c.in_ok-found.ensures.meaning tt)) (c.in_ok-values.ensures.meaning tt) (ap answers (rw c.in_ok-values-2.ensures at c.in-None.ensures.none))

pub deferred::defer_call-returns-in_err-values-clause-meaning : goal.deferred::defer_call-returns-in_err-values-clause-meaning
deferred::defer_call-returns-in_err-values-clause-meaning t c =
    let p = err_from_is_err_and c.from_residual.result c.from_residual.ensures.1 in rw (p.1, p.2) (λ k. operands_end (c.in_err-values.ensures.meaning k))

pub deferred::defer_call-returns-in-Ok-clause-meaning : goal.deferred::defer_call-returns-in-Ok-clause-meaning
deferred::defer_call-returns-in-Ok-clause-meaning t c =
    λ k. let h = c.in-Ok.ensures.ok in list_called (c.in_ok-values.ensures.meaning tt) c.in_ok-args.ensures (sym c.function.ensures ∙ h.1) h.2

pub deferred::defer_call-returns-in_ok-value-in-Err-clause-meaning : goal.deferred::defer_call-returns-in_ok-value-in-Err-clause-meaning
deferred::defer_call-returns-in_ok-value-in-Err-clause-meaning t c =
    λ k. applies (c.in_ok-values.ensures.meaning tt) no_more (rw (c.of-values.ensures, c.in-Err.ensures.err, c.in_ok-args.ensures) at (c.in_ok-value-in-Err.ensures.meaning c.args.indexed (source_items c.args.items.now) tt))

pub deferred::defer_call-returns-in_err-value-in-Err-clause-meaning : goal.deferred::defer_call-returns-in_err-value-in-Err-clause-meaning
deferred::defer_call-returns-in_err-value-in-Err-clause-meaning t c =
    let p = err_from_is_err_and c.from_residual-in_err-value-in-Err.result c.from_residual-in_err-value-in-Err.ensures.1 in rw (p.1, p.2) (λ k. applies (c.in_ok-values.ensures.meaning tt) no_more (rw (c.of-values.ensures, c.in-Err.ensures.err, c.in_ok-args.ensures) at (c.in_err-value-in-Err.ensures.meaning c.args.indexed (source_items c.args.items.now) k)))

pub update::put_updated-returns-in_ok-room-in-Called-clause-ok : goal.update::put_updated-returns-in_ok-room-in-Called-clause-ok
update::put_updated-returns-in_ok-room-in-Called-clause-ok t c =
    record {
      value = c.in-Called.call;
      between = _;
      computes = rw c.in-Called.is at (c.in_ok-value.ensures.meaning tt);
      sets = same_state (sym c.in_ok-room-in-Called.ensures) refl;
    }

pub update::put_updated-returns-in_ok-set_deferred-in_default-clause-ok : goal.update::put_updated-returns-in_ok-set_deferred-in_default-clause-ok
update::put_updated-returns-in_ok-set_deferred-in_default-clause-ok t c =
    record {
      value = deferred_tree c.in_ok-value.value;
      between = _;
      computes = c.in_ok-value.ensures.meaning tt;
      sets = same_state (sym c.in_ok-set_deferred-in_default.ensures) refl;
    }
