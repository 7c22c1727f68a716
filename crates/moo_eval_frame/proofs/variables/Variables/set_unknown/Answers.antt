use Rattle.std.proofs.Common.{sym, ap, ◌∙◌}
use Rattle.std.proofs.lemmas.Result.{on_ok_weaker}
use Rattle.moo_value.specs.View.{tree}
use Rattle.moo_syntax_ast.specs.Given.{given_names}
use Rattle.moo_eval_frame.specs.GivenValues.{given_values}
use Rattle.moo_eval_frame.specs.Seen.{own_variables, variables_of}
use Rattle.moo_eval_slot.specs.Held.{slot_value}
use Rattle.moo_eval_frame.proofs.GivenNames.{given_set, other_set}
use Rattle.moo_eval_frame.proofs.variables.Variables.set_unknown.Goals as goal

pub returns-in-Some : goal.returns-in-Some
unfolding variables_of
returns-in-Some c =
    let old = c.args.self.now in
    on_ok_weaker
    c.set.result
    (λ e. ap (λ values. slot_value given_names values (own_variables old)) e ∙ given_set old.given (own_variables old) c.args.name.now c.in-Some.given (sym c.in-Some.ensures) c.args.value)
    c.set.ensures

pub returns-in-None : goal.returns-in-None
unfolding variables_of
returns-in-None c =
    let old = c.args.self.now in
    let new = c.set_searched.new.self in
    on_ok_weaker
    c.set_searched.result
    (λ e.
    ap (λ given. slot_value given_names (given_values given) (own_variables new)) c.set_searched.ensures.given
    ∙ ap (slot_value given_names (given_values old.given)) e
    ∙ other_set old.given (own_variables old) c.args.name.now (sym c.in-None.ensures) (tree c.args.value))
    c.set_searched.ensures.own
