use Rattle.std.proofs.Common.{ap, ◌∙◌}
use Rattle.moo_value.specs.View.{tree}
use Rattle.moo_syntax_ast.specs.Given.{given_names}
use Rattle.moo_eval_frame.specs.GivenValues.{given_values}
use Rattle.moo_eval_frame.specs.Seen.{others_of, value_among, own_variables, variables_of}
use Rattle.moo_eval_slot.specs.Held.{slot_value}
use Rattle.moo_eval_frame.proofs.GivenNames.{other_set}
use Rattle.moo_eval_frame.proofs.Stored.{set_slot}
use Rattle.moo_eval_frame.proofs.variables.Variables.try_set.Goals as goal

pub returns-in-Some-clause-put : goal.returns-in-Some-clause-put
unfolding variables_of
returns-in-Some-clause-put c = λ t.
    let found = c.in-Some.ensures in
    let old = c.args.self.now in
    ap (slot_value given_names (given_values old.given))
    (ap (λ own. slot_value own.names own.values (value_among (others_of old.others))) c.set.ensures
    ∙ set_slot c.args.name.now c.args.value old.own.names old.own.values (value_among (others_of old.others)) c.in-Some.slot found.there found.within)
    ∙ other_set old.given (own_variables old) c.args.name.now found.own (tree c.args.value)
