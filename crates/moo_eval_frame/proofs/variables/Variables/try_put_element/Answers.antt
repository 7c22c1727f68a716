use Rattle.std.proofs.Common.{None, ap, sym, ◌∙◌, w32}
use Rattle.std.proofs.Math.ListN.{set}
use Rattle.std.proofs.lemmas.Int.{to_z-of_z}
use Rattle.std.specs.Option.{option_map}
use Rattle.moo_value.specs.View.{tree}
use Rattle.moo_value.specs.Tree.{integer, list_of}
use Rattle.moo_value.specs.declared.value.Value.TheVariants.{List as ListOf}
use Rattle.moo_syntax_ast.specs.Given.{given_names}
use Rattle.moo_eval_frame.specs.GivenValues.{given_values}
use Rattle.moo_eval_frame.specs.Seen.{others_of, value_among, own_variables, variables_of}
use Rattle.moo_eval_slot.specs.Held.{slot_value}
use Rattle.moo_eval_frame.proofs.GivenNames.{other_at, other_set}
use Rattle.moo_eval_slot.proofs.Names.{slot_at}
use Rattle.moo_eval_frame.proofs.Stored.{set_slot}
use Rattle.moo_eval_frame.proofs.variables.Variables.try_put_element.Goals as goal

pub returns-in-Some-clause-put : goal.returns-in-Some-clause-put
unfolding variables_of
returns-in-Some-clause-put c = λ t.
    let found = c.in-Some.ensures in
    let old = c.args.self.now in
    let name = c.args.name.now in
    let slot = c.in-Some.slot in
    let elsewhere = value_among (others_of old.others) in
    let n = to_z-of_z w32 c.args.number c.ranges.number in
    let p = simp n at (c.try_put_element.ensures.put t) in
    let new = set p.0 c.args.index (integer c.args.number) in (
      p.0,
      sym (other_at old.given (own_variables old) name found.own) ∙ slot_at name old.own.names old.own.values elsewhere None slot found.there found.within ∙ ap (option_map (λ v. tree v)) p.1,
      p.2,
      p.3,
      ap (slot_value given_names (given_values old.given)) (ap (λ own. slot_value own.names own.values elsewhere) p.4 ∙ set_slot name (ListOf new) old.own.names old.own.values elsewhere slot found.there found.within)
          ∙ other_set old.given (own_variables old) name found.own (list_of new),
    )

pub returns-in-Some-clause-kept : goal.returns-in-Some-clause-kept
unfolding variables_of
returns-in-Some-clause-kept c = λ f.
    let old = c.args.self.now in
    ap (λ own. slot_value given_names (given_values old.given) (slot_value own.names own.values (value_among (others_of old.others)))) (c.try_put_element.ensures.kept f)
