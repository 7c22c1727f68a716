use Rattle.std.proofs.Common.{◌++◌, ◌∷◌, [], None, ap, sym, ◌∙◌}
use Rattle.std.proofs.lemmas.Result.{IfOk-weaker}
use Rattle.std.specs.Option.{option_map}
use Rattle.moo_value.specs.View.{tree}
use Rattle.moo_value.specs.Tree.{list_of}
use Rattle.moo_value.specs.declared.value.Value.TheVariants.{List as ListOf}
use Rattle.moo_syntax_ast.specs.Given.{given_names}
use Rattle.moo_eval_frame.specs.GivenValues.{given_values}
use Rattle.moo_eval_frame.specs.Seen.{others_of, value_among, own_variables, variables_of}
use Rattle.moo_eval_slot.specs.Held.{slot_value}
use Rattle.moo_eval_frame.proofs.GivenNames.{other_at, other_set}
use Rattle.moo_eval_slot.proofs.Names.{slot_at}
use Rattle.moo_eval_frame.proofs.Stored.{set_slot}
use Rattle.moo_eval_frame.proofs.variables.Variables.try_push.Goals as goal

pub returns-in-Some-clause-pushed : goal.returns-in-Some-clause-pushed
unfolding variables_of
returns-in-Some-clause-pushed c =
    let found = c.in-Some.ensures in
    let old = c.args.self.now in
    let name = c.args.name.now in
    let slot = c.in-Some.slot in
    let elsewhere = value_among (others_of old.others) in
    IfOk-weaker c.try_push.result _ _ (λ done h t.
    let p = h t in
    let new = p.0 ++ tree c.args.value ∷ [] in (
      p.0,
      sym (other_at old.given (own_variables old) name found.own) ∙ slot_at name old.own.names old.own.values elsewhere None slot found.there found.within ∙ ap (option_map (λ v. tree v)) p.1,
      p.2,
      ap (slot_value given_names (given_values old.given)) (ap (λ own. slot_value own.names own.values elsewhere) p.3 ∙ set_slot name (ListOf new) old.own.names old.own.values elsewhere slot found.there found.within)
          ∙ other_set old.given (own_variables old) name found.own (list_of new),
    )) c.try_push.ensures.pushed

pub returns-in-Some-clause-kept : goal.returns-in-Some-clause-kept
unfolding variables_of
returns-in-Some-clause-kept c =
    let old = c.args.self.now in
    IfOk-weaker c.try_push.result _ _ (λ done h f. ap (λ own. slot_value given_names (given_values old.given) (slot_value own.names own.values (value_among (others_of old.others)))) (h f)) c.try_push.ensures.kept
