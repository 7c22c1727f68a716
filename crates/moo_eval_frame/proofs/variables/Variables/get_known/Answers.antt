use Rattle.std.proofs.Common.{None, sym, ◌∙◌}
use Rattle.moo_value.specs.View.{tree}
use Rattle.moo_eval_frame.specs.Seen.{others_of, value_among, own_variables, variables_of}
use Rattle.moo_eval_slot.proofs.Names.{slot_at}
use Rattle.moo_eval_frame.proofs.GivenNames.{other_at}
use Rattle.moo_eval_frame.proofs.Options.{told_some}
use Rattle.moo_eval_frame.proofs.variables.Variables.get_known.Goals as goal

pub returns : goal.returns
unfolding variables_of
returns c =
    let found = c.in_ok-known_slot.ensures in
    let self = c.args.self.now in
    told_some (λ v. tree v.now) c.get.result
    (c.get.ensures
    ∙ sym (slot_at c.args.name.now self.own.names self.own.values (value_among (others_of self.others)) None c.in_ok-known_slot.field-0 found.there found.within)
    ∙ other_at self.given (own_variables self) c.args.name.now found.own)
