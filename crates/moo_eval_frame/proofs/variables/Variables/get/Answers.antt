use Rattle.std.proofs.Common.{None, sym, ◌∙◌}
use Rattle.moo_eval_frame.specs.Seen.{others_of, value_among, own_variables, variables_of}
use Rattle.moo_eval_slot.proofs.Names.{slot_at}
use Rattle.moo_eval_frame.proofs.GivenNames.{other_at}
use Rattle.moo_eval_frame.proofs.variables.Variables.get.Goals as goal

pub returns-in-Some : goal.returns-in-Some
unfolding variables_of
returns-in-Some c =
    let found = c.in-Some.ensures in
    let self = c.args.self.now in
    c.get.ensures
    ∙ sym (slot_at c.args.name.now self.own.names self.own.values (value_among (others_of self.others)) None c.in-Some.slot found.there found.within)
    ∙ other_at self.given (own_variables self) c.args.name.now found.own
