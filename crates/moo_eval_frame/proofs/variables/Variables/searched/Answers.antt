use Rattle.std.proofs.Common.{None, sym, ap, ◌∙◌}
use Rattle.moo_value.specs.Compare.{folded}
use Rattle.moo_eval_frame.specs.Seen.{others_of, value_among}
use Rattle.moo_eval_slot.proofs.Names.{slot_at, without_slot}
use Rattle.moo_eval_frame.proofs.variables.Variables.searched.Goals as goal

pub returns-in-Some : goal.returns-in-Some
returns-in-Some c =
    let found = c.in-Some.ensures in
    let own = c.args.self.now.own in
    c.get.ensures ∙ sym (slot_at c.args.name.now own.names own.values (value_among (others_of c.args.self.now.others)) None c.in-Some.slot (sym found.there) found.within)

pub returns-in-None : goal.returns-in-None
returns-in-None c =
    c.other.ensures
    ∙ ap (λ n. value_among (others_of c.args.self.now.others) (folded n)) c.as_bytes.ensures.value
    ∙ sym (without_slot c.args.name.now c.args.self.now.own.names c.args.self.now.own.values (value_among (others_of c.args.self.now.others)) (sym c.in-None.ensures.there))
