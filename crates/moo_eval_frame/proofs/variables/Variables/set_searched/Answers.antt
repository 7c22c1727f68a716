use Rattle.std.proofs.Common.{refl, sym, ap, ◌∙◌}
use Rattle.moo_eval_frame.specs.Seen.{others_of, value_among}
use Rattle.moo_eval_slot.specs.Held.{slot_value}
use Rattle.moo_eval_slot.proofs.Names.{is_nowhere}
use Rattle.moo_eval_frame.proofs.Stored.{set_slot, set_elsewhere}
use Rattle.moo_eval_frame.proofs.variables.Variables.set_searched.Goals as goal

pub returns-in-Some-clause-own : goal.returns-in-Some-clause-own
returns-in-Some-clause-own c =
    let found = c.in-Some.ensures in
    let old = c.args.self.now in
    ap (λ own. slot_value own.names own.values (value_among (others_of old.others))) c.set.ensures
    ∙ set_slot c.args.name.now c.args.value old.own.names old.own.values (value_among (others_of old.others)) c.in-Some.slot (sym found.there) found.within

pub returns-in_ok-push_other-in-None-clause-own : goal.returns-in_ok-push_other-in-None-clause-own
returns-in_ok-push_other-in-None-clause-own c =
    let own = c.args.self.now.own in
    rw (c.in_ok-push_other-in-None.ensures, c.in_ok-name-in-None.ensures, c.text.ensures) (set_elsewhere c.args.name.now _ own.names own.values (others_of c.args.self.now.others) refl (is_nowhere c.args.name.now own.names own.values (sym c.in-None.ensures.there)))
