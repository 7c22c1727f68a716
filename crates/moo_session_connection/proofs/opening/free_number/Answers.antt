use Rattle.std.proofs.Common.{sym, ◌∙◌, ap}
use Rattle.std.specs.Prelude.{position}
use Rattle.moo_session_connection.specs.Clients.{is_number}
use Rattle.moo_session_connection.proofs.Places.{without_at, without_nowhere}
use Rattle.moo_session_connection.proofs.opening.free_number.Goals as goal

pub returns-in-Some : goal.returns-in-Some
returns-in-Some c =
    c.remove-number.ensures.items
    ∙ sym (without_at (is_number c.args.number) c.args.leaving.now.items c.in-Some.place c.remove-number.result (ap (position (is_number c.args.number)) (sym c.deref.ensures.value) ∙ sym c.place_of.ensures ∙ c.in-Some.is))

pub returns-in_default : goal.returns-in_default
returns-in_default c = sym (without_nowhere (is_number c.args.number) c.args.leaving.now.items (ap (position (is_number c.args.number)) (sym c.deref.ensures.value) ∙ sym c.place_of.ensures ∙ c.in_default.is))
