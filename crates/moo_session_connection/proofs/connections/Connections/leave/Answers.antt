use Rattle.std.proofs.Common.{◌≡◌, ℤ, Some, None, sym, ◌∙◌, subst, to_z, of_z, to_z-of_z, w32, SFits, rules}
use Rattle.std.specs.Prelude.{position}
use Rattle.moo_session_connection.specs.Clients.{is_known_as}
use Rattle.moo_session_connection.proofs.Places.{left_nowhere, left_answer}
use Rattle.moo_session_connection.proofs.connections.Connections.leave.Goals as goal

pub returns-in-Some : goal.returns-in-Some
returns-in-Some c =
    let same : to_z w32 (of_z w32 c.args.who) ≡ c.args.who = (let fits : SFits w32 c.args.who = search rules in to_z-of_z fits) in
    let along : ℤ → Type 0 = λ who. position (is_known_as who) c.args.self.now.clients ≡ Some c.in-Some.place in
    let e : position (is_known_as c.args.who) c.args.self.now.clients ≡ Some c.in-Some.place = subst along same (sym c.place_known_as.ensures ∙ c.in-Some.is) in
    left_answer c.leave_at.result (is_known_as c.args.who) c.args.self.now c.leave_at.new.self c.in-Some.place e c.leave_at.ensures

pub returns-in-None : goal.returns-in-None
returns-in-None c =
    let same : to_z w32 (of_z w32 c.args.who) ≡ c.args.who = (let fits : SFits w32 c.args.who = search rules in to_z-of_z fits) in
    let along : ℤ → Type 0 = λ who. position (is_known_as who) c.args.self.now.clients ≡ None in
    let e : position (is_known_as c.args.who) c.args.self.now.clients ≡ None = subst along same (sym c.place_known_as.ensures ∙ c.in-None.is) in
    sym (left_nowhere (is_known_as c.args.who) c.args.self.now e)
