use Rattle.std.proofs.Common.{◌≡◌, ℤ, Some, None, sym, ◌∙◌, subst, to_z, of_z, to_z-of_z, w32, SFits, rules}
use Rattle.std.specs.Prelude.{position}
use Rattle.moo_session_connection.specs.Clients.{is_played_by}
use Rattle.moo_session_connection.proofs.Places.{left_nowhere, left_answer}
use Rattle.moo_session_connection.proofs.Rows.{none_found, gone_answer}
use Rattle.moo_session_connection.proofs.connections.Connections.displace.Goals as goal

pub returns-in-Some-clause-left : goal.returns-in-Some-clause-left
returns-in-Some-clause-left c =
    let same : to_z w32 (of_z w32 c.args.player) ≡ c.args.player = (let fits : SFits w32 c.args.player = search rules in to_z-of_z fits) in
    let along : ℤ → Type 0 = λ who. position (is_played_by who) c.args.self.now.clients ≡ Some c.in-Some.place in
    let e : position (is_played_by c.args.player) c.args.self.now.clients ≡ Some c.in-Some.place = subst along same (sym c.place_playing.ensures.place ∙ c.in-Some.is) in
    left_answer c.leave_at.result (is_played_by c.args.player) c.args.self.now c.leave_at.new.self c.in-Some.place e c.leave_at.ensures

pub returns-in-None-clause-left : goal.returns-in-None-clause-left
returns-in-None-clause-left c =
    let same : to_z w32 (of_z w32 c.args.player) ≡ c.args.player = (let fits : SFits w32 c.args.player = search rules in to_z-of_z fits) in
    let along : ℤ → Type 0 = λ who. position (is_played_by who) c.args.self.now.clients ≡ None in
    let e : position (is_played_by c.args.player) c.args.self.now.clients ≡ None = subst along same (sym c.place_playing.ensures.place ∙ c.in-None.is) in
    sym (left_nowhere (is_played_by c.args.player) c.args.self.now e)

pub returns-in-Some-clause-gone : goal.returns-in-Some-clause-gone
returns-in-Some-clause-gone c =
    let same : to_z w32 (of_z w32 c.args.player) ≡ c.args.player = (let fits : SFits w32 c.args.player = search rules in to_z-of_z fits) in
    let along : ℤ → Type 0 = λ who. position (is_played_by who) c.args.self.now.clients ≡ Some c.in-Some.place in
    let e : position (is_played_by c.args.player) c.args.self.now.clients ≡ Some c.in-Some.place = subst along same (sym c.place_playing.ensures.place ∙ c.in-Some.is) in
    gone_answer c.leave_at.result c.args.player c.args.self.now c.leave_at.new.self c.in-Some.place e c.place_playing.ensures.own c.leave_at.ensures

pub returns-in-None-clause-gone : goal.returns-in-None-clause-gone
returns-in-None-clause-gone c =
    let same : to_z w32 (of_z w32 c.args.player) ≡ c.args.player = (let fits : SFits w32 c.args.player = search rules in to_z-of_z fits) in
    let along : ℤ → Type 0 = λ who. position (is_played_by who) c.args.self.now.clients ≡ None in
    let e : position (is_played_by c.args.player) c.args.self.now.clients ≡ None = subst along same (sym c.place_playing.ensures.place ∙ c.in-None.is) in
    none_found c.args.player c.args.self.now.clients e
