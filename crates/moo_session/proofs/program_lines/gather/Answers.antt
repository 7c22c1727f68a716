use Rattle.std.proofs.Common.{◌≡◌, Some, None, sym, ◌∙◌, ap, w32}
use Rattle.std.proofs.lemmas.Int.{to_z-of_z}
use Rattle.moo_builtin.specs.Telling.{Faults}
use Rattle.std.specs.Option.{option_and_then}
use Rattle.moo_session_connection.specs.declared.client.Client.{Client}
use Rattle.moo_session_connection.specs.Connections.{Connections, client_here}
use Rattle.moo_session_connection.specs.Gathering.{Gathering}
use Rattle.moo_session_connection.specs.Changes.{with_changed, with_gathering}
use Rattle.moo_session_task.specs.declared.world_state.WorldState.{WorldState}
use Rattle.moo_session_task.specs.Session.{Session, in_connections}
use Rattle.moo_session_task.specs.State.{state, in_session}
use Rattle.moo_session.specs.DotProgram.{Gathers, gathering_of, with_line}
use Rattle.moo_session.proofs.Steps.{changed_so}
use Rattle.moo_session.proofs.ProgramSteps.{of_gathered, kept_gathered, ended, kept}
use Rattle.moo_session.proofs.program_lines.gather.Goals as goal

pub returns-then-is_dot : goal.returns-then-is_dot
returns-then-is_dot c =
    let s : WorldState = c.args.live.now in
    let g = c.unwrap-gathering.result in
    let lent = c.connections_mut-connections in
    let t : WorldState = state s.world (in_connections (λ _. c.take_gathering.new.self) s.session) in
    let taken : gathering_of c.args.number s.session ≡ Some g =
    ap (λ (x : Connections). option_and_then (λ (k : Client). k.gathering) (client_here c.args.number x)) (sym lent.ensures.value) ∙ sym c.take_gathering.ensures.taken ∙ c.unwrap-gathering.ensures in
    let left : t ≡ in_session (in_connections (with_changed c.args.number (with_gathering None))) s =
    ap (λ (x : Session). state s.world x) (changed_so s.session lent.result.now c.take_gathering.new.self (with_changed c.args.number (with_gathering None)) lent.ensures.value c.take_gathering.ensures.changed) in
    let player = to_z-of_z w32 c.args.player c.ranges.player in
    of_gathered c.end_programming.result (gathering_of c.args.number s.session) g (λ (x : Gathering). Gathers Faults c.args.number c.args.player x c.args.line s c.end_programming.new.live) taken
    (ended c.end_programming.result c.args.number c.args.player g c.args.line s t c.end_programming.new.live (sym c.is_dot.ensures ∙ c.if-is_dot.true) left (simp player at c.end_programming.ensures))

pub returns : goal.returns
returns c =
    let s : WorldState = c.args.live.now in
    let g = c.unwrap-gathering.result in
    let lent = c.connections_mut-connections in
    let t : WorldState = state s.world (in_connections (λ _. c.take_gathering.new.self) s.session) in
    let again = c.connections_mut-connections-2 in
    let u : WorldState = state s.world (in_connections (λ _. c.gather.new.self) t.session) in
    let taken : gathering_of c.args.number s.session ≡ Some g =
    ap (λ (x : Connections). option_and_then (λ (k : Client). k.gathering) (client_here c.args.number x)) (sym lent.ensures.value) ∙ sym c.take_gathering.ensures.taken ∙ c.unwrap-gathering.ensures in
    let left : t ≡ in_session (in_connections (with_changed c.args.number (with_gathering None))) s =
    ap (λ (x : Session). state s.world x) (changed_so s.session lent.result.now c.take_gathering.new.self (with_changed c.args.number (with_gathering None)) lent.ensures.value c.take_gathering.ensures.changed) in
    let more : u ≡ in_session (in_connections (with_changed c.args.number (with_gathering (Some (with_line c.args.line g))))) t =
    ap (λ (x : Session). state s.world x) (changed_so t.session again.result.now c.gather.new.self (with_changed c.args.number (with_gathering (Some (with_line c.args.line g)))) again.ensures.value
    (c.gather.ensures ∙ ap (λ (x : Gathering). with_changed c.args.number (with_gathering (Some x)) again.result.now) c.in_ok-push.ensures)) in
    kept_gathered (gathering_of c.args.number s.session) g (λ (x : Gathering). Gathers Faults c.args.number c.args.player x c.args.line s u) taken
    (kept c.args.number c.args.player g c.args.line s t u (sym c.is_dot.ensures ∙ c.if-is_dot.false) left more)
