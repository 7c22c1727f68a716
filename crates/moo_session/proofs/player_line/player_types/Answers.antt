use Rattle.std.proofs.Common.{◌≡◌, ◌∷◌, ℕ, ℤ, List, sym, subst, ◌∙◌, ap, to_z, of_z, to_z-of_z, w32, SFits, rules}
use Rattle.std.specs.Prelude.{IsSomeAnd}
use Rattle.moo_builtin.specs.Telling.{Faults}
use Rattle.moo_command.specs.FirstWord.{IsTyped}
use Rattle.moo_session_line.specs.Rest.{IsLine}
use Rattle.moo_session_connection.specs.Connections.{client_here}
use Rattle.moo_session_connection.specs.Changes.{with_changed, with_prefix, with_suffix}
use Rattle.moo_session_task.specs.Session.{Session, in_connections}
use Rattle.moo_session.specs.Dispatch.{Commanded}
use Rattle.moo_session.specs.DotProgram.{programming_begun}
use Rattle.moo_session.specs.declared.player_line.LineKind.TheVariants as kind
use Rattle.moo_session.specs.Input.{kind_of}
use Rattle.moo_session.proofs.Steps.{changed_so}
use Rattle.moo_session.proofs.InputSteps.{nothing_typed, prefix_typed, suffix_typed, program_typed, command_typed}
use Rattle.moo_session.proofs.player_line.player_types.Goals as goal

pub returns-in_default : goal.returns-in_default
returns-in_default c =
    nothing_typed (client_here c.args.number c.args.live.now.session.connections) c.args.moment c.args.number c.args.player c.args.line.now c.args.live.now c.requires.here (rw c.in_default.is at c.in_ok-typed.ensures.none)

pub returns-in-Prefix : goal.returns-in-Prefix
returns-in-Prefix c =
    let t = c.in-Some.typed in
    let s : Session = c.args.live.now.session in
    let lent = c.connections_mut-connections in
    let k : kind_of t.verb ≡ kind.Prefix = ap kind_of (sym c.as_bytes.ensures.value) ∙ sym c.kind_of.ensures ∙ c.in-Prefix.is in
    prefix_typed (client_here c.args.number c.args.live.now.session.connections) c.args.moment c.args.number c.args.player c.args.line.now t.verb t.rest t.args.items c.args.live.now (in_connections (λ _. c.set_prefix.new.self) s) c.requires.here (rw c.in-Some.is at c.in_ok-typed.ensures.some) k
    (changed_so s lent.result.now c.set_prefix.new.self (with_changed c.args.number (with_prefix t.rest)) lent.ensures.value c.set_prefix.ensures)

pub returns-in-Suffix : goal.returns-in-Suffix
returns-in-Suffix c =
    let t = c.in-Some.typed in
    let s : Session = c.args.live.now.session in
    let lent = c.connections_mut-connections-in-Suffix in
    let k : kind_of t.verb ≡ kind.Suffix = ap kind_of (sym c.as_bytes.ensures.value) ∙ sym c.kind_of.ensures ∙ c.in-Suffix.is in
    suffix_typed (client_here c.args.number c.args.live.now.session.connections) c.args.moment c.args.number c.args.player c.args.line.now t.verb t.rest t.args.items c.args.live.now (in_connections (λ _. c.set_suffix.new.self) s) c.requires.here (rw c.in-Some.is at c.in_ok-typed.ensures.some) k
    (changed_so s lent.result.now c.set_suffix.new.self (with_changed c.args.number (with_suffix t.rest)) lent.ensures.value c.set_suffix.ensures)

pub returns-in_ok-begin_programming-in-Program : goal.returns-in_ok-begin_programming-in-Program
returns-in_ok-begin_programming-in-Program c =
    let t = c.in-Some.typed in
    let k : kind_of t.verb ≡ kind.Program = ap kind_of (sym c.as_bytes.ensures.value) ∙ sym c.kind_of.ensures ∙ c.in-Program.is in
    let who : to_z w32 (of_z w32 c.args.player) ≡ c.args.player = (let fits : SFits w32 c.args.player = search rules in to_z-of_z fits) in
    program_typed (client_here c.args.number c.args.live.now.session.connections) c.args.moment c.args.number c.args.player (to_z w32 (of_z w32 c.args.player)) c.args.line.now t.verb t.rest t.args.items c.args.live.now c.begin_programming.new.session c.requires.here (rw c.in-Some.is at c.in_ok-typed.ensures.some) k who
    (c.in_ok-begin_programming-in-Program.ensures ∙ ap (λ (a : List (List ℕ)). programming_begun c.args.live.now.world c.args.number (to_z w32 (of_z w32 c.args.player)) a c.args.live.now.session) c.deref.ensures.value)

pub command-requires-clause-typed : goal.command-requires-clause-typed
command-requires-clause-typed c =
    let t = c.in-Some.typed in
    let same : t.line ≡ c.args.line.now = rw c.in-Some.is at c.in_ok-typed.ensures.line in
    subst (λ (line : List ℕ). IsTyped line t.verb t.rest t.args.items) (sym same) (rw c.in-Some.is at c.in_ok-typed.ensures.some)

pub command-requires-clause-line : goal.command-requires-clause-line
command-requires-clause-line c =
    let same : c.in-Some.typed.line ≡ c.args.line.now = rw c.in-Some.is at c.in_ok-typed.ensures.line in
    subst IsLine (sym same) c.requires.line

pub returns-in_ok-command-in-Command : goal.returns-in_ok-command-in-Command
returns-in_ok-command-in-Command c =
    let t = c.in-Some.typed in
    let o = client_here c.args.number c.args.live.now.session.connections in
    let same : t.line ≡ c.args.line.now = rw c.in-Some.is at c.in_ok-typed.ensures.line in
    let k : kind_of t.verb ≡ kind.Command = ap kind_of (sym c.as_bytes.ensures.value) ∙ sym c.kind_of.ensures ∙ c.in-Command.is in
    let z : ℤ = to_z w32 (of_z w32 c.args.player) in
    let who : z ≡ c.args.player = (let fits : SFits w32 c.args.player = search rules in to_z-of_z fits) in
    command_typed o c.args.moment c.args.number c.args.player z c.args.line.now t.verb t.rest t.args.items c.args.live.now c.command.new.live (rw c.in-Some.is at c.in_ok-typed.ensures.some) k who
    (subst (λ (line : List ℕ). IsSomeAnd o (λ client. Commanded Faults c.args.moment c.args.number client z (t.verb ∷ t.args.items) line c.args.live.now c.command.new.live)) same c.in_ok-command-in-Command.ensures)
