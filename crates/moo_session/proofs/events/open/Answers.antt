use Rattle.std.proofs.Common.{◌∙◌, ap}
use Rattle.moo_session_connection.specs.Connections.{Connections, is_open}
use Rattle.moo_session_connection.specs.Changes.{joined}
use Rattle.moo_session_task.specs.Session.{Session, in_connections}
use Rattle.moo_session.proofs.Steps.{changed_so, no_words_fit, opened}
use Rattle.moo_session.proofs.events.open.Goals as goal

pub join-requires : goal.join-requires
join-requires c = ap (λ (x : Connections). is_open c.args.number x) c.connections_mut.ensures.value ∙ c.requires

pub log_in-requires : goal.log_in-requires
log_in-requires c = no_words_fit c.new.result.items c.new.ensures.items

pub returns : goal.returns
returns c =
    let s : Session = c.args.live.now.session in
    opened c.run_hooks.result c.args.moment c.args.number c.args.live.now (in_connections (λ _. c.join.new.self) s) c.new.result.items c.in_ok-line.line c.log_in.new.live c.run_hooks.new.live
    (changed_so s c.connections_mut.result.now c.join.new.self (joined c.args.number c.args.moment) c.connections_mut.ensures.value c.in_ok-join.ensures) c.new.ensures.items c.in_ok-line.ensures c.in_ok-log_in.ensures c.run_hooks.ensures
