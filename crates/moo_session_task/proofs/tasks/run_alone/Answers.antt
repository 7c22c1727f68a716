use Rattle.std.proofs.Common.{List, ◌∙◌, ap, refl}
use Rattle.moo_eval_frame.specs.declared.surroundings.Connection.{Connection}
use Rattle.moo_eval_frame.specs.Surroundings.{Surroundings}
use Rattle.moo_session_connection.specs.Connections.{Connections, around}
use Rattle.moo_session_connection.specs.Clients.{row_of}
use Rattle.moo_session_task.proofs.Steps.{alone}
use Rattle.moo_session_task.proofs.tasks.run_alone.Goals as goal

pub returns-clause-ends : goal.returns-clause-ends
returns-clause-ends c =
    let near : List Connection → Surroundings = λ row. record { moment = c.args.moment; connections = row } in
    alone c.run_task-ended.result (near c.row.result.now) (around c.args.moment c.args.live.now.session.connections) c.args.start c.args.live.now.world c.run_task-ended.new.world
    c.new.result.items c.run_task-ended.new.env.notices.items
    (ap near c.row.ensures ∙ ap (λ (s : Connections). near (row_of s.clients)) c.connections.ensures)
    c.new.ensures.items
    c.run_task-ended.ensures.ends

pub returns-clause-kept : goal.returns-clause-kept
returns-clause-kept c = refl
