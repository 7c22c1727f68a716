use Rattle.std.proofs.Common.{refl}
use Rattle.moo_server_core.specs.Server.{state_of}
use Rattle.moo_server_core.proofs.Out.{logged_out}
use Rattle.moo_server_core.proofs.server_core.ServerCore.take_log.Goals as goal

pub returns-clause-hands : goal.returns-clause-hands
returns-clause-hands g c =
    let out = c.take_log.ensures in
    record {
      same = record {
        state = λ i. record (state_of g.S.Application.layer c.args.self.now) { sessions = out.state i };
        writing = refl;
        halted = refl;
        under_way = out.under_way;
      };
      waiting = logged_out g.S.Application.layer c.take_log.result.items c.args.self.now.sessions c.take_log.new.self out;
    }
