use Rattle.std.proofs.Common.{refl}
use Rattle.moo_server_core.specs.Server.{state_of}
use Rattle.moo_server_core.proofs.Out.{sent_out}
use Rattle.moo_server_core.proofs.server_core.ServerCore.take_output.Goals as goal

pub returns-clause-hands : goal.returns-clause-hands
returns-clause-hands g c =
    let out = c.take_output.ensures in
    record {
      same = record {
        state = λ i. record (state_of g.S.Application.layer c.args.self.now) { sessions = out.state i };
        writing = refl;
        halted = refl;
        under_way = out.under_way;
      };
      waiting = sent_out g.S.Application.layer c.args.c c.take_output.result.items c.args.self.now.sessions c.take_output.new.self out;
    }
