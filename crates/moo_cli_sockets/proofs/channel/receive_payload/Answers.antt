use Rattle.std.proofs.Common.{◌++◌}
use Rattle.websocket.specs.Stream.{read_all}
use Rattle.moo_cli_sockets.proofs.Keeping.{heard}
use Rattle.moo_cli_sockets.proofs.channel.receive_payload.Goals as goal

pub returns : goal.returns
returns c =
    let was = c.args.channel.now in
    let taken = c.take_payload.ensures in
    heard (read_all was.endpoint.context (was.endpoint.input.items ++ c.args.bytes.now)) was c.receive.new.self c.take_payload.new.self c.take_payload.result.items
    c.in_ok-receive.ensures.accepts c.receive.ensures.heard taken.payload taken.rest taken.silence taken.same.3 taken.same.2
