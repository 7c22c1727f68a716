use Rattle.std.proofs.Common.{refl}
use Rattle.moo_server.proofs.Worlds.{took_log}
use Rattle.moo_server.proofs.moo_application.MooApplicationApplication.take_log.Goals as goal

pub returns : goal.returns
returns c =
    let e = c.take_log.ensures in
    took_log c.take_log.result.items c.args.self.now (record c.args.self.now { outbox = c.take_log.new.self }) refl e.taken e.none e.dropped e.bytes
