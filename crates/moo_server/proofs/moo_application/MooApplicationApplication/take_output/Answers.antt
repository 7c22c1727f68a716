use Rattle.std.proofs.Common.{refl}
use Rattle.moo_server.proofs.Worlds.{took}
use Rattle.moo_server.proofs.moo_application.MooApplicationApplication.take_output.Goals as goal

pub returns : goal.returns
returns c =
    let e = c.take.ensures in
    took c.args.c c.take.result.items c.args.self.now (record c.args.self.now { outbox = c.take.new.self }) refl e.taken e.none e.dropped e.others e.log
