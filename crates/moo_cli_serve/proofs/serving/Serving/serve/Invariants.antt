use Rattle.std.proofs.Common.{◌≤◌}
use Rattle.moo_server_core.specs.Server.{Follows, with_disk}
use Rattle.moo_cli_serve.specs.Service.{Makes}
use Rattle.moo_cli_serve.proofs.serving.Serving.serve.Given as goal

abbrev pub invariant-loop-made : goal.invariant-loop-made
invariant-loop-made g l = record {
  follows : Follows g.S.Application.layer g.D.Disk.kind (with_disk l.self.server l.self.disk);
  makes : Makes g.S.Application.layer g.D.Disk.kind l._made l.initial.self l.self;
  upto : l._made ≤ l.fn.rounds;
}
