use Rattle.std.proofs.Common.{◌≡◌, ◌≢◌, ◌↔◌}
use Rattle.std.specs.Prelude.{All}
use Rattle.moo_server_core.specs.Seen.{Flush, seen}
use Rattle.moo_server_core.specs.Server.{Follows, IsAlive, with_disk}
use Rattle.moo_server_core.proofs.Running.{Goes}
use Rattle.moo_server_core.proofs.server_core.ServerCore.run.Given as goal

abbrev pub invariant-loop-done : goal.invariant-loop-done
invariant-loop-done g l = record {
  goes : Goes g.S.Application.layer g.D.Disk.kind l.fn.self l.self l.fn.disk l.disk l.events l.done;
  follows : Follows g.S.Application.layer g.D.Disk.kind (with_disk l.self l.disk);
  alive : IsAlive l.self;
  still : All (λ event. seen event ≢ Flush) l.events → l.disk ≡ l.fn.disk;
  honest : g.D.Disk.kind.honest l.fn.disk ↔ g.D.Disk.kind.honest l.disk;
}
