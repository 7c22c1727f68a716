use Rattle.std.proofs.Common.{Option, sym, subst}
use Rattle.moo_server_core.specs.declared.server_core.Open.{Open}
use Rattle.moo_server_core.specs.Server.{OpenFollows}
use Rattle.moo_server_core.proofs.laws.output_may_be_taken.Goals as goal

pub returns : goal.returns
returns g c one other disk same follows = record {
  still = same.under_way follows.still;
  continues = subst (λ (w : Option Open). OpenFollows g.D.Disk.kind w disk) (sym same.writing) follows.continues;
}
