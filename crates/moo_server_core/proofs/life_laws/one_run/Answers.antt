use Rattle.moo_server_core.proofs.OneRun.{one_run_of}
use Rattle.moo_server_core.proofs.life_laws.one_run.Goals as goal

pub returns : goal.returns
returns g c single = one_run_of g.S.Application.layer.meaning g.S.Application.layer.meaning single
