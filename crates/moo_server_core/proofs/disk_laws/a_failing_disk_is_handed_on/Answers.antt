use Rattle.std.proofs.Common.{sym, subst}
use Rattle.moo_disk.specs.FailAt.{inner_of}
use Rattle.moo_server_core.proofs.HandedOn.{keeps_same}
use Rattle.moo_server_core.proofs.disk_laws.a_failing_disk_is_handed_on.Goals as goal

pub returns-clause-put_in : goal.returns-clause-put_in
returns-clause-put_in g c disk failing is = record {
  main = λ h. keeps_same g.D.Disk.kind disk (inner_of failing) is;
  honest_still = λ h. subst g.D.Disk.kind.honest (sym is) h;
}

pub returns-clause-taken_out : goal.returns-clause-taken_out
returns-clause-taken_out g c failing disk is = record {
  main = λ h. keeps_same g.D.Disk.kind (inner_of failing) disk is;
  honest_still = λ h. subst g.D.Disk.kind.honest (sym is) h;
}

pub returns-clause-put_again : goal.returns-clause-put_again
returns-clause-put_again g c old new is = record {
  main = λ h. keeps_same g.D.Disk.kind (inner_of old) (inner_of new) is;
  honest_still = λ h. subst g.D.Disk.kind.honest (sym is) h;
}
