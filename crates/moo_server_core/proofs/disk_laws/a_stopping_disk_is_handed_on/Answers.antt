use Rattle.moo_disk.specs.Memory.{memory_kind}
use Rattle.moo_disk.specs.StopAt.{inner_of}
use Rattle.moo_server_core.proofs.HandedOn.{keeps_same}
use Rattle.moo_server_core.proofs.disk_laws.a_stopping_disk_is_handed_on.Goals as goal

pub returns-clause-put_in : goal.returns-clause-put_in
returns-clause-put_in c disk stopping is = record {
  main = λ h. keeps_same memory_kind disk (inner_of stopping) is;
  honest_still = λ h. h;
}

pub returns-clause-taken_out : goal.returns-clause-taken_out
returns-clause-taken_out c stopping disk is = record {
  main = λ h. keeps_same memory_kind (inner_of stopping) disk is;
  honest_still = λ h. h;
}
