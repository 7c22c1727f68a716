use Rattle.moo_cli_serve.proofs.beginning.begin.Goals as goal

pub returns-in-Ok-clause-begun : goal.returns-in-Ok-clause-begun
returns-in-Ok-clause-begun g c =
    let opened = c.in-Ok.ensures.opened in
    record { saved = opened.0; spelled = opened.1; opened = opened.2; spare = c.in-Ok.ensures.spare }

pub returns-in-Err-clause-refused : goal.returns-in-Err-clause-refused
returns-in-Err-clause-refused g c = record {
  text = c.in-Err.ensures.refused;
  none = λ h f is saved spells. c.in-Err.ensures.accepted h saved spells f is;
  device = c.in-Err.ensures.device;
  main = c.in-Err.ensures.main;
  spare = c.in-Err.ensures.spare;
  reads = c.open.ensures.reads;
}
