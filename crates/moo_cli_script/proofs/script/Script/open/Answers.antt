use Rattle.std.proofs.Common.{refl, sym, ap, arith}
use Rattle.moo_cli_script.proofs.script.Script.open.Goals as goal

pub returns-in-Ok-clause-opens : goal.returns-in-Ok-clause-opens
returns-in-Ok-clause-opens g c =
    let o = c.in-Ok.ensures.opened in
    record { saved = o.0; spelled = o.1 tt; opened = o.2; top = refl }

pub returns-in-Ok-clause-fits : goal.returns-in-Ok-clause-fits
returns-in-Ok-clause-fits g c =
    let o = c.in-Ok.ensures.opened in
    record { follows = c.in-Ok.ensures.follows; alive = o.2.alive; moment_is = sym (ap (λ s. s.moment) o.2.begins.state_is); top_fits = omega arith }

pub returns-in-Err-clause-refused : goal.returns-in-Err-clause-refused
returns-in-Err-clause-refused g c = record {
  text = c.in-Err.ensures.refused tt;
  none = λ f is saved spells. c.in-Err.ensures.accepted tt saved spells f is;
  left = c.open.new.disk;
  reads = c.open.ensures.reads;
  device = c.in-Err.ensures.device;
}
