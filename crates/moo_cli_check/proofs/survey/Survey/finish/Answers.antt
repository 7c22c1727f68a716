use Rattle.std.proofs.Common.{Some, sym, subst}
use Rattle.moo_dbtext_record.specs.declared.fault.DbFault.{DbFault}
use Rattle.moo_cli_check.specs.Reading.{IsWholly}
use Rattle.moo_cli_check.proofs.Ended.{whole_read, whole_stops}
use Rattle.moo_cli_check.proofs.survey.Survey.finish.Goals as goal

pub returns-in-Err : goal.returns-in-Err
returns-in-Err c = λ bytes h.
    subst (λ (e : DbFault). IsWholly bytes c.args.self.faults.items (Some e)) (sym c.from.ensures) (whole_stops c.args.self bytes c.in-Err.fault h (c.in-Err.ensures.spare h.going bytes h.at))

pub returns : goal.returns
returns c = λ bytes h. let t = c.in_default.ensures.spare h.going bytes h.at in whole_read c.args.self bytes t.0 h t.1
