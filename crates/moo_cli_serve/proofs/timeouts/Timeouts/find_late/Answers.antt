use Rattle.moo_cli_serve.specs.Silence.{is_silent}
use Rattle.moo_cli_serve.proofs.Hearing.{all_late}
use Rattle.moo_cli_serve.proofs.timeouts.Timeouts.find_late.Goals as goal

pub returns-clause-late : goal.returns-clause-late
returns-clause-late g c =
    all_late g.S.Application.layer (is_silent c.find.new.self c.args.now) c.args.server.now
    c.in_ok-strangers.strangers.items c.in_ok-silent.silent.items c.deref.result.now c.in_ok-late.late.items
    c.in_ok-strangers.ensures.late c.in_ok-silent.ensures.silent c.deref.ensures.value c.in_ok-late.ensures
