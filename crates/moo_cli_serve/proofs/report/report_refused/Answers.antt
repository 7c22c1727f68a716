use Rattle.std.proofs.Common.{inl, refl, ◌∙◌}
use Rattle.moo_checkpoint.specs.declared.open_fault.OpenFault.TheVariants as opening
use Rattle.moo_cli_io.specs.Told.{fault_line}
use Rattle.moo_cli_serve.specs.declared.fault.ServeFault.TheVariants as the
use Rattle.moo_cli_serve.proofs.PrintedLines.{prints_once}
use Rattle.moo_cli_serve.proofs.report.report_refused.Goals as goal

pub returns-in-Ok-clause-told : goal.returns-in-Ok-clause-told
returns-in-Ok-clause-told g c = (
  the.Open (opening.Db c.args.fault),
  inl refl,
  refl,
  prints_once c.print.result (g.O.Write.contents c.args.output.now) (g.O.Write.contents c.print.new.output) c.print.new.self c.deref.result.now (fault_line c.args.fault)
      c.print.ensures.text c.print.ensures.failed (c.deref.ensures.value ∙ c.in-Ok.ensures),
)
