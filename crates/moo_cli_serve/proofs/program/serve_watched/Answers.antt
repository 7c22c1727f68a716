use Rattle.std.proofs.Common.{inl, inr}
use Rattle.moo_cli_serve.specs.Printed.{end_line, line_of, listening_line}
use Rattle.moo_cli_serve.proofs.PrintedLines.{fails_told, prints_more}
use Rattle.moo_cli_serve.proofs.program.serve_watched.Goals as goal

pub returns-in-Ok : goal.returns-in-Ok
returns-in-Ok g c =
    let listens = c.in-Ok.ensures.listening in
    inl (
      c.in-Ok.is_saved,
      c.in-Ok.ensures.served,
      c.end_status.ensures.status,
      listens.0,
      prints_more (g.O.Write.contents c.args.output.now) (g.O.Write.contents c.serve_file.new.output) (g.O.Write.contents c.end_status.new.output)
          c.serve_file.new.watch c.end_status.new.watch (listening_line listens.0) (end_line c.args.served.must_save c.in-Ok.is_saved)
          (inr listens.1) c.end_status.ensures.remembers c.end_status.ensures.text,
    )

pub returns-in-Err : goal.returns-in-Err
returns-in-Err g c =
    let told = c.report_fault.ensures.told in
    let printed = c.in-Err.ensures.printed in
    inr (
      told.0,
      fails_told g.S.Application.layer _ _ _ c.args.served.limits c.args.served.rounds c.in-Err.fault told.0 told.1 c.in-Err.ensures.ended,
      told.2,
      printed.0,
      printed.1,
      prints_more (g.O.Write.contents c.args.output.now) (g.O.Write.contents c.serve_file.new.output) (g.O.Write.contents c.report_fault.new.output)
          c.serve_file.new.watch c.report_fault.new.watch printed.0 (line_of told.0) printed.2 c.report_fault.ensures.remembers told.3,
    )
