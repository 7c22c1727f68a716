use Rattle.std.proofs.Common.{◌++◌, ◌∙◌}
use Rattle.std.proofs.KnownBytes.{Appends-trans}
use Rattle.moo_cli_script.specs.Printed.{sent_line}
use Rattle.moo_cli_script.proofs.Cutting.{sent_joined}
use Rattle.moo_cli_script.proofs.printing.print_sent.Goals as goal

pub loop-line-preserved : goal.loop-line-preserved
loop-line-preserved g c =
    let done = c.loop-line.invariant.printed.0 in
    let line = sent_line c.args.c c.in-Some.line.now in
    record {
      printed = (
        done ++ line,
        Appends-trans (g.O.Write.contents c.args.output.now) (g.O.Write.contents c.loop-line.output) (g.O.Write.contents c.print_line.new.output) done line
            c.loop-line.invariant.printed.1 c.in_ok-print_line.ensures.text,
        sent_joined c.args.c c.args.sent.now done c.loop-line.rest.now c.in-Some.line.now c.in-Some.following.now c.loop-line.invariant.printed.2 c.in-Some.ensures.0,
      );
      counted = c.print_line.ensures.counted ∙ c.loop-line.invariant.counted;
    }
