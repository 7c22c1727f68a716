use Rattle.std.proofs.Common.{◌≡◌}
use Rattle.std.specs.Io.KnownBytes.{Appends}
use Rattle.moo_server_core.specs.Server.{waiting_of}
use Rattle.moo_cli_script.specs.Script.{printed_below}
use Rattle.moo_cli_script.proofs.Handed.{IsPrintedTo}
use Rattle.moo_cli_script.proofs.handing.print_below.Given as goal

abbrev pub invariant-loop-c : goal.invariant-loop-c
invariant-loop-c g l = record {
  printed : IsPrintedTo g.S.Application.layer l.initial.server l.server l.c;
  text : Appends (g.O.Write.contents l.initial.output) (g.O.Write.contents l.output) (printed_below l.c (waiting_of g.S.Application.layer l.initial.server).sent);
  counted : l.watch.reads ≡ l.initial.watch.reads;
}
