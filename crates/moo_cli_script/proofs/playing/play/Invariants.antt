use Rattle.std.proofs.Common.{◌-◌, ◌+◌, ◌≤◌}
use Rattle.moo_cli_io.specs.Watching.{most_reads}
use Rattle.moo_cli_script.specs.Script.{Fits}
use Rattle.moo_cli_script.proofs.Played.{HasPlayed}
use Rattle.moo_cli_script.proofs.playing.play.Given as goal

abbrev pub invariant-loop-script : goal.invariant-loop-script
invariant-loop-script g l = record {
  fits : Fits g.S.Application.layer l.script;
  played : HasPlayed g.S.Application.layer l.fn.script l.script l.number (g.I.Read.remaining l.initial.input) (g.I.Read.remaining l.input)
      (g.O.Write.contents l.initial.output) (g.O.Write.contents l.output);
  fewer : l.number + l.initial.watch.reads ≤ l.watch.reads;
}

abbrev pub decreases-loop-script : goal.decreases-loop-script
decreases-loop-script g l = most_reads - l.watch.reads
