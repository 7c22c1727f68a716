use Rattle.std.proofs.Common.{rules, ◌≡◌}
use Rattle.moo_server_core.specs.Server.{waiting_of}
use Rattle.moo_cli_script.proofs.Handed.{none_printed, one_printed, text_printed}
use Rattle.moo_cli_script.proofs.handing.print_below.Goals as goal

pub loop-c-init : goal.loop-c-init
loop-c-init g c = record { printed = none_printed g.S.Application.layer c.args.server.now; text = search rules; counted = search rules }

pub loop-c-preserved : goal.loop-c-preserved
loop-c-preserved g c =
    let sent : c.deref.result.now ≡ (waiting_of g.S.Application.layer c.loop-c.server).sent c.loop-c.c = cc in
    record {
      printed =
          one_printed g.S.Application.layer c.args.server.now c.loop-c.server c.take_output-sent.new.self c.loop-c.c _ c.loop-c.invariant.printed c.take_output-sent.ensures.hands
          c.take_output-sent.ensures.nothing c.take_output-sent.ensures.others c.take_output-sent.ensures.log;
      text =
          text_printed g.S.Application.layer c.args.server.now c.loop-c.server c.loop-c.c _ _ _ c.deref.result.now c.loop-c.invariant.printed sent c.loop-c.invariant.text
          c.in_ok-print_sent.ensures.text;
      counted = search rules;
    }
