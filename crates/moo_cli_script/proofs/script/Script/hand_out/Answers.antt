use Rattle.std.proofs.Common.{refl}
use Rattle.moo_cli_script.proofs.Handed.{IsPrintedTo, hands_out, on_ok_anyway}
use Rattle.moo_cli_script.proofs.script.Script.hand_out.Goals as goal

pub returns-clause-handed : goal.returns-clause-handed
returns-clause-handed g c =
    let printed : IsPrintedTo g.S.Application.layer c.args.self.now.server c.print_below.new.server c.args.self.now.top = record {
      same = c.print_below.ensures.same;
      hands = c.in_ok-print_below.ensures.handed;
      nothing = c.in_ok-print_below.ensures.nothing;
      others = c.in_ok-print_below.ensures.others;
      log = c.print_below.ensures.log;
    } in
    on_ok_anyway c.write.result
    (hands_out g.S.Application.layer c.args.self.now _ c.print_below.new.server _ printed c.take_log.ensures.hands c.take_log.ensures.others c.take_log.ensures.nothing refl refl)
