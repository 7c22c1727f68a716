use Rattle.std.proofs.Common.{ℕ, List, ◌∙◌, ap}
use Rattle.moo_server_core.specs.Application.{then_out}
use Rattle.moo_server_core.specs.Server.{logged_alone}
use Rattle.moo_cli_serve.proofs.Coursing.{hands_join}
use Rattle.moo_cli_serve.proofs.leaving.log_lines.Goals as goal

pub returns : goal.returns
returns g c =
    let shown = c.show.ensures.handed in
    let lines = logged_alone c.take_log-lines.result.items in
    record {
      handed = (then_out shown.0 lines, hands_join g.S.Application.layer shown.0 lines c.args.server.now c.show.new.server c.take_log-lines.new.self shown.1 c.take_log-lines.ensures.hands);
      none = c.take_log-lines.ensures.nothing;
      shows = λ on. ap (λ (sent : ℕ → List ℕ). sent 65535) c.take_log-lines.ensures.others ∙ c.show.ensures.shows on;
      unsent = λ off. c.take_log-lines.ensures.others ∙ c.show.ensures.unsent off;
      others = λ k differs. ap (λ (sent : ℕ → List ℕ). sent k) c.take_log-lines.ensures.others ∙ c.show.ensures.others k differs;
      console_is = c.show.ensures.state;
    }
