use Rattle.std.proofs.Common.{◌∙◌}
use Rattle.std.specs.Prelude.{◌||◌, if◌then◌else◌}
use Rattle.moo_server_core.specs.declared.event.Course.TheVariants.{Closing, Running}
use Rattle.moo_server_core.specs.Meaning.{begun_at}
use Rattle.moo_server_core.proofs.server_core.ServerCore.start.Goals as goal

pub returns-clause-begins : goal.returns-clause-begins
returns-clause-begins g c =
    let l = g.S.Application.layer in
    let start = c.in_ok-sessions.ensures.starts in
    let sessions = l.state c.in_ok-sessions.sessions in
    record {
      told = start.told;
      sessions = sessions;
      starts = start.starts;
      out_is = c.over.ensures.waiting ∙ start.out;
      state_is = c.over.ensures.state
          ∙ (λ i. begun_at c.args.moment (start.asks i || start.shuts i) (if start.shuts i then Closing else Running) (l.meaning.interval sessions) sessions);
    }
