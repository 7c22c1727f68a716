use Rattle.std.proofs.Common.{[], Bool, refl, sym, ap}
use Rattle.std.specs.Prelude.{if◌then◌else◌}
use Rattle.moo_server_core.specs.Application.{silence}
use Rattle.moo_server_core.specs.Server.{waiting_of}
use Rattle.moo_cli_serve.proofs.Coursing.{hands_none, unheard}
use Rattle.moo_cli_serve.proofs.giving.forget.Goals as goal

pub returns-in_default : goal.returns-in_default
returns-in_default g c = record {
  handed = (silence, hands_none g.S.Application.layer c.args.server.now);
  waiting = λ k. sym (ap (λ (b : Bool). if b then [] else (waiting_of g.S.Application.layer c.args.server.now).sent k) (unheard c.args.event.now c.in_default.not-Hangup k));
  log = refl;
}
