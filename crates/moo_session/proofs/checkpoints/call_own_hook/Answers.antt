use Rattle.std.proofs.Common.{refl}
use Rattle.moo_session_task.specs.Seen.{seen_answer}
use Rattle.moo_session.proofs.Steps.{own_called}
use Rattle.moo_session.proofs.checkpoints.call_own_hook.Goals as goal

pub returns : goal.returns
returns c =
    own_called c.run_hooks.result c.args.moment c.args.name.now _ c.args.args c.in_ok-argstr.argstr c.args.live.now c.call_server_verb.new.live c.run_hooks.new.live (seen_answer c.in_ok-_answer._answer)
    refl c.in_ok-argstr.ensures c.in_ok-_answer.ensures c.run_hooks.ensures
