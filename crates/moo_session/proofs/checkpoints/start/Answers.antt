use Rattle.std.proofs.Common.{◌∙◌, ap}
use Rattle.moo_session_task.specs.Session.{Session}
use Rattle.moo_session.specs.Events.{all_parted}
use Rattle.moo_session.proofs.Steps.{started}
use Rattle.moo_session.proofs.checkpoints.start.Goals as goal

pub returns : goal.returns
returns c =
    started c.args.moment c.args.players.now c.args.world c.part_all.new.session c.run_hooks.new.live c.call_own_hook.new.live c.in_ok-args.args
    (c.in_ok-part_all.ensures ∙ ap (λ (s : Session). all_parted c.args.players.now s) c.new.ensures) c.in_ok-run_hooks.ensures c.in_ok-args.ensures c.in_ok-call_own_hook.ensures
