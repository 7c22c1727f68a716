use Rattle.moo_session.proofs.Steps.{parted}
use Rattle.moo_session.proofs.events.hang_up.Goals as goal

pub returns : goal.returns
returns c = parted c.run_hooks.result c.args.moment c.args.number c.args.live.now c.free.new.session c.run_hooks.new.live c.in_ok-free.ensures c.run_hooks.ensures
