use Rattle.std.proofs.Common.{ap}
use Rattle.slab.specs.Slab.{Slab, get}
use Rattle.moo_cli_web_listener.specs.declared.caller.Caller.{Caller}
use Rattle.moo_cli_web_listener.proofs.Stepping.{keeps_one}
use Rattle.moo_cli_web_listener.proofs.listener.WebListener.keep.Goals as goal

pub returns-clause-accepts : goal.returns-clause-accepts
returns-clause-accepts c are =
    keeps_one c.args.self.now.callers c.make_room.new.self.callers c.reserve.new.self c.insert_reserved.new.self c.insert_reserved.result c.new-caller.result (c.make_room.ensures.room are)
    (λ k. ap (λ (callers : Slab Caller). get callers k) c.reserve.ensures.rest_kept) c.insert_reserved.ensures.was_vacant c.insert_reserved.ensures.updates
