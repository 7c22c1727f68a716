use Rattle.std.proofs.Common.{ℕ, List, inr, refl, subst}
use Rattle.moo_cli_web_frames.specs.Channels.{Loads}
use Rattle.moo_cli_sockets.proofs.socket.Socket.load.Goals as goal

pub returns-in-Ok-clause-carries : goal.returns-in-Ok-clause-carries
returns-in-Ok-clause-carries c =
    inr (
      c.in-Some.channel,
      c.load.new.self,
      c.in-Some.is,
      refl,
      subst (λ (bytes : List ℕ). Loads bytes c.in-Ok.count c.in-Some.channel c.load.new.self) c.front.ensures c.in-Ok.ensures.loads,
    )
