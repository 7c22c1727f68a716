use Rattle.moo_cli_serve.proofs.Unheard.{silent_since}
use Rattle.moo_cli_serve.proofs.laws.who_is_silent_has_sent_nothing.Goals as goal

pub returns : goal.returns
returns g c first limits start begun rounds mid end makes turns k is =
    silent_since g.S.Application.layer g.D.Disk.kind first limits start begun rounds mid end makes turns k is
