use Rattle.std.proofs.Common.{Bool, subst}
use Rattle.std.specs.Io.KnownBytes.{Appends}
use Rattle.moo_cli_script.specs.Works.{printed_of}
use Rattle.moo_cli_script.proofs.playing.play_work.Goals as goal

pub returns-in_ok-hand_out-in-Ok-clause-next : goal.returns-in_ok-hand_out-in-Ok-clause-next
returns-in_ok-hand_out-in-Ok-clause-next g c =
    let handed = c.in_ok-hand_out-in-Ok.ensures in (
      handed.fits,
      c.in-Ok.script,
      c.in-Ok.ensures.does,
      handed.handed,
      subst (λ (b : Bool). Appends (g.O.Write.contents c.args.output.now) (g.O.Write.contents c.hand_out.new.output) (printed_of g.S.Application.layer b c.in-Ok.script)) c.is_show-show.ensures handed.text,
    )
