use Rattle.std.proofs.Common.{◌∙◌, sym, ap}
use Rattle.std.specs.Option.{unwrap_or}
use Rattle.std.specs.List.{position}
use Rattle.moo_world_table.specs.World.{nothing}
use Rattle.moo_command.specs.Choice.{is_meant}
use Rattle.moo_command.specs.Seen.{command_of}
use Rattle.moo_command.proofs.choice.meant_in.Goals as goal

pub returns-in-Some : goal.returns-in-Some
returns-in-Some c =
    c.position_meant.ensures
    ∙ ap (λ slot. position (is_meant (command_of c.args.wanted.now.command.now) c.args.wanted.now.looked_on) (unwrap_or slot nothing).verbs) (sym c.in-Some.is)
