use Rattle.std.proofs.Common.{◌∙◌, sym, ap, length}
use Rattle.std.specs.Option.{unwrap_or}
use Rattle.std.specs.List.{position}
use Rattle.moo_world_object.specs.Verbs.{fits_verb}
use Rattle.moo_world_object.specs.declared.verb.Need.TheVariants.{Any}
use Rattle.moo_command.specs.Seen.{command_of}
use Rattle.moo_command.proofs.Choosing.{none_before}
use Rattle.moo_command.proofs.choice.position_meant.Goals as goal

pub position_from-requires : goal.position_from-requires
position_from-requires c =
    let found = c.verb_position_named.ensures
    ∙ ap (λ name. position (fits_verb Any name) c.args.object.now.verbs) c.requires
    ∙ ap (position (fits_verb Any c.args.wanted.now.command.now.verb)) (sym c.verbs-verbs.ensures) in
    let first = c.unwrap_or-first.ensures ∙ ap (λ place. unwrap_or place (length c.verbs-verbs.result.now)) found in
    record { before = none_before (command_of c.args.wanted.now.command.now) c.args.wanted.now.looked_on c.verbs-verbs.result.now c.unwrap_or-first.result first }
