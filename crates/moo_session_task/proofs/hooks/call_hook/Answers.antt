use Rattle.std.proofs.Common.{◌∙◌, rules, w32}
use mir.Val.{SFits}
use Rattle.std.proofs.lemmas.Int.{to_z-of_z}
use Rattle.moo_session_task.proofs.Steps.{hook_called}
use Rattle.moo_session_task.proofs.hooks.call_hook.Goals as goal

pub returns : goal.returns
returns c =
    let fits : SFits w32 c.player_of-player.result = search rules in
    let player = to_z-of_z w32 c.player_of-player.result fits in
    hook_called c.call_server_verb.result c.args.moment c.args.hook _ _ _ _ _ _ c.name_of.ensures.name (player ∙ c.player_of-player.ensures) c.in_ok-args.ensures c.in_ok-argstr.ensures c.call_server_verb.ensures
