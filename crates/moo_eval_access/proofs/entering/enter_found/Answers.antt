use Rattle.std.proofs.Common.{None, ◌≡◌, ◌∙◌, sym, true, rules, w32}
use mir.Val.{SFits}
use Rattle.std.proofs.lemmas.Int.{to_z-of_z}
use Rattle.moo_eval_frame.specs.Seen.{context_of, variables_of}
use Rattle.moo_eval_access.specs.Entering.{has_frame_left}
use Rattle.moo_eval_access.specs.SeenCalled.{found_of}
use Rattle.moo_eval_access.proofs.Entered.{enters}
use Rattle.moo_eval_access.proofs.entering.enter_found.Goals as goal

pub returns : goal.returns
returns c =
    let left : has_frame_left c.args.stack.now.callers ≡ true = sym c.has_frame_left.ensures ∙ c.if-not-has_frame_left.false in
    let player_fits : SFits w32 c.player_of_call-player.result = search rules in
    let caller_fits : SFits w32 c.args.stack.now.running.this = search rules in
    let this = to_z-of_z w32 c.args.this c.ranges.this in
    let player = to_z-of_z w32 c.player_of_call-player.result player_fits ∙ c.player_of_call-player.ensures in
    let caller = to_z-of_z w32 c.args.stack.now.running.this caller_fits in
    λ k. enters c.args.world.now (context_of c.args.stack.now None) (variables_of c.args.active.now.variables) c.args.active.now.programmer c.args.this c.args.name.now c.args.args (found_of c.args.found) left this player caller c.in_ok-running.ensures c.in_ok-given.ensures c.in_ok-callers.ensures
