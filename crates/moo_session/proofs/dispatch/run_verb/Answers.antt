use Rattle.std.proofs.Common.{◌≡◌, ℤ, Option, sym, ◌∙◌, ap, to_z, of_z, w32, SFits, rules}
use Rattle.std.proofs.Common as common
use Rattle.std.proofs.lemmas.Int.{to_z-of_z}
use Rattle.std.specs.Option.{option_map}
use Rattle.moo_eval_access.specs.declared.entering.Found.{Found}
use Rattle.moo_eval_access.specs.SeenCalled.{found_of}
use Rattle.moo_command.specs.Seen.{command_of}
use Rattle.moo_session_task.specs.Seen.{seen_answer}
use Rattle.moo_session.proofs.DispatchSteps.{verb_ran, none_ran, framed}
use Rattle.moo_session.proofs.dispatch.run_verb.Goals as goal

pub returns-in_default : goal.returns-in_default
returns-in_default c =
    let player = to_z-of_z w32 c.args.player c.ranges.player in
    let e = simp player at c.verb_to_run.ensures in
    none_ran c.send.result c.args.moment c.args.number c.args.player (command_of c.args.command) c.args.live.now c.send.new.self
    (sym e ∙ ap (λ (o : Option (ℤ × Found)). option_map (λ (m : ℤ × Found). (m.0, found_of m.1)) o) c.in_default.is) c.send.ensures

pub returns : goal.returns
returns c =
    let player = to_z-of_z w32 c.args.player c.ranges.player in
    let e = simp player at c.verb_to_run.ensures in
    let who : to_z w32 (of_z w32 c.args.player) ≡ c.args.player = (let fits : SFits w32 c.args.player = search rules in common.to_z-of_z fits) in
    let on : to_z w32 (of_z w32 c.in-Some.this) ≡ c.in-Some.this = (let fits : SFits w32 c.in-Some.this = search rules in common.to_z-of_z fits) in
    verb_ran c.args.moment c.args.number c.args.player (command_of c.args.command) c.args.live.now c.run.new.live c.in-Some.this (found_of c.in-Some.found) c.in_ok-frame.frame (seen_answer c.in_ok-_answer._answer)
    (sym e ∙ ap (λ (o : Option (ℤ × Found)). option_map (λ (m : ℤ × Found). (m.0, found_of m.1)) o) c.in-Some.is)
    (framed (found_of c.in-Some.found) (command_of c.args.command) c.in-Some.this (to_z w32 (of_z w32 c.in-Some.this)) c.args.player (to_z w32 (of_z w32 c.args.player)) c.in_ok-frame.frame c.in_ok-frame.ensures on who) c.in_ok-_answer.ensures
