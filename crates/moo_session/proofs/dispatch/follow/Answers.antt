use Rattle.std.proofs.Common.{sym, ◌∙◌, w32}
use Rattle.std.proofs.lemmas.Int.{to_z-of_z}
use Rattle.moo_command.specs.Seen.{command_of}
use Rattle.moo_session_task.specs.Seen.{seen_answer}
use Rattle.moo_session.specs.Dispatch.{is_done}
use Rattle.moo_session.proofs.DispatchSteps.{command_fits, followed}
use Rattle.moo_session.proofs.dispatch.follow.Goals as goal

pub returns-then-is_true_answer : goal.returns-then-is_true_answer
returns-then-is_true_answer c = is_done (sym c.is_true_answer.ensures ∙ c.if-is_true_answer.true)

pub run_verb-requires : goal.run_verb-requires
run_verb-requires c = command_fits c.words_are_light.ensures.typed c.args.live.now.world _ c.args.typed.line (command_of c.in_ok-command.command) c.requires.line c.in_ok-command.ensures

pub returns : goal.returns
returns c =
    let player = to_z-of_z w32 c.args.player c.ranges.player in
    followed c.run_verb.result c.args.moment c.args.number c.args.player c.args.typed.line (seen_answer c.args.answer.now) (command_of c.in_ok-command.command) c.args.live.now c.run_verb.new.live
    (sym c.is_true_answer.ensures ∙ c.if-is_true_answer.false) (simp player at c.in_ok-command.ensures) (simp player at c.run_verb.ensures)
