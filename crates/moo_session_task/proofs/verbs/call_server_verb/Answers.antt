use Rattle.std.proofs.Common.{ℕ, ℤ, List, Option, sym, ◌∙◌, ap, to_z-of_z, w32, SFits, rules}
use Rattle.std.specs.Option.{option_map}
use Rattle.moo_eval_access.specs.declared.entering.Found.{Found}
use Rattle.moo_eval_access.specs.SeenCalled.{found_of}
use Rattle.moo_session_task.specs.Frames.{server_frame}
use Rattle.moo_session_task.specs.Tasks.{is_missing}
use Rattle.moo_session_task.proofs.Steps.{call_runs}
use Rattle.moo_session_task.proofs.verbs.call_server_verb.Goals as goal

pub returns-in_default : goal.returns-in_default
returns-in_default c = is_missing (sym c.called_verb.ensures ∙ ap (λ (o : Option Found). option_map found_of o) c.in_default.is)

pub returns : goal.returns
returns c =
    call_runs c.run.result c.args.moment c.args.verb.now c.args.player c.args.args c.args.argstr c.args.live.now c.run.new.live
    (found_of c.in-Some.found) c.in_ok-frame.frame
    (sym c.called_verb.ensures ∙ ap (λ (o : Option Found). option_map found_of o) c.in-Some.is)
    (c.in_ok-frame.ensures
    ∙ ap (λ (p : ℤ). server_frame (found_of c.in-Some.found) c.in_ok-from_slice.field-0 p c.args.args c.args.argstr) (let fits : SFits w32 c.args.player = search rules in to_z-of_z fits)
    ∙ ap (λ (n : List ℕ). server_frame (found_of c.in-Some.found) n c.args.player c.args.args c.args.argstr) c.in_ok-from_slice.ensures)
    c.run.ensures
