use Rattle.std.proofs.lemmas.Result.{err_from_is_err_and}
use Rattle.moo_session_task.specs.Seen.{seen_answer}
use Rattle.moo_session_task.proofs.Steps.{next_run, next_none}
use Rattle.moo_session_task.proofs.hooks.run_next.Goals as goal

pub returns-in_default : goal.returns-in_default
returns-in_default c = next_none c.args.moment c.args.live.now c.next_hook.new.self c.in_default.ensures.none.0 c.in_default.ensures.none.1

pub returns-in_err-_answer : goal.returns-in_err-_answer
returns-in_err-_answer c = let p = err_from_is_err_and c.from_residual.result c.from_residual.ensures.1 in rw p.1 tt

pub returns : goal.returns
returns c =
    let n = c.in-Some.ensures.some in
    next_run c.args.moment c.args.live.now c.call_hook.new.live c.next_hook.new.self c.in-Some.hook n.0 (seen_answer c.in_ok-_answer._answer) n.1 n.2 c.in_ok-_answer.ensures
