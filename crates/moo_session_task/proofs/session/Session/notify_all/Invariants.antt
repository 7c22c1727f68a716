use Rattle.std.proofs.Common.{◌≡◌, drop}
use Rattle.moo_eval_control.specs.Traceback.{texts}
use Rattle.moo_session_task.specs.Sending.{all_notified}
use Rattle.moo_session_task.proofs.session.Session.notify_all.Given as goal

abbrev pub invariant-loop-line : goal.invariant-loop-line
invariant-loop-line l = all_notified l.who (texts (drop l.line-index l.lines)) l.self ≡ all_notified l.who (texts l.lines) l.initial.self
