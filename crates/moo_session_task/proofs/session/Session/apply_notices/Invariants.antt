use Rattle.std.proofs.Common.{◌≡◌, drop}
use Rattle.moo_session_task.specs.Notices.{all_applied}
use Rattle.moo_session_task.proofs.session.Session.apply_notices.Given as goal

abbrev pub invariant-loop-notice : goal.invariant-loop-notice
invariant-loop-notice l = all_applied (drop l.notice-index l.notices) l.self ≡ all_applied l.notices l.initial.self
