use Rattle.std.proofs.Common.{◌≡◌}
use Rattle.moo_cli_web_listener.proofs.listener.WebListener.take_upgrade.Given as goal

abbrev pub invariant-loop-key : goal.invariant-loop-key
invariant-loop-key l = l.self ≡ l.initial.self
