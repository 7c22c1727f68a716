use Rattle.moo_cli_web_listener.specs.Callers.{IsFirst}
use Rattle.moo_cli_web_listener.proofs.listener.first_caller.Given as goal

abbrev pub invariant-loop-key : goal.invariant-loop-key
invariant-loop-key l = IsFirst l.callers l.key l.first
