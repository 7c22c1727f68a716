use Rattle.std.proofs.Common.{take}
use Rattle.moo_cli_serve.specs.Silence.{Listens}
use Rattle.moo_cli_serve.proofs.silence.Silence.hear.Given as goal

abbrev pub invariant-loop-event : goal.invariant-loop-event
invariant-loop-event l = Listens l.now (take l.event-index l.events) l.initial.self l.self
