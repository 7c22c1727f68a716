-- Definitions of private clauses: which lines are events of one connection.
use Rattle.std.specs.Prelude.{⊤}
use Rattle.moo_cli_script.specs.ScriptLines.{Step, opening, typing, sending, hanging_up, moment, flushing, failing, reopening, crashing, showing}

abbrev pub IsOfConnection : Step → Type 0
IsOfConnection (opening c) = ⊤
IsOfConnection (typing c text) = ⊤
IsOfConnection (sending c bytes) = ⊤
IsOfConnection (hanging_up c) = ⊤
IsOfConnection (moment t) = ⊥
IsOfConnection flushing = ⊥
IsOfConnection (failing k effect) = ⊥
IsOfConnection reopening = ⊥
IsOfConnection (crashing i) = ⊥
IsOfConnection showing = ⊥
