-- Programs that are typed in.
use Rattle.std.specs.Prelude.{ℕ, List, [], ◌∷◌}
use Rattle.moo_value.specs.Text.{literal}
use Rattle.moo_eval_frame.specs.Surroundings.{Surroundings}
use Rattle.moo_eval_semantics.specs.Task.{End, value, uncaught, out_of_ticks}

-- the surroundings of a program that is typed in by nobody: the moment 0, and no connections
abbrev pub nowhere : Surroundings
nowhere = record { moment = 0; connections = [] }

-- what is shown of the end of a task
abbrev pub shown : End → List (List ℕ)
shown (value v) = literal v ∷ []
shown (uncaught lines) = lines
shown (out_of_ticks lines) = lines
