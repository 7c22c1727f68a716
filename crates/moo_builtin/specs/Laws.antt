-- What plain calls keep to.
use Rattle.std.specs.Prelude.{◌≡◌, ℕ, List, Result, Err}
use Rattle.moo_value.specs.Tree.{Tree}
use Rattle.moo_builtin_value.specs.Calls.{Raised}
use Rattle.moo_world_table.specs.World.{World}
use Rattle.moo_builtin.specs.Telling.{Faults, Choice, PassesPrograms, chosen_by}
use Rattle.moo_builtin.specs.declared.call.Caller.{Caller}
use Rattle.moo_builtin.specs.Calls.{CallsPlain}

-- for one input a call has at most one result, whichever faults are chosen for texts that are no programs
abbrev pub OneResult : Type 0
OneResult = (choice : Choice) → PassesPrograms choice → (name : List ℕ) (args : List Tree) (w v u : World) (c : Caller) (r q : Result Tree Raised) → CallsPlain (chosen_by choice) name args w c r v → CallsPlain (chosen_by choice) name args w c q u → (r ≡ q) × (v ≡ u)

-- a raise leaves the world as it is
abbrev pub RaisesChangeNothing : Type 0
RaisesChangeNothing = (name : List ℕ) (args : List Tree) (w v : World) (c : Caller) (e : Raised) → CallsPlain Faults name args w c (Err e) v → v ≡ w
