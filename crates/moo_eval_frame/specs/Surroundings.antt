-- What is round a task, and stays while it runs.
use Rattle.std.specs.Prelude.{ℕ, ◌+◌, ℤ, negsuc, List}
use Rattle.moo_eval_frame.specs.declared.surroundings.Connection.{Connection}

pub record Surroundings : Type 0 where
  -- in seconds
  pub moment : ℕ
  -- those that are open, in the order of their numbers
  pub connections : List Connection

-- the number of a connection on which no one is connected: -2 - c
abbrev pub own_number : ℕ → ℤ
own_number c = negsuc (c + 1)
