-- How a state of a task relates to one that comes after it.
use Rattle.std.specs.Prelude.{◌≡◌, ◌≤◌, List, ◌++◌}
use Rattle.moo_eval_frame.specs.declared.notice.Notice.{Notice}
use Rattle.moo_eval_access.specs.State.{State}

-- The second state has at most as many ticks left as the first. It has all notices of the first, unchanged and in their
-- order, before any others.
pub record Later (s s' : State) : Type 0 where
  pub ticks : s'.ticks ≤ s.ticks
  pub added : List Notice
  pub notices : s'.notices ≡ s.notices ++ added
