-- What becomes of what a task asked for.
use Rattle.std.specs.Prelude.{ℕ, List, [], ◌∷◌, ◌++◌, true, false, codes}
use Rattle.moo_eval_frame.specs.declared.notice.Notice.{Notice}
use Rattle.moo_eval_frame.specs.declared.notice.Notice.TheVariants as notice
use Rattle.moo_session_task.specs.Session.{Session}
use Rattle.moo_session_task.specs.Sending.{notified}
use Rattle.moo_session_task.specs.Leaving.{disconnected, shut_down}

abbrev pub asked_for : Session → Session
asked_for s = record s { asked = true }

abbrev pub logged : List ℕ → Session → Session
logged line s = record s { log = s.log ++ line ∷ [] }

abbrev pub applied : Notice → Session → Session
applied (notice.Notify who line) s = notified who line s
applied (notice.BootPlayer who) s = disconnected who (codes "*** Disconnected ***") s
applied (notice.SetPlayerFlag o true) s = s
applied (notice.SetPlayerFlag o false) s = disconnected o (codes "*** Disconnected ***") s
applied (notice.Recycle o) s = disconnected o (codes "*** Recycled ***") s
applied notice.DumpDatabase s = asked_for s
applied (notice.Shutdown why) s = shut_down why s
applied (notice.ServerLog line) s = logged line s

-- one after another, in their order
abbrev pub all_applied : List Notice → Session → Session
all_applied [] s = s
all_applied (n ∷ ns) s = all_applied ns (applied n s)
