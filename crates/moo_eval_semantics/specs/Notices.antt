-- What becomes of the earlier notices.
use Rattle.std.specs.Prelude.{◌≡◌, List, ◌++◌}
use Rattle.moo_eval_frame.specs.declared.notice.Notice.{Notice}

-- the new notices come after the earlier ones
abbrev pub LeavesNotices : List Notice → (List Notice → Type 0) → List Notice → Type 0
LeavesNotices old Asks new = (asked : List Notice) × Asks asked × (new ≡ old ++ asked)

-- no earlier notice was lost or changed
abbrev pub IsBegunBy : List Notice → List Notice → Type 0
IsBegunBy old new = (more : List Notice) × (new ≡ old ++ more)
