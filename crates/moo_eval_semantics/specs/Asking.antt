-- What the functions that leave a notice ask for, and who may ask.
use Rattle.std.specs.Prelude.{ℤ, pos, List, [], ◌∷◌, ◌++◌, Bool, Option, None, Some, Ok, Err, if◌then◌else◌}
use Rattle.moo_value.specs.declared.error_code.ErrorCode.{ErrorCode}
use Rattle.moo_value.specs.declared.error_code.ErrorCode.TheVariants.{TypeMismatch, Permission}
use Rattle.moo_value.specs.Tree.{Tree, integer, object, string}
use Rattle.moo_builtin_operator.specs.Truth.{is_true}
use Rattle.moo_world.specs.Calls.{number_of}
use Rattle.moo_world.specs.PlayerCalls.{set_player_raises, world_set_player}
use Rattle.moo_world.specs.Rights.{controls, is_wizard}
use Rattle.moo_eval_frame.specs.declared.notice.Notice.{Notice}
use Rattle.moo_eval_frame.specs.declared.notice.Notice.TheVariants as notice
use Rattle.moo_eval_frame.specs.Outcome.{fails}
use Rattle.moo_eval_access.specs.State.{State}
use Rattle.moo_eval_semantics.specs.Tasks.{Reply}

-- with one notice more, after the others
abbrev pub noticed : Notice → State → State
noticed n s = record s { notices = s.notices ++ n ∷ [] }

-- a notice for those who may leave it, and E_PERM for others
abbrev pub leaves : (may : Bool) → ℤ → Notice → State → Reply
leaves may answer n s = if may then (Ok (integer answer), noticed n s) else (Err (fails Permission), s)

abbrev pub is_run_by_wizard : State → Bool
is_run_by_wizard s = is_wizard s.world s.programmer

-- to oneself, or to anyone for wizards
abbrev pub notify : List Tree → State → Reply
notify (object o ∷ string line ∷ []) s = leaves (controls s.world s.programmer o) (pos 1) (notice.Notify o line) s
notify _ s = (Err (fails TypeMismatch), s)

abbrev pub boot_player : List Tree → State → Reply
boot_player (object o ∷ []) s = leaves (controls s.world s.programmer o) (pos 0) (notice.BootPlayer o) s
boot_player _ s = (Err (fails TypeMismatch), s)

abbrev pub dump_database : List Tree → State → Reply
dump_database [] s = leaves (is_run_by_wizard s) (pos 0) notice.DumpDatabase s
dump_database _ s = (Err (fails TypeMismatch), s)

abbrev pub shutdown : List Tree → State → Reply
shutdown [] s = leaves (is_run_by_wizard s) (pos 0) (notice.Shutdown None) s
shutdown (string why ∷ []) s = leaves (is_run_by_wizard s) (pos 0) (notice.Shutdown (Some why)) s
shutdown _ s = (Err (fails TypeMismatch), s)

abbrev pub server_log : List Tree → State → Reply
server_log (string line ∷ []) s = leaves (is_run_by_wizard s) (pos 0) (notice.ServerLog line) s
server_log _ s = (Err (fails TypeMismatch), s)

-- The object's flag is set or cleared, and the row of the players is changed with it. What the world raises comes
-- before the right.
abbrev pub flagged : ℤ → Bool → Option ErrorCode → State → Reply
flagged o on (Some code) s = (Err (fails code), s)
flagged o on None s =
    if is_run_by_wizard s
    then (Ok (integer (pos 0)), noticed (notice.SetPlayerFlag o on) (record s { world = world_set_player s.world (number_of s.world.objects o) on }))
    else (Err (fails Permission), s)

abbrev pub set_player_flag : List Tree → State → Reply
set_player_flag (object o ∷ t ∷ []) s = flagged o (is_true t) (set_player_raises s.world (number_of s.world.objects o) (is_true t)) s
set_player_flag _ s = (Err (fails TypeMismatch), s)
