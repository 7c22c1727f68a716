-- Hooks: each is a task of its own, and they run in the order in which they were caused.
use Rattle.std.specs.Prelude.{◌≡◌, ℕ, ℤ, Bool, true, false, List, [], ◌∷◌, Option, codes}
use Rattle.moo_value.specs.Tree.{Tree, object}
use Rattle.moo_builtin.specs.Telling.{Telling}
use Rattle.moo_session_task.specs.declared.hook.Hook.{Hook}
use Rattle.moo_session_task.specs.declared.hook.Hook.TheVariants.{Created, Connected, Reconnected, Disconnected, ClientDisconnected}
use Rattle.moo_session_task.specs.declared.world_state.WorldState.{WorldState}
use Rattle.moo_session_task.specs.Session.{with_hooks}
use Rattle.moo_session_task.specs.State.{in_session}
use Rattle.moo_session_task.specs.Tasks.{CallsServerVerb}

abbrev pub hook_name : Hook → List ℕ
hook_name (Created player) = codes "user_created"
hook_name (Connected player) = codes "user_connected"
hook_name (Reconnected player) = codes "user_reconnected"
hook_name (Disconnected player) = codes "user_disconnected"
hook_name (ClientDisconnected player) = codes "user_client_disconnected"

abbrev pub player_of_hook : Hook → ℤ
player_of_hook (Created player) = player
player_of_hook (Connected player) = player
player_of_hook (Reconnected player) = player
player_of_hook (Disconnected player) = player
player_of_hook (ClientDisconnected player) = player

-- the verb of a hook is called with the player as its argument and as its player
abbrev pub CallsHook : Telling → ℕ → Hook → WorldState → Option Tree → WorldState → Type 0
CallsHook T moment h = CallsServerVerb T moment (hook_name h) (player_of_hook h) (object (player_of_hook h) ∷ []) []

-- The hooks that wait run from the first on, until none waits. Each is looked for when its turn comes, and what it
-- causes waits after the others.
pub data HooksRun (T : Telling) (moment : ℕ) : WorldState → WorldState → Type 0 where
  none_waits : {s : WorldState} → s.session.hooks ≡ [] → HooksRun T moment s s
  first_runs : {s s' s'' : WorldState} {h : Hook} {hs : List Hook} {v : Option Tree} →
      s.session.hooks ≡ h ∷ hs → CallsHook T moment h (in_session (with_hooks hs) s) v s' → HooksRun T moment s' s'' → HooksRun T moment s s''

-- One step of this: the first hook that waits runs, or none waits.
pub data RunsNext (T : Telling) (moment : ℕ) (s : WorldState) : Bool → WorldState → Type 0 where
  none_left : s.session.hooks ≡ [] → RunsNext T moment s false s
  has_run : {s' : WorldState} {h : Hook} {hs : List Hook} {v : Option Tree} →
      s.session.hooks ≡ h ∷ hs → CallsHook T moment h (in_session (with_hooks hs) s) v s' → RunsNext T moment s true s'
