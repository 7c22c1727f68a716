-- A call that raises leaves the state as it was.
use Rattle.std.proofs.Common.{◌≡◌, ℕ, ℤ, pos, List, [], ◌∷◌, Bool, true, false, Option, None, Some, Result, Ok, Err, refl, sym, ap, ◌∙◌, cond}
use Rattle.moo_value.specs.declared.error_code.ErrorCode.{ErrorCode}
use Rattle.moo_value.specs.declared.error_code.ErrorCode.TheVariants.{Permission}
use Rattle.moo_value.specs.Tree.{Tree, integer, object, string}
use Rattle.moo_syntax_function.specs.declared.function.Function.{Function}
use Rattle.moo_syntax_function.specs.declared.function.Function.TheVariants as function
use Rattle.moo_syntax_function.specs.Names.{function_of}
use Rattle.moo_syntax_function.specs.Table.{row}
use Rattle.moo_syntax_function.specs.Check.{refusal}
use Rattle.moo_builtin_operator.specs.Truth.{is_true}
use Rattle.moo_builtin_value.specs.Calls.{Raised}
use Rattle.moo_world_table.specs.World.{World}
use Rattle.moo_world.specs.Calls.{number_of}
use Rattle.moo_world.specs.PlayerCalls.{set_player_raises, world_set_player}
use Rattle.moo_world.specs.Rights.{controls}
use Rattle.moo_builtin_world.specs.Objects.{is_valid}
use Rattle.moo_eval_frame.specs.declared.frame.TraceEntry.{TraceEntry}
use Rattle.moo_eval_frame.specs.declared.notice.Notice.{Notice}
use Rattle.moo_eval_frame.specs.declared.notice.Notice.TheVariants.{SetPlayerFlag}
use Rattle.moo_eval_frame.specs.Outcome.{Failure, fails}
use Rattle.moo_eval_frame.specs.State.{Context}
use Rattle.moo_eval_access.specs.State.{State, trace}
use Rattle.moo_builtin.specs.Telling.{Telling, Faults}
use Rattle.moo_builtin.proofs.Once.{raised}
use Rattle.moo_eval_semantics.specs.Tasks.{Reply, set_task_perms, replied}
use Rattle.moo_eval_semantics.specs.Asking.{noticed, leaves, is_run_by_wizard, notify, boot_player, dump_database, shutdown, server_log, flagged, set_player_flag}
use Rattle.moo_eval_semantics.specs.Calls.{task_reply, unless_refused, caller, task_function, CallsAs}
use Rattle.moo_eval_call.specs.Laws.{RaisesChangeNothing}

abbrev Keeps : State → Reply → Type 0
Keeps s reply = (f : Failure) → reply.0 ≡ Err f → reply.1 ≡ s

stays : {r : Result Tree Failure} {s : State} → Keeps s (r, s)
stays f is = refl

-- what answers where it may, and raises an error elsewhere
keeps_if : (may : Bool) (v : Tree) (e : Failure) (s t : State) → Keeps s (cond may (Ok v, t) (Err e, s))
keeps_if true v e s t f is = absurd (cc)
keeps_if false v e s t f is = refl

keeps_leaves : (may : Bool) (answer : ℤ) (n : Notice) (s : State) → Keeps s (leaves may answer n s)
keeps_leaves may answer n s = keeps_if may (integer answer) (fails Permission) s (noticed n s)

keeps_notify : (args : List Tree) (s : State) → Keeps s (notify args s)
keeps_notify (object o ∷ string line ∷ []) s = keeps_leaves (controls s.world s.programmer o) _ _ s
keeps_notify _ s = stays

keeps_boot : (args : List Tree) (s : State) → Keeps s (boot_player args s)
keeps_boot (object o ∷ []) s = keeps_leaves (controls s.world s.programmer o) _ _ s
keeps_boot _ s = stays

keeps_dump : (args : List Tree) (s : State) → Keeps s (dump_database args s)
keeps_dump [] s = keeps_leaves _ _ _ s
keeps_dump _ s = stays

keeps_shutdown : (args : List Tree) (s : State) → Keeps s (shutdown args s)
keeps_shutdown [] s = keeps_leaves _ _ _ s
keeps_shutdown (string why ∷ []) s = keeps_leaves _ _ _ s
keeps_shutdown _ s = stays

keeps_log : (args : List Tree) (s : State) → Keeps s (server_log args s)
keeps_log (string line ∷ []) s = keeps_leaves _ _ _ s
keeps_log _ s = stays

keeps_flagged : (o : ℤ) (on : Bool) (e : Option ErrorCode) (s : State) → Keeps s (flagged o on e s)
keeps_flagged o on (Some code) s = stays
keeps_flagged o on None s =
    keeps_if (is_run_by_wizard s) (integer (pos 0)) (fails Permission) s (noticed (SetPlayerFlag o on) (record s { world = world_set_player s.world (number_of s.world.objects o) on }))

keeps_flag : (args : List Tree) (s : State) → Keeps s (set_player_flag args s)
keeps_flag (object o ∷ t ∷ []) s = keeps_flagged o (is_true t) (set_player_raises s.world (number_of s.world.objects o) (is_true t)) s
keeps_flag _ s = stays

keeps_perms : (args : List Tree) (s : State) → Keeps s (set_task_perms args s)
keeps_perms (object o ∷ []) s = keeps_if (controls s.world s.programmer o) (integer (pos 0)) (fails Permission) s (record s { programmer = o })
keeps_perms _ s = stays

keeps_reply : (f : Function) (c : Context) (args : List Tree) (s : State) → Keeps s (task_reply f c args s)
keeps_reply function.SetTaskPerms c args s = keeps_perms args s
keeps_reply function.Notify c args s = keeps_notify args s
keeps_reply function.BootPlayer c args s = keeps_boot args s
keeps_reply function.SetPlayerFlag c args s = keeps_flag args s
keeps_reply function.DumpDatabase c args s = keeps_dump args s
keeps_reply function.Shutdown c args s = keeps_shutdown args s
keeps_reply function.ServerLog c args s = keeps_log args s
keeps_reply f c args s = stays

keeps_unless : (e : Option ErrorCode) (reply : Reply) {s : State} → Keeps s reply → Keeps s (unless_refused s e reply)
keeps_unless None reply h = h
keeps_unless (Some code) reply h = stays

-- what fails was raised
was_raised : (d : Bool) (entries : List TraceEntry) (reply : Result Tree Raised) (f : Failure) → replied d entries reply ≡ Err f → (e : Raised) × (reply ≡ Err e)
was_raised d entries (Ok v) f is = absurd (cc)
was_raised d entries (Err e) f is = (e, refl)

raises_as : (T : Telling) (o : Option Function) (c : Context) (name : List ℕ) (args : List Tree) (s s' : State) (r : Result Tree Failure) (f : Failure) → CallsAs T o c name args s r s' → r ≡ Err f → s' ≡ s
raises_as T (Some g) c name args s s' r f h is =
    let keeps = keeps_unless (refusal (is_valid s.world) (row g) args) (task_reply g c args s) (keeps_reply g c args s) in
    sym (ap (λ (x : Reply). x.1) h) ∙ keeps f (ap (λ (x : Reply). x.0) h ∙ is)
raises_as T None c name args s s' r f h is =
    let raise = was_raised c.frame.d (trace c s) h.0 f (sym h.3 ∙ is) in
    let same : h.1 ≡ s.world = raised T name args s.world h.1 (caller c s) h.0 raise.0 h.2 raise.1 in
    h.4 ∙ ap (λ (w : World). record s { world = w }) same

pub raises_change_nothing : RaisesChangeNothing
raises_change_nothing c name args s s' f h = raises_as Faults (task_function (function_of name)) c name args s s' (Err f) f h refl
