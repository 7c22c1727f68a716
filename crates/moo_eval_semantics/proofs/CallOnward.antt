-- A call of a function takes no tick, and keeps the notices so far.
use Rattle.std.proofs.Common.{◌≡◌, ℕ, ℤ, List, [], ◌∷◌, ◌++◌, Bool, true, false, Option, None, Some, Result, refl, sym, ap, ◌∙◌, subst, arith, append-nil, append_assoc, cond}
use Rattle.moo_value.specs.declared.error_code.ErrorCode.{ErrorCode}
use Rattle.moo_value.specs.Tree.{Tree, object, string}
use Rattle.moo_syntax_function.specs.declared.function.Function.{Function}
use Rattle.moo_syntax_function.specs.declared.function.Function.TheVariants as function
use Rattle.moo_syntax_function.specs.Names.{function_of}
use Rattle.moo_syntax_function.specs.Table.{row}
use Rattle.moo_syntax_function.specs.Check.{refusal}
use Rattle.moo_builtin_operator.specs.Truth.{is_true}
use Rattle.moo_world.specs.Calls.{number_of}
use Rattle.moo_world.specs.PlayerCalls.{set_player_raises}
use Rattle.moo_world.specs.Rights.{controls}
use Rattle.moo_builtin_world.specs.Objects.{is_valid}
use Rattle.moo_eval_frame.specs.declared.notice.Notice.{Notice}
use Rattle.moo_eval_frame.specs.Outcome.{Failure}
use Rattle.moo_eval_frame.specs.State.{Context}
use Rattle.moo_eval_access.specs.State.{State, ticked}
use Rattle.moo_builtin.specs.Telling.{Telling}
use Rattle.moo_eval_semantics.specs.Later.{Later}
use Rattle.moo_eval_semantics.specs.Tasks.{Reply, set_task_perms}
use Rattle.moo_eval_semantics.specs.Asking.{leaves, notify, boot_player, dump_database, shutdown, server_log, flagged, set_player_flag}
use Rattle.moo_eval_semantics.specs.Calls.{task_reply, unless_refused, task_function, CallsAs, CallsFunction}

-- the ticks and the notices are the same
pub kept : {s s' : State} → s'.ticks ≡ s.ticks → s'.notices ≡ s.notices → Later s s'
kept {s = s} p q = record { ticks = omega (arith, p); added = []; notices = q ∙ sym (append-nil s.notices) }

pub stays : {s : State} → Later s s
stays = kept refl refl

pub later_twice : {s t u : State} → Later s t → Later t u → Later s u
later_twice {s = s} h k = record {
  ticks = omega (arith, h.ticks, k.ticks);
  added = h.added ++ k.added;
  notices = k.notices ∙ ap (λ x. x ++ k.added) h.notices ∙ append_assoc s.notices h.added k.added;
}

pub takes_tick : {s : State} → Later s (ticked s)
takes_tick {s = s} = record { ticks = omega arith; added = []; notices = sym (append-nil s.notices) }

pub moves : {s t s' : State} → t ≡ s' → Later s t → Later s s'
moves {s = s} e h = subst (Later s) e h

-- one notice more
pub leaves_notice : (n : Notice) {s s' : State} → s'.ticks ≡ s.ticks → s'.notices ≡ s.notices ++ n ∷ [] → Later s s'
leaves_notice n p q = record { ticks = omega (arith, p); added = n ∷ []; notices = q }

later_leaves : (may : Bool) (answer : ℤ) (n : Notice) (s : State) → Later s (leaves may answer n s).1
later_leaves true answer n s = leaves_notice n refl refl
later_leaves false answer n s = stays

later_notify : (args : List Tree) (s : State) → Later s (notify args s).1
later_notify (object o ∷ string line ∷ []) s = later_leaves (controls s.world s.programmer o) _ _ s
later_notify _ s = stays

later_boot : (args : List Tree) (s : State) → Later s (boot_player args s).1
later_boot (object o ∷ []) s = later_leaves (controls s.world s.programmer o) _ _ s
later_boot _ s = stays

later_dump : (args : List Tree) (s : State) → Later s (dump_database args s).1
later_dump [] s = later_leaves _ _ _ s
later_dump _ s = stays

later_shutdown : (args : List Tree) (s : State) → Later s (shutdown args s).1
later_shutdown [] s = later_leaves _ _ _ s
later_shutdown (string why ∷ []) s = later_leaves _ _ _ s
later_shutdown _ s = stays

later_log : (args : List Tree) (s : State) → Later s (server_log args s).1
later_log (string line ∷ []) s = later_leaves _ _ _ s
later_log _ s = stays

later_cond : (b : Bool) (p q : Reply) {s : State} → Later s p.1 → Later s q.1 → Later s (cond b p q).1
later_cond true p q h k = h
later_cond false p q h k = k

later_flagged : (o : ℤ) (on : Bool) (e : Option ErrorCode) (s : State) → Later s (flagged o on e s).1
later_flagged o on (Some code) s = stays
later_flagged o on None s = later_cond _ _ _ (leaves_notice _ refl refl) stays

later_flag : (args : List Tree) (s : State) → Later s (set_player_flag args s).1
later_flag (object o ∷ t ∷ []) s = later_flagged o (is_true t) (set_player_raises s.world (number_of s.world.objects o) (is_true t)) s
later_flag _ s = stays

later_perms : (args : List Tree) (s : State) → Later s (set_task_perms args s).1
later_perms (object o ∷ []) s = later_cond (controls s.world s.programmer o) _ _ (kept refl refl) stays
later_perms _ s = stays

later_reply : (f : Function) (c : Context) (args : List Tree) (s : State) → Later s (task_reply f c args s).1
later_reply function.SetTaskPerms c args s = later_perms args s
later_reply function.Notify c args s = later_notify args s
later_reply function.BootPlayer c args s = later_boot args s
later_reply function.SetPlayerFlag c args s = later_flag args s
later_reply function.DumpDatabase c args s = later_dump args s
later_reply function.Shutdown c args s = later_shutdown args s
later_reply function.ServerLog c args s = later_log args s
later_reply f c args s = stays

later_unless : (e : Option ErrorCode) (reply : Reply) {s : State} → Later s reply.1 → Later s (unless_refused s e reply).1
later_unless None reply h = h
later_unless (Some code) reply h = stays

later_answered : {reply : Reply} {r : Result Tree Failure} {s s' : State} → Later s reply.1 → reply ≡ (r, s') → Later s s'
later_answered {s = s} h e = subst (λ x. Later s x.1) e h

later_as : (T : Telling) (f : Option Function) (c : Context) (name : List ℕ) (args : List Tree) (s s' : State) (r : Result Tree Failure) → CallsAs T f c name args s r s' → Later s s'
later_as T (Some f) c name args s s' r h = later_answered (later_unless (refusal (is_valid s.world) (row f) args) (task_reply f c args s) (later_reply f c args s)) h
later_as T None c name args s s' r h = subst (Later s) (sym h.4) (kept refl refl)

pub later_call : (T : Telling) (c : Context) (name : List ℕ) (args : List Tree) (s s' : State) (r : Result Tree Failure) → CallsFunction T c name args s r s' → Later s s'
later_call T c name args s s' r h = later_as T (task_function (function_of name)) c name args s s' r h
