-- Events that a running server takes: bytes for a connection that is leaving, and openings of a number that none has.
use Rattle.std.proofs.Common.{◌≡◌, Option, Some, None, Bool, true, false, refl, sym, ◌∙◌, ap, subst}
use Rattle.std.specs.Prelude.{◌&&◌, ◌||◌, is_none, nat_le, not, if◌then◌else◌}
use Rattle.moo_server_core.specs.Application.{Layer, Meaning}
use Rattle.moo_server_core.specs.Courses.{is_closed, is_closing}
use Rattle.moo_server_core.specs.Seen.{Event, Open, Bytes, Hangup, Moment, Flush, seen}
use Rattle.moo_server_core.specs.declared.event.Cause.TheVariants.{ConnectionInUse}
use Rattle.moo_server_core.specs.declared.event.Course.{Course}
use Rattle.moo_server_core.specs.declared.event.Course.TheVariants.{Running, Closing, Closed}
use Rattle.moo_server_core.specs.Meaning.{State, FindsFree, acts_without_memory, at_moment_of, is_due, is_idle, is_passed_over, refusal, refusal_in}
use Rattle.moo_server_core.specs.Server.{is_last_of, state_of}
use Rattle.moo_server_core.specs.declared.event.Event as given
use Rattle.moo_server_core.specs.declared.server_core.Open.{Open as Open'}
use Rattle.moo_server_core.specs.declared.server_core.ServerCore.{ServerCore}

-- another event is none such
pub other : {Application Saved : Type 0} (m : Meaning Application Saved) (state : State Application) (event form : given.Event) → event ≡ form
    → acts_without_memory m state (seen form) ≡ false → acts_without_memory m state (seen event) ≡ true → ⊥
other m state event form is isnt without = true_isnt_false (sym without ∙ ap (λ (e : given.Event). acts_without_memory m state (seen e)) is ∙ isnt)
  where
    true_isnt_false : true ≡ false → ⊥
    true_isnt_false same = cc

pub second_and : (a b c : Bool) → ((a && b) && c) ≡ true → b ≡ true
second_and true true c is = refl
second_and true false c is = is
second_and false true c is = refl
second_and false false c is = is

both : (a b : Bool) → (a && not b) ≡ true → (a ≡ true) × (b ≡ false)
both true true is = absurd (cc)
both true false is = (refl, refl)
both false b is = absurd (cc)

pub false_if : (a b : Bool) → (a ≡ true → b ≡ false → ⊥) → (a && not b) ≡ false
false_if true true never = refl
false_if true false never = absurd (never refl refl)
false_if false b never = refl

true_isnt : (b : Bool) → b ≡ true → b ≡ false → ⊥
true_isnt b is isnt = cc

-- what wanted memory is an event whose own effect may need some, or a checkpoint is due then
pub idle_if : {Application Saved : Type 0} (m : Meaning Application Saved) (state : State Application) (event : Event)
    → (acts_without_memory m state event ≡ true → is_due m (at_moment_of event state) ≡ true) → is_idle m state event ≡ false
idle_if m state event due =
    false_if (acts_without_memory m state event) (is_due m (at_moment_of event state)) (λ without none. true_isnt (is_due m (at_moment_of event state)) (due without) none)

none_open : (writing : Option Open') → is_none (is_last_of writing) ≡ true → writing ≡ None
none_open None is = refl
none_open (Some o) is = absurd (cc)

-- if a checkpoint is due, none is open
pub none_if_due : {S Application Saved : Type 0} (l : Layer S Application Saved) (server : ServerCore S) → is_due l.meaning (state_of l server) ≡ true → server.writing ≡ None
none_if_due l server due =
    none_open server.writing
    (second_and (not (is_closed server.course)) (is_none (is_last_of server.writing)) (server.asked || nat_le server.due server.moment) due)

-- a `Flush` that wanted memory found a checkpoint open or due
pub flush_wants : {S Application Saved : Type 0} (l : Layer S Application Saved) (server : ServerCore S) (event : Event) → event ≡ Flush
    → (server.writing ≡ None → is_due l.meaning (state_of l server) ≡ true) → is_idle l.meaning (state_of l server) event ≡ false
flush_wants l server event is due =
    ap (is_idle l.meaning (state_of l server)) is ∙ idle_if l.meaning (state_of l server) Flush (λ none. due (none_open server.writing none))

-- what isn't refused nor passed over finds its number free
pub finds_free : {Application Saved : Type 0} (m : Meaning Application Saved) (state : State Application) (event : Event)
    → refusal m state event ≡ None → is_passed_over m state event ≡ false → FindsFree m state event
finds_free m state (Open c) accepted counts = by_course state.course refl
  where
    open' : (b : Bool) → (if b then Some ConnectionInUse else None) ≡ None → b ≡ false
    open' true is = absurd (cc)
    open' false is = refl

    by_course : (course : Course) → state.course ≡ course → m.is_open state.sessions c ≡ false
    by_course Closed is =
        let some : refusal_in m Closed state.moment state.sessions (Open c) ≡ None = subst (λ (k : Course). refusal_in m k state.moment state.sessions (Open c) ≡ None) is accepted in absurd (cc some)
    by_course Closing is = let passed = subst (λ (k : Course). (is_closing k && true) ≡ false) is counts in absurd (cc passed)
    by_course Running is = open' (m.is_open state.sessions c) (subst (λ (k : Course). refusal_in m k state.moment state.sessions (Open c) ≡ None) is accepted)
finds_free m state (Bytes c piece) accepted counts = tt
finds_free m state (Hangup c) accepted counts = tt
finds_free m state (Moment moment) accepted counts = tt
finds_free m state Flush accepted counts = tt
