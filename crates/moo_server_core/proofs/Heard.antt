-- What came of a happening to the sessions.
use Rattle.std.proofs.Common.{◌≡◌, Result, Ok, Err, IfErr, Bool, true, false, refl, sym, ◌∙◌, ap}
use Rattle.std.specs.Prelude.{◌||◌, if◌then◌else◌}
use Rattle.moo_server_core.specs.declared.event.Course.TheVariants.{Closing, Closed}
use Rattle.moo_server_core.specs.declared.application.Requests.{Requests}
use Rattle.moo_server_core.specs.declared.server_core.ServerCore.{ServerCore}
use Rattle.moo_server_core.specs.Application.{Input, Happens, Layer, Output, then_out}
use Rattle.moo_server_core.specs.Meaning.{Hears, State, is_due}
use Rattle.moo_server_core.specs.Server.{is_last_of, state_of, under_way_of}

pub hears_of : {S Application Saved : Type 0} (l : Layer S Application Saved) (happening : Input) (before after : ServerCore S) (mid : S) (asked : Requests)
    → Happens l happening before.moment before.sessions mid asked → after.sessions ≡ mid
    → after.asked ≡ (asked.checkpoint || (asked.shutdown || before.asked)) → after.course ≡ (if asked.shutdown then Closing else before.course)
    → after.moment ≡ before.moment → after.due ≡ before.due → after.writing ≡ before.writing
    → (out : Output) × Hears l.meaning happening (state_of l before) out (state_of l after) × (under_way_of l after ≡ then_out (under_way_of l before) out)
hears_of l happening before after mid asked h sessions asked_is course_is moment_is due_is writing_is = (
  h.told.out,
  (
    h.told,
    l.state mid,
    h.happens,
    refl,
    (λ i. record {
      sessions = l.state (sessions i);
      moment = moment_is i;
      due = due_is i;
      asked = request i;
      course = closing i;
      writing = is_last_of (writing_is i);
    }),
  ),
  ap l.under_way sessions ∙ h.goes_out,
)
  where
    request : after.asked ≡ (h.told.asks || (h.told.shuts || before.asked))
    request = asked_is ∙ (λ i. h.asks i || (h.shuts i || before.asked))

    closing : after.course ≡ (if h.told.shuts then Closing else before.course)
    closing = course_is ∙ ap (λ (b : Bool). if b then Closing else before.course) h.shuts

-- where nothing is asked for, what is due stays so
pub same_due : {S Application Saved : Type 0} (l : Layer S Application Saved) (before after : ServerCore S) (asked : Requests) → asked ≡ record { checkpoint = false; shutdown = false }
    → after.asked ≡ (asked.checkpoint || (asked.shutdown || before.asked)) → after.course ≡ (if asked.shutdown then Closing else before.course)
    → after.moment ≡ before.moment → after.due ≡ before.due → after.writing ≡ before.writing
    → is_due l.meaning (state_of l after) ≡ is_due l.meaning (state_of l before)
same_due l before after asked none asked_is course_is moment_is due_is writing_is = λ i. is_due l.meaning (record (state_of l before) {
  moment = moment_is i;
  due = due_is i;
  asked = same_asked i;
  course = same_course i;
  writing = is_last_of (writing_is i);
})
  where
    same_asked : after.asked ≡ before.asked
    same_asked = asked_is ∙ ap (λ (a : Requests). a.checkpoint || (a.shutdown || before.asked)) none

    same_course : after.course ≡ before.course
    same_course = course_is ∙ ap (λ (a : Requests). if a.shutdown then Closing else before.course) none

-- an answer that is known to be one
pub not_err : {T E : Type 0} {t : T} {e : E} → ◌≡◌ {A = Result T E} (Err e) (Ok t) → ⊥
not_err is = cc

pub ok_is : {T E : Type 0} {t u : T} → ◌≡◌ {A = Result T E} (Ok t) (Ok u) → t ≡ u
ok_is is = cc

pub not_ok : false ≡ true → ⊥
not_ok is = cc

pub if_err_any : {T E P : Type 0} (r : Result T E) → P → IfErr r (λ _. P)
if_err_any (Ok t) p = tt
if_err_any (Err e) p = p

pub if_err_map : {T E P Q : Type 0} (r : Result T E) → (P → Q) → IfErr r (λ _. P) → IfErr r (λ _. Q)
if_err_map (Ok t) f p = tt
if_err_map (Err e) f p = f p

-- the state after a report
abbrev pub ended : {Application : Type 0} → Bool → State Application → State Application
ended last mid = record mid { course = if last then Closed else mid.course }

pub closes : {Application : Type 0} (mid : State Application) (last : Bool) → last ≡ true → ended true mid ≡ ended last mid
closes mid last is = λ i. ended (sym is i) mid

pub stays : {Application : Type 0} (mid : State Application) (last : Bool) → last ≡ false → mid ≡ ended last mid
stays mid last is = λ i. ended (sym is i) mid
