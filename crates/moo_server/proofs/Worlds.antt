-- What a happening, a taking and a start leave of a world with its connections.
use Rattle.std.proofs.Common.{◌≡◌, ◌≢◌, ℕ, ◌≤◌, List, [], ◌∷◌, ◌++◌, Result, Ok, Err, Bool, true, false, refl, sym, ◌∙◌, ap, subst, arith}
use Rattle.std.specs.Prelude.{◌&&◌, not, eqb, IfOk, OnOk}
use Rattle.std.proofs.lemmas.Bool.{eq-eqb, eqb-true}
use Rattle.moo_builtin.specs.Telling.{Faults}
use Rattle.moo_session_connection.specs.Connections.{number_limit}
use Rattle.moo_session_connection.specs.Streams.{stream}
use Rattle.moo_dbtext_object.specs.Lines.{IsCountOf, limited}
use Rattle.moo_session_task.specs.declared.world_state.WorldState.{WorldState}
use Rattle.moo_server_core.specs.declared.application.Requests.{Requests}
use Rattle.moo_server_core.specs.Application.{Input, HandsOut, HandsOutLog, Happens, Output, Started, silence}
use Rattle.moo_session_connection.specs.Outbox.{Bytes, Outbox, bytes_of, log_under_way, log_waiting, sent_under_way, sent_waiting}
use Rattle.moo_dbtext_read.specs.Saved.{Saved}
use Rattle.moo_session.specs.Events as event
use Rattle.moo_server.specs.Live.{Becomes, live_layer, settled, told_of}
use Rattle.moo_server.specs.declared.moo_application.MooApplication.{MooApplication}

pub happens_of : (happening : Input) (moment : ℕ) (old new : MooApplication) (end : WorldState) (asked : Requests)
    → Becomes Faults happening moment (settled old.live) end → new.live ≡ settled end
    → asked.checkpoint ≡ end.session.asked → asked.shutdown ≡ (end.session.closing && not old.live.session.closing)
    → ((c : ℕ) → sent_under_way new.outbox c ≡ sent_under_way old.outbox c ++ stream c end.session.sent)
    → log_under_way new.outbox ≡ log_under_way old.outbox ++ end.session.log
    → Happens live_layer happening moment old new asked
happens_of happening moment old new end asked becomes new_is checkpoint shutdown sent log = record {
  told = told_of old.live.session.closing end.session;
  happens = record { end = end; becomes = becomes; told_is = refl; new_is = new_is };
  goes_out = λ i. record { sent = λ c. sent c i; logged = log i };
  asks = checkpoint;
  shuts = shutdown;
}

never : (b : Bool) → false ≡ (b && not b)
never true = refl
never false = refl

append_none : {X : Type 0} (xs : List X) → xs ≡ xs ++ []
append_none [] = refl
append_none (x ∷ xs) = ap (λ (l : List _). x ∷ l) (append_none xs)

-- what changes nothing, as bytes that nobody is there to read
pub dropped : (happening : Input) (moment : ℕ) (old new : MooApplication) → Becomes Faults happening moment (settled old.live) (settled old.live)
    → new.live ≡ settled old.live → new.outbox ≡ old.outbox
    → Happens live_layer happening moment old new (record { checkpoint = false; shutdown = false })
dropped happening moment old new becomes live outbox = record {
  told = told_of old.live.session.closing (settled old.live).session;
  happens = record { end = settled old.live; becomes = becomes; told_is = refl; new_is = live };
  goes_out = λ i. record {
    sent = λ k. (ap (λ (o : Outbox). sent_under_way o k) outbox ∙ append_none (sent_under_way old.outbox k)) i;
    logged = (ap log_under_way outbox ∙ append_none (log_under_way old.outbox)) i;
  };
  asks = refl;
  shuts = never old.live.session.closing;
}

unlike : (k c : ℕ) → eqb k c ≡ false → k ≢ c
unlike k c isnt is = let yes = eq-eqb k c is in cc (yes, isnt)

pub took : (c : ℕ) (bytes : List ℕ) (old new : MooApplication) → new.live ≡ old.live → bytes ≡ sent_waiting old.outbox c → sent_waiting new.outbox c ≡ []
    → sent_under_way new.outbox c ≡ [] → ((k : ℕ) → k ≢ c → bytes_of new.outbox k ≡ bytes_of old.outbox k)
    → (new.outbox.log ≡ old.outbox.log) × (new.outbox.log_under_way ≡ old.outbox.log_under_way) → HandsOut live_layer c bytes old new
took c bytes old new live taken none dropped others log = record {
  all = taken;
  nothing = none;
  others = λ k isnt. ap (λ (b : Bytes). b.waiting) (others k isnt);
  log = log.0;
  state = live;
  under_way = λ silent i. record { sent = λ k. at k silent (eqb k c) refl i; logged = (log.1 ∙ ap (λ (o : Output). o.logged) silent) i };
}
  where
    at : (k : ℕ) → live_layer.under_way old ≡ silence → (b : Bool) → eqb k c ≡ b → sent_under_way new.outbox k ≡ []
    at k silent true is = subst (λ (n : ℕ). sent_under_way new.outbox n ≡ []) (sym (eqb-true k c is)) dropped
    at k silent false is = ap (λ (b : Bytes). b.under_way) (others k (unlike k c is)) ∙ ap (λ (o : Output). o.sent k) silent

pub took_log : (lines : List (List ℕ)) (old new : MooApplication) → new.live ≡ old.live → lines ≡ log_waiting old.outbox → log_waiting new.outbox ≡ []
    → log_under_way new.outbox ≡ [] → new.outbox.bytes ≡ old.outbox.bytes → HandsOutLog live_layer lines old new
took_log lines old new live taken none dropped bytes = record {
  all = taken;
  nothing = none;
  others = λ i k. (slice_of (bytes i) k).waiting;
  state = live;
  under_way = λ silent i. record { sent = λ k. (ap (λ (bs : List Bytes). (slice_of bs k).under_way) bytes ∙ ap (λ (o : Output). o.sent k) silent) i; logged = dropped i };
}
  where
    slice_of : List Bytes → ℕ → Bytes
    slice_of bs k = bytes_of (record { bytes = bs; log = []; log_under_way = [] }) k

pub started_of : (saved : Saved) (moment : ℕ) (new : MooApplication) (end : WorldState) (asked : Requests) → event.Starts Faults moment saved.connected saved.world end
    → new.live ≡ settled end → asked.checkpoint ≡ end.session.asked → asked.shutdown ≡ (end.session.closing && not false)
    → ((c : ℕ) → sent_waiting new.outbox c ≡ []) → log_waiting new.outbox ≡ []
    → ((c : ℕ) → sent_under_way new.outbox c ≡ stream c end.session.sent) → log_under_way new.outbox ≡ end.session.log
    → Started live_layer saved moment new asked
started_of saved moment new end asked starts live checkpoint shutdown none no_log sent log = record {
  told = told_of false end.session;
  starts = record { end = end; starts = starts; told_is = refl; new_is = live };
  out = λ i. record { sent = λ c. (none c i) ++ (sent c i); logged = no_log i ++ log i };
  asks = checkpoint;
  shuts = shutdown;
}

-- what was moved out
pub moved : {E : Type 0} (r : Result Requests E) (happening : Input) (moment : ℕ) (old new : MooApplication) (end : WorldState)
    → Becomes Faults happening moment (settled old.live) end → new.live ≡ settled end
    → IfOk r (λ asked. asked.checkpoint ≡ end.session.asked) → IfOk r (λ asked. asked.shutdown ≡ (end.session.closing && not old.live.session.closing))
    → OnOk r ((c : ℕ) → sent_under_way new.outbox c ≡ sent_under_way old.outbox c ++ stream c end.session.sent)
    → OnOk r (log_under_way new.outbox ≡ log_under_way old.outbox ++ end.session.log)
    → IfOk r (Happens live_layer happening moment old new)
moved (Ok asked) happening moment old new end becomes live checkpoint shutdown sent log = happens_of happening moment old new end asked becomes live checkpoint shutdown sent log
moved (Err e) happening moment old new end becomes live checkpoint shutdown sent log = tt

-- the connected players are few enough to be saved
pub few_enough : (n : ℕ) → n ≤ number_limit → IsCountOf limited n
few_enough n h = omega (arith, h)
