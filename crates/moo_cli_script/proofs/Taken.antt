-- An event that was taken, or refused.
use Rattle.std.proofs.Common.{◌≡◌, ◌≢◌, ℕ, ◌≤◌, List, [], ◌∷◌, length, Result, Ok, Err, refl, sym, ◌∙◌, ap, subst}
use Rattle.std.specs.Prelude.{All}
use Rattle.std.proofs.lemmas.List.Elements.{All-cons, All-nil}
use Rattle.moo_dbtext_read.specs.Saved.{Saved}
use Rattle.moo_server_core.specs.Application.{Layer}
use Rattle.moo_server_core.specs.Seen.{Flush, seen}
use Rattle.moo_server_core.specs.Server.{Follows, IsAlive, Runs, with_disk}
use Rattle.moo_server_core.specs.declared.event.Event as given
use Rattle.moo_server_core.specs.declared.event.RunFault.{RunFault}
use Rattle.moo_cli_script.specs.declared.script.Script.{Script}
use Rattle.moo_cli_script.specs.Script.{Fits, Refuses, ScriptDisk, Takes, script_kind, top_after}
use Rattle.moo_cli_script.specs.Works.{moment_at}
use Rattle.moo_cli_script.proofs.Moments.{run_at}

module _ {S Application : Type 0} (l : Layer S Application Saved) where
  still_one : (e : given.Event) (events : List given.Event) (old new : ScriptDisk) → events ≡ e ∷ [] → (All (λ event. seen event ≢ Flush) events → new ≡ old)
      → seen e ≢ Flush → new ≡ old
  still_one e events old new single still other =
      let P : given.Event → Type 0 = λ event. seen event ≢ Flush in
      still (subst (λ (es : List given.Event). All P es) (sym single) (All-cons P e [] other (All-nil P)))

  abbrev Of : Script S → Script S → List given.Event → Result ℕ RunFault → Type 0
  Of old new events result = Runs l script_kind (with_disk old.server old.disk) (with_disk new.server new.disk) events result

  one_run : (e : given.Event) (old new : Script S) (result : Result ℕ RunFault) (n : ℕ) (events : List given.Event) → Of old new events result
      → events ≡ e ∷ [] → result ≡ Ok n → n ≡ length events → Of old new (e ∷ []) (Ok 1)
  one_run e old new result n events runs single is count =
      let one : n ≡ 1 = count ∙ ap (λ (es : List given.Event). length es) single in
      subst (λ (k : ℕ). Of old new (e ∷ []) (Ok k)) one
      (subst (λ (r : Result ℕ RunFault). Of old new (e ∷ []) r) is (subst (λ (es : List given.Event). Of old new es result) single runs))

  pub taken : (e : given.Event) (old new : Script S) (result : Result ℕ RunFault) (n : ℕ) (events : List given.Event) → Of old new events result
      → events ≡ e ∷ [] → result ≡ Ok n → n ≡ length events → IsAlive new.server → (All (λ event. seen event ≢ Flush) events → new.disk ≡ old.disk)
      → new.top ≡ top_after (seen e) old.top → Takes l (seen e) old new
  taken e old new result n events runs single is count alive still top = record {
    run = record {
      given_event = e;
      event_is = refl;
      runs = one_run e old new result n events runs single is count;
      still = still_one e events old.disk new.disk single still;
    };
    alive = alive;
    top = top;
  }

  pub not_taken : (e : given.Event) (old new : Script S) (result : Result ℕ RunFault) (fault : RunFault) (events : List given.Event) → Of old new events result
      → events ≡ e ∷ [] → result ≡ Err fault → (All (λ event. seen event ≢ Flush) events → new.disk ≡ old.disk)
      → Refuses l (seen e) old fault.cause
  not_taken e old new result fault events runs single is still = record {
    new = new;
    fault = fault;
    run = record {
      given_event = e;
      event_is = refl;
      runs = subst (λ (r : Result ℕ RunFault). Of old new (e ∷ []) r) is (subst (λ (es : List given.Event). Of old new es result) single runs);
      still = still_one e events old.disk new.disk single still;
    };
    cause_is = refl;
  }

  pub fits_taken : (e : given.Event) (old new : Script S) (result : Result ℕ RunFault) (n : ℕ) (events : List given.Event) → Of old new events result
      → events ≡ e ∷ [] → result ≡ Ok n → n ≡ length events → IsAlive new.server → Fits l old → Follows l script_kind (with_disk new.server new.disk)
      → new.moment ≡ moment_at old.server.course (seen e) old.moment → new.top ≤ 65536 → Fits l new
  fits_taken e old new result n events runs single is count alive fits follows moment top =
      let at = run_at l script_kind old.server new.server old.disk new.disk e (one_run e old new result n events runs single is count) alive in
      record {
        follows = follows;
        alive = alive;
        moment_is = moment ∙ ap (λ m. moment_at old.server.course (seen e) m) fits.moment_is ∙ sym at;
        top_fits = top;
      }
