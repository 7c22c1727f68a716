-- The work of a line does what its step asks for.
use Rattle.std.proofs.Common.{◌≡◌, ℕ, [], Option, Some, Bool, refl, sym, ap, subst}
use Rattle.std.specs.Prelude.{MatchOption, if◌then◌else◌}
use Rattle.moo_dbtext_read.specs.Saved.{Saved}
use Rattle.moo_server_core.specs.Application.{Layer}
use Rattle.moo_server_core.specs.Seen.{Event, seen}
use Rattle.moo_server_core.specs.declared.event.Event as given
use Rattle.moo_cli_script.specs.ScriptLines.{Step, opening, typing, sending, hanging_up, moment, flushing, failing, reopening, crashing, showing}
use Rattle.moo_cli_script.specs.declared.script.Refused.{Refused}
use Rattle.moo_cli_script.specs.declared.script.Refused.TheVariants as refusing
use Rattle.moo_cli_script.specs.declared.script.Script.{Script}
use Rattle.moo_cli_script.specs.declared.work.Work.{Work}
use Rattle.moo_cli_script.specs.declared.work.Work.TheVariants as work
use Rattle.moo_cli_script.specs.Script.{Crashes, Does, IsRefused, IsToFail, NotCrashed, NotOpened, NotTaken, OpensServer, Takes, disk_view, event_of, shown_of}
use Rattle.moo_cli_script.specs.Works.{IsWork, is_show}

module _ {S Application : Type 0} (l : Layer S Application Saved) where
  -- ---- events

  does_event : (s : Step) (e : Event) (old new : Script S) → event_of s ≡ Some e → Takes l e old new → Does l s old new
  does_event s e old new is takes = by s (subst (λ (o : Option Event). MatchOption o ⊥ (λ x. Takes l x old new)) (sym is) takes)
    where
      by : (s : Step) → MatchOption (event_of s) ⊥ (λ x. Takes l x old new) → Does l s old new
      by (opening c) h = h
      by (typing c text) h = h
      by (sending c bytes) h = h
      by (hanging_up c) h = h
      by (moment t) h = h
      by flushing h = h
      by (failing k effect) h = absurd h
      by reopening h = absurd h
      by (crashing i) h = absurd h
      by showing h = absurd h

  refused_event : (s : Step) (e : Event) (old : Script S) (refused : Refused) → event_of s ≡ Some e → NotTaken l e old refused → IsRefused l s old refused
  refused_event s e old refused is not_taken = by s (subst (λ (o : Option Event). MatchOption o ⊥ (λ x. NotTaken l x old refused)) (sym is) not_taken)
    where
      by : (s : Step) → MatchOption (event_of s) ⊥ (λ x. NotTaken l x old refused) → IsRefused l s old refused
      by (opening c) h = h
      by (typing c text) h = h
      by (sending c bytes) h = h
      by (hanging_up c) h = h
      by (moment t) h = h
      by flushing h = h
      by (failing k effect) h = absurd h
      by reopening h = absurd h
      by (crashing i) h = absurd h
      by showing h = absurd h

  pub event_done : (w : Work) (e : given.Event) (old new : Script S) → w ≡ work.Event e → Takes l (seen e) old new → (s : Step) → IsWork w s → Does l s old new
  event_done w e old new is takes s does = does_event s (seen e) old new (subst (λ (x : Work). IsWork x s) is does) takes

  pub event_refused : (w : Work) (e : given.Event) (old : Script S) (refused : Refused) → w ≡ work.Event e → NotTaken l (seen e) old refused → (s : Step) → IsWork w s → IsRefused l s old refused
  event_refused w e old refused is not_taken s does = refused_event s (seen e) old refused (subst (λ (x : Work). IsWork x s) is does) not_taken

  -- ---- what isn't an event

  pub fail_done : (w : Work) (k : ℕ) (effect : Bool) (old new : Script S) → w ≡ work.Fail k effect → IsToFail l k effect old new → (s : Step) → IsWork w s → Does l s old new
  fail_done w k effect old new is fails s does = subst (λ (x : Step). Does l x old new) (sym (subst (λ (x : Work). IsWork x s) is does)) fails

  pub reopen_done : (w : Work) (old new : Script S) → w ≡ work.Reopen → OpensServer l old.disk old.server.moment new → (s : Step) → IsWork w s → Does l s old new
  reopen_done w old new is opens s does = subst (λ (x : Step). Does l x old new) (sym (subst (λ (x : Work). IsWork x s) is does)) opens

  pub reopen_refused : (w : Work) (old : Script S) (fault : _) → w ≡ work.Reopen → NotOpened old.disk fault → (s : Step) → IsWork w s → IsRefused l s old (refusing.Opening fault)
  reopen_refused w old fault is none s does = subst (λ (x : Step). IsRefused l x old (refusing.Opening fault)) (sym (subst (λ (x : Work). IsWork x s) is does)) none

  pub crash_done : (w : Work) (i : ℕ) (old new : Script S) → w ≡ work.Crash i → Crashes l i old new → (s : Step) → IsWork w s → Does l s old new
  crash_done w i old new is crashes s does = subst (λ (x : Step). Does l x old new) (sym (subst (λ (x : Work). IsWork x s) is does)) crashes

  pub crash_refused : (w : Work) (i : ℕ) (old : Script S) (refused : Refused) → w ≡ work.Crash i → NotCrashed l i old refused → (s : Step) → IsWork w s → IsRefused l s old refused
  crash_refused w i old refused is none s does = subst (λ (x : Step). IsRefused l x old refused) (sym (subst (λ (x : Work). IsWork x s) is does)) none

  pub show_done : (w : Work) (old : Script S) → w ≡ work.Show → (s : Step) → IsWork w s → Does l s old old
  show_done w old is s does = subst (λ (x : Step). Does l x old old) (sym (subst (λ (x : Work). IsWork x s) is does)) refl

  -- ---- what is shown

  hidden : (s : Step) (e : Event) (script : Script S) → event_of s ≡ Some e → shown_of l s script ≡ []
  hidden (opening c) e script is = refl
  hidden (typing c text) e script is = refl
  hidden (sending c bytes) e script is = refl
  hidden (hanging_up c) e script is = refl
  hidden (moment t) e script is = refl
  hidden flushing e script is = refl
  hidden (failing k effect) e script is = absurd (cc is)
  hidden reopening e script is = absurd (cc is)
  hidden (crashing i) e script is = absurd (cc is)
  hidden showing e script is = absurd (cc is)

  pub shown_is : (w : Work) (s : Step) (script : Script S) → IsWork w s → (if is_show w then (disk_view script.disk).main_text else []) ≡ shown_of l s script
  shown_is (work.Event e) s script does = sym (hidden s (seen e) script does)
  shown_is (work.Fail k effect) s script does = sym (ap (λ (x : Step). shown_of l x script) does)
  shown_is work.Reopen s script does = sym (ap (λ (x : Step). shown_of l x script) does)
  shown_is (work.Crash i) s script does = sym (ap (λ (x : Step). shown_of l x script) does)
  shown_is work.Show s script does = sym (ap (λ (x : Step). shown_of l x script) does)
