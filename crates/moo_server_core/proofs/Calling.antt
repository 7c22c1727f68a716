-- Calls one after another.
use Rattle.std.proofs.Common.{◌≡◌, ◌⊎◌, inl, inr, ⊎_elim, ℕ, List, [], ◌∷◌, ◌++◌, Option, Some, None, refl, sym, ◌∙◌, ap, subst, arith}
use Rattle.moo_disk.specs.Disk.{DiskKind, DiskView, Gains, KeepsMain, NoText}
use Rattle.moo_checkpoint.specs.Checkpoint.{text_of}
use Rattle.moo_checkpoint.proofs.Answered.{recovers_within}
use Rattle.moo_dbtext_read.specs.Saved.{Saved, SpellsSavedWithin}
use Rattle.moo_server_core.specs.Application.{Layer, Output, then_out}
use Rattle.moo_server_core.specs.Traces.{Done, Trace}
use Rattle.moo_server_core.specs.Crash.{IsOneOf, texts_of_marks, last_of, since_done, Survives}
use Rattle.moo_server_core.specs.Meaning.{Entry, State, out_of}
use Rattle.moo_server_core.specs.declared.server_core.Open as declared
use Rattle.moo_server_core.specs.declared.server_core.ServerCore.{ServerCore}
use Rattle.moo_server_core.specs.Server.{Hands, IsAlive, Lived, on_its_way, state_of, text_of_open, traces_under, waiting_of, with_disk}
use Rattle.moo_server_core.specs.Calls.{Call, Calls, HandsOn, IsCallOf, IsKept, LeavesMarked, Lent, One, Other, StartsAgain, handed_in, lent}
use Rattle.moo_server_core.proofs.Joining.{Texts, gains_join, gains_less, one_of_left, one_of_right, one_of_either, one_of_last}
use Rattle.moo_server_core.proofs.Marked.{mark_at, mark_is_prefix}
use Rattle.moo_server_core.proofs.Out.{then_silence, then_then}
use Rattle.moo_server_core.proofs.Running.{done_of_one, lived_join, lived_none, lived_of, lived_same, waits_of}

-- then the disk is handed on
survives_step : {D : Type 0} (kind : DiskKind D) (first mid new : D) (texts way : Texts) (ts : List Trace)
    → Gains NoText (kind.view mid) (kind.view new) → Survives kind first mid texts way ts → Survives kind first new texts way ts
survives_step kind first mid new texts way ts step survives = record {
  always = gains_join survives.always (gains_less (λ c none. absurd none) step);
  in_the_end = λ c left. ⊎_elim (λ was. survives.in_the_end c was) (λ none. absurd none) (step.now c left);
  latest = survives.latest;
}

-- since the present moment a crash leaves no more than now
pub only_now : {D E : Type 0} (kind : DiskKind D) (kind' : DiskKind E)
    → ((d : D) (c : List ℕ) → kind.honest d → (kind.view d).left_since (kind.view d).clock c → (kind.view d).may_leave c)
    → ((e : E) (c : List ℕ) → kind'.honest e → (kind'.view e).left_since (kind'.view e).clock c → (kind'.view e).may_leave c)
    → (disk : Lent D E) → (lent kind kind').honest disk → (c : List ℕ)
    → ((lent kind kind').view disk).left_since ((lent kind kind').view disk).clock c → ((lent kind kind').view disk).may_leave c
only_now kind kind' one other (One disk) h c left = one disk c h left
only_now kind kind' one other (Other disk) h c left = other disk c h left

outs-append : (es es' : List (Entry Saved)) → out_of (es ++ es') ≡ then_out (out_of es) (out_of es')
outs-append [] es' = refl
outs-append (e ∷ es) es' = ap (λ (o : Output). then_out e.out o) (outs-append es es') ∙ sym (then_then e.out (out_of es) (out_of es'))

module _ {S Application : Type 0} (l : Layer S Application Saved) where
  -- what is kept is what a start finds
  pub starts_again : {F : Type 0} (kind : DiskKind F) (start : State Application) (first : Saved) (es es' : List (Entry Saved)) (found : F) → kind.honest found
      → ((s : Saved) → l.meaning.Spells (kind.view found).main_text s → SpellsSavedWithin (kind.view found).main_text s)
      → IsKept l start first es es' (kind.view found).main_text → StartsAgain l kind start first es es' found
  starts_again kind start first es es' found h within kept = record {
    saved = kept.saved;
    spelled = within kept.saved kept.spelled;
    which = kept.which;
    recovers = λ result recovered. recovers_within (kind.view found).main_text result recovered kept.saved (within kept.saved kept.spelled);
    begins = λ server new again moment opened. sym (opened.only h kept.saved kept.spelled);
  }

  -- what a disk of either type shows is what it shows as one of both
  lived_one : {D E : Type 0} (kind : DiskKind D) (kind' : DiskKind E) (before after : ServerCore S) (old new : D) (es : List (Entry Saved))
      → Lived l kind (with_disk before old) (with_disk after new) es → Lived l (lent kind kind') (with_disk before (One old)) (with_disk after (One new)) es
  lived_one kind kind' before after old new es lived = record {
    end = lived.end;
    run = lived.run;
    state = lived.state;
    spelled = lived.spelled;
    survives = λ h. let survives = lived.survives h in record { always = survives.always; in_the_end = survives.in_the_end; latest = survives.latest };
    in_time = lived.in_time;
    turns = lived.turns;
    rests = lived.rests;
  }

  lived_other : {D E : Type 0} (kind : DiskKind D) (kind' : DiskKind E) (before after : ServerCore S) (old new : E) (es : List (Entry Saved))
      → Lived l kind' (with_disk before old) (with_disk after new) es → Lived l (lent kind kind') (with_disk before (Other old)) (with_disk after (Other new)) es
  lived_other kind kind' before after old new es lived = record {
    end = lived.end;
    run = lived.run;
    state = lived.state;
    spelled = lived.spelled;
    survives = λ h. let survives = lived.survives h in record { always = survives.always; in_the_end = survives.in_the_end; latest = survives.latest };
    in_time = lived.in_time;
    turns = lived.turns;
    rests = lived.rests;
  }

  module _ {X : Type 0} (kind : DiskKind X) where
    -- what a call did
    pub record Went (call : Call S X) : Type 0 where
      pub lived : Lived l kind (with_disk call.before call.old) (with_disk call.server call.disk) call.entries
      pub waiting : waiting_of l call.server ≡ then_out (waiting_of l call.before) (out_of call.entries)
      pub durable : IsAlive call.server → kind.honest call.old → (entry : Entry Saved) → call.entries ≡ entry ∷ [] → entry.report ≡ Some Done
          → (c : List ℕ) → (kind.view call.disk).may_leave c → IsOneOf (on_its_way call.before) c
      pub honest_still : kind.honest call.old → kind.honest call.disk

    abbrev pub Chain : ServerCore S → X → List (Call S X) → ServerCore S → X → List (Entry Saved) → Type 0
    Chain before old [] after new entries = (after ≡ before) × (new ≡ old) × (entries ≡ [])
    Chain before old (call ∷ calls) after new entries =
        Hands l call.handed before call.before × HandsOn kind old call.old × Went call
        × (rest : List (Entry Saved)) × Chain call.server call.disk calls after new rest × (entries ≡ call.entries ++ rest)

    lived_step : (before after : ServerCore S) (old mid new : X) (es : List (Entry Saved)) → (kind.honest old → kind.honest mid) → HandsOn kind mid new
        → Lived l kind (with_disk before old) (with_disk after mid) es → Lived l kind (with_disk before old) (with_disk after new) es
    lived_step before after old mid new es keeps step lived = record {
      end = lived.end;
      run = lived.run;
      state = lived.state;
      spelled = lived.spelled;
      survives = λ h. survives_step kind old mid new (on_its_way before) (on_its_way after) (traces_under l.meaning es) (step.main (keeps h)).crash (lived.survives h);
      in_time = lived.in_time;
      turns = lived.turns;
      rests = lived.rests;
    }

    pub chain_honest : (calls : List (Call S X)) (before after : ServerCore S) (old new : X) (entries : List (Entry Saved)) → kind.honest old
        → Chain before old calls after new entries → kind.honest new
    chain_honest [] before after old new entries h chain = subst kind.honest (sym chain.1) h
    chain_honest (call ∷ calls) before after old new entries h chain =
        chain_honest calls call.server after call.disk new chain.3 (chain.2.honest_still (chain.1.honest_still h)) chain.4

    pub chain_lived : (calls : List (Call S X)) (before after : ServerCore S) (old new : X) (entries : List (Entry Saved))
        → Chain before old calls after new entries → Lived l kind (with_disk before old) (with_disk after new) entries
    chain_lived [] before after old new entries chain =
        subst (λ (es : List (Entry Saved)). Lived l kind (with_disk before old) (with_disk after new) es) (sym chain.2)
        (subst (λ (s : ServerCore S). Lived l kind (with_disk before old) (with_disk s new) []) (sym chain.0)
        (subst (λ (d : X). Lived l kind (with_disk before old) (with_disk before d) []) (sym chain.1) (lived_none l kind before old)))
    chain_lived (call ∷ calls) before after old new entries chain =
        let handed = lived_step before call.before old old call.old [] (λ h. h) chain.1
        (lived_same l kind before before call.before old old [] chain.0.same (lived_none l kind before old)) in
        subst (λ (es : List (Entry Saved)). Lived l kind (with_disk before old) (with_disk after new) es) (sym chain.5)
        (lived_join l kind before call.before after old call.old new [] (call.entries ++ chain.3) chain.1.honest_still handed
        (lived_join l kind call.before call.server after call.old call.disk new call.entries chain.3 chain.2.honest_still chain.2.lived
        (chain_lived calls call.server after call.disk new chain.3 chain.4)))

    chain_join : (xs ys : List (Call S X)) (s m e : ServerCore S) (ds dm de : X) (es es' : List (Entry Saved))
        → Chain s ds xs m dm es → Chain m dm ys e de es' → Lived l kind (with_disk s ds) (with_disk e de) (es ++ es')
    chain_join xs ys s m e ds dm de es es' chain chain' =
        lived_join l kind s m e ds dm de es es' (λ h. chain_honest xs s m ds dm es h chain) (chain_lived xs s m ds dm es chain) (chain_lived ys m e dm de es' chain')

    pub chain_handed : (calls : List (Call S X)) (before after : ServerCore S) (old new : X) (entries : List (Entry Saved))
        → Chain before old calls after new entries
        → then_out (waiting_of l before) (out_of entries) ≡ then_out (handed_in calls) (waiting_of l after)
    chain_handed [] before after old new entries chain =
        ap (λ (es : List (Entry Saved)). then_out (waiting_of l before) (out_of es)) chain.2 ∙ then_silence (waiting_of l before)
        ∙ ap (λ (s : ServerCore S). waiting_of l s) (sym chain.0)
    chain_handed (call ∷ calls) before after old new entries chain =
        let found = waiting_of l call.before in
        let own = out_of call.entries in
        let rest = out_of chain.3 in
        ap (λ (es : List (Entry Saved)). then_out (waiting_of l before) (out_of es)) chain.5
        ∙ ap (λ (o : Output). then_out (waiting_of l before) o) (outs-append call.entries chain.3)
        ∙ ap (λ (o : Output). then_out o (then_out own rest)) chain.0.waiting
        ∙ then_then call.handed found (then_out own rest)
        ∙ ap (λ (o : Output). then_out call.handed o) (sym (then_then found own rest) ∙ ap (λ (o : Output). then_out o rest) (sym chain.2.waiting)
        ∙ chain_handed calls call.server after call.disk new chain.3 chain.4)
        ∙ sym (then_then call.handed (handed_in calls) (waiting_of l after))

    -- the text on the way is one of those since the last report done
    way : (o : Option declared.Open) (first disk : X) (ts : List Trace) → Survives kind first disk [] (text_of_open o) ts → (c : List ℕ) → IsOneOf (text_of_open o) c → IsOneOf (since_done [] ts) c
    way None first disk ts survives c one = absurd one
    way (Some o) first disk ts survives c one =
        one_of_last (since_done [] ts) c (subst (λ (xs : Texts). IsOneOf xs c) (sym (survives.latest (text_of o.checkpoint) refl)) one)

    from_none : (start end : ServerCore S) (opened disk : X) (es : List (Entry Saved)) → start.writing ≡ None → kind.honest opened
        → Lived l kind (with_disk start opened) (with_disk end disk) es → Survives kind opened disk [] (on_its_way end) (traces_under l.meaning es)
    from_none start end opened disk es none h lived =
        subst (λ (xs : Texts). Survives kind opened disk xs (on_its_way end) (traces_under l.meaning es)) (ap text_of_open none) (lived.survives h)

    -- a stop at any moment since some calls
    pub any_moment : (start server end : ServerCore S) (first : DiskView) (opened disk last : X) (before after : List (Call S X)) (es es' : List (Entry Saved))
        → start.writing ≡ None → KeepsMain first (kind.view opened) → kind.honest opened
        → (kind.honest disk → (c : List ℕ) → (kind.view disk).left_since (kind.view disk).clock c → (kind.view disk).may_leave c)
        → Chain start opened before server disk es → Chain server disk after end last es'
        → (c : List ℕ) → (kind.view last).left_since (kind.view disk).clock c → LeavesMarked l first.may_leave es es' c
    any_moment start server end first opened disk last before after es es' none kept h only_now chain chain' c left =
        ⊎_elim
        (λ was. ⊎_elim (λ nothing. inl (nothing.0, at_first c nothing.1)) (λ one. inr (one_of_left (since_done [] ts) (texts_of_marks ts') c one)) (so_far.in_the_end c (only_now h' c was)))
        (λ one. ⊎_elim (λ on_way. inr (one_of_left (since_done [] ts) (texts_of_marks ts') c (way server.writing opened disk ts so_far c on_way)))
        (λ mark. inr (one_of_right (since_done [] ts) (texts_of_marks ts') c mark)) (one_of_either (on_its_way server) (texts_of_marks ts') c one))
        (from_there.always.since (kind.view disk).clock c (omega arith) left)
      where
        ts : List Trace
        ts = traces_under l.meaning es

        ts' : List Trace
        ts' = traces_under l.meaning es'

        h' : kind.honest disk
        h' = chain_honest before start server opened disk es h chain

        at_first : (t : List ℕ) → (kind.view opened).may_leave t → first.may_leave t
        at_first t left' = ⊎_elim (λ was. was) (λ nothing. absurd nothing) (kept.crash.now t left')

        so_far : Survives kind opened disk [] (on_its_way server) ts
        so_far = from_none start server opened disk es none h (chain_lived before start server opened disk es chain)

        from_there : Survives kind disk last (on_its_way server) (on_its_way end) ts'
        from_there = (chain_lived after server end disk last es' chain').survives h'

    -- a stop at any moment since the start began
    pub since_open : (start end : ServerCore S) (first : DiskView) (opened last : X) (calls : List (Call S X)) (es : List (Entry Saved))
        → start.writing ≡ None → KeepsMain first (kind.view opened) → kind.honest opened
        → ((c : List ℕ) → first.left_since first.clock c → first.may_leave c)
        → Chain start opened calls end last es
        → (c : List ℕ) → (kind.view last).left_since first.clock c → first.may_leave c ⊎ IsOneOf (texts_of_marks (traces_under l.meaning es)) c
    since_open start end first opened last calls es none kept h only_now chain c left =
        ⊎_elim (λ was. ⊎_elim (λ first_one. inl (only_now c first_one)) (λ nothing. absurd nothing) (kept.crash.since first.clock c (omega arith) was)) (λ one. inr one)
        (lived.always.since first.clock c kept.crash.later left)
      where
        lived : Survives kind opened last [] (on_its_way end) (traces_under l.meaning es)
        lived = from_none start end opened last es none h (chain_lived calls start end opened last es chain)

    -- the text spells the world of a prefix
    pub kept : (start server end : ServerCore S) (first : DiskView) (opened disk last : X) (before after : List (Call S X)) (es es' : List (Entry Saved)) (saved : Saved)
        → start.writing ≡ None → KeepsMain first (kind.view opened) → kind.honest opened
        → ((c : List ℕ) → first.may_leave c → l.meaning.Spells c saved)
        → (kind.honest disk → (c : List ℕ) → (kind.view disk).left_since (kind.view disk).clock c → (kind.view disk).may_leave c)
        → Chain start opened before server disk es → Chain server disk after end last es'
        → (c : List ℕ) → (kind.view last).left_since (kind.view disk).clock c → IsKept l (state_of l start) saved es es' c
    kept start server end first opened disk last before after es es' saved none keeps h spells only_now chain chain' c left =
        ⊎_elim
        (λ nothing. record { saved = saved; spelled = spells c nothing.1; which = inl (nothing.0, refl) })
        (λ one.
        let lived = chain_join before after start server end opened disk last es es' chain chain' in
        let found = mark_is_prefix l (state_of l start) lived.end es (es ++ es') c lived.run lived.spelled (mark_at l es es' c one) in
        record { saved = found.0; spelled = found.1; which = inr found.2 })
        (any_moment start server end first opened disk last before after es es' none keeps h only_now chain chain' c left)

    -- the same since the start began
    pub kept_since_open : (start end : ServerCore S) (first : DiskView) (opened last : X) (calls : List (Call S X)) (es : List (Entry Saved)) (saved : Saved)
        → start.writing ≡ None → KeepsMain first (kind.view opened) → kind.honest opened
        → ((c : List ℕ) → first.may_leave c → l.meaning.Spells c saved)
        → ((c : List ℕ) → first.left_since first.clock c → first.may_leave c)
        → Chain start opened calls end last es
        → (c : List ℕ) → (kind.view last).left_since first.clock c → IsKept l (state_of l start) saved [] es c
    kept_since_open start end first opened last calls es saved none keeps h spells only_now chain c left =
        ⊎_elim
        (λ first_one. record { saved = saved; spelled = spells c first_one; which = inl (tt, refl) })
        (λ one.
        let lived = chain_lived calls start end opened last es chain in
        let found = mark_is_prefix l (state_of l start) lived.end [] es c lived.run lived.spelled (mark_at l [] es c one) in
        record { saved = found.0; spelled = found.1; which = inr found.2 })
        (since_open start end first opened last calls es none keeps h only_now chain c left)

    -- after a report done in a call of one event, a crash leaves the last mark's text alone
    pub done_alone : (start server end : ServerCore S) (first : DiskView) (opened disk last : X) (before : List (Call S X)) (call : Call S X) (es es' : List (Entry Saved))
        → start.writing ≡ None → KeepsMain first (kind.view opened) → kind.honest opened
        → Chain start opened before server disk es → Chain server disk (call ∷ []) end last es' → IsAlive end
        → (entry : Entry Saved) → call.entries ≡ entry ∷ [] → entry.report ≡ Some Done
        → (c : List ℕ) → (kind.view last).may_leave c → last_of (since_done [] (traces_under l.meaning es)) ≡ c ∷ []
    done_alone start server end first opened disk last before call es es' none keeps h chain chain' alive entry single is_done c left =
        let h' = chain_honest before start server opened disk es h chain in
        let ended = chain'.4 in
        let one = chain'.2.durable (ap (λ (s : ServerCore S). s.halted) (sym ended.0) ∙ alive) (chain'.1.honest_still h') entry single is_done c
        (subst (λ (d : X). (kind.view d).may_leave c) ended.1 left) in
        newest server.writing so_far (subst (λ (xs : Texts). IsOneOf xs c) (ap text_of_open chain'.0.same.writing) one)
      where
        ts : List Trace
        ts = traces_under l.meaning es

        so_far : Survives kind opened disk [] (text_of_open server.writing) ts
        so_far = from_none start server opened disk es none h (chain_lived before start server opened disk es chain)

        newest : (o : Option declared.Open) → Survives kind opened disk [] (text_of_open o) ts → IsOneOf (text_of_open o) c → last_of (since_done [] ts) ≡ c ∷ []
        newest None survives one = absurd one
        newest (Some o) survives (inl same_text) = survives.latest (text_of o.checkpoint) refl ∙ ap (λ (t : List ℕ). t ∷ []) (sym same_text)
        newest (Some o) survives (inr nothing) = absurd nothing

  module _ {D E : Type 0} (kind : DiskKind D) (kind' : DiskKind E) where
    abbrev LentCall : Type 0
    LentCall = Call S (Lent D E)

    -- a run over a disk of either type
    went_of : (call : LentCall) (old new : Lent D E) → IsCallOf l kind kind' call old new
        → Went (lent kind kind') (record call { old = old; disk = new })
    went_of call (One old) (One new) run =
        let lived = subst (λ (es : List (Entry Saved)). Lived l kind (with_disk call.before old) (with_disk call.server new) es) run.entries
        (lived_of l kind call.before call.server old new call.events call.done run.ran) in
        record {
          lived = lived_one kind kind' call.before call.server old new call.entries lived;
          waiting = waits_of l kind call.before call.server old new call.events call.done run.ran
              ∙ ap (λ (es : List (Entry Saved)). then_out (waiting_of l call.before) (out_of es)) run.entries;
          durable = λ alive h entry single is_done c left.
              done_of_one l kind call.before call.server old new call.events call.done run.ran alive h entry (run.entries ∙ single) is_done c left;
          honest_still = run.honest_still;
        }
    went_of call (Other old) (Other new) run =
        let lived = subst (λ (es : List (Entry Saved)). Lived l kind' (with_disk call.before old) (with_disk call.server new) es) run.entries
        (lived_of l kind' call.before call.server old new call.events call.done run.ran) in
        record {
          lived = lived_other kind kind' call.before call.server old new call.entries lived;
          waiting = waits_of l kind' call.before call.server old new call.events call.done run.ran
              ∙ ap (λ (es : List (Entry Saved)). then_out (waiting_of l call.before) (out_of es)) run.entries;
          durable = λ alive h entry single is_done c left.
              done_of_one l kind' call.before call.server old new call.events call.done run.ran alive h entry (run.entries ∙ single) is_done c left;
          honest_still = run.honest_still;
        }
    went_of call (One old) (Other new) run = absurd run
    went_of call (Other old) (One new) run = absurd run

    pub chain_of : (calls : List LentCall) (before after : ServerCore S) (old new : Lent D E) (entries : List (Entry Saved))
        → Calls l kind kind' (with_disk before old) calls (with_disk after new) entries
        → Chain (lent kind kind') before old calls after new entries
    chain_of [] before after old new entries chain = chain
    chain_of (call ∷ calls) before after old new entries chain = (
      chain.0,
      chain.1,
      went_of call call.old call.disk chain.2,
      chain.3,
      chain_of calls call.server after call.disk new chain.3 chain.4,
      chain.5,
    )
