-- Lives, one after another.
use Rattle.std.proofs.Common.{◌≡◌, ◌↔◌, ◌<◌, ◌≤◌, IsOk, inl, inr, ⊎_elim, ℕ, List, [], ◌∷◌, ◌++◌, length, Option, Some, None, Result, Ok, Err, refl, sym, ◌∙◌, ap, subst}
use Rattle.std.specs.Prelude.{IfErr, IfOk}
use Rattle.std.proofs.lemmas.Bool.{cases_lt}
use Rattle.std.proofs.lemmas.List.{append-nil}
use Rattle.std.specs.Option.{option_map}
use Rattle.moo_disk.specs.Disk.{DiskKind, LeavesOnly}
use Rattle.moo_dbtext_read.specs.Saved.{Saved}
use Rattle.moo_server_core.specs.Application.{Layer}
use Rattle.moo_server_core.specs.Traces.{Trace}
use Rattle.moo_server_core.specs.Crash.{IsOneOf, only_text, since_done, texts_of_marks, Survives}
use Rattle.moo_server_core.specs.Meaning.{Entry, trace_of}
use Rattle.moo_server_core.specs.declared.event.Event as given
use Rattle.moo_server_core.specs.declared.event.RunFault.{RunFault}
use Rattle.moo_server_core.specs.declared.server_core.ServerCore.{ServerCore}
use Rattle.moo_server_core.specs.Server.{IsAlive, Lived, MarkSpells, MarksSpell, done_of, on_its_way, text_of_open, traces_under, with_disk}
use Rattle.moo_server_core.proofs.Joining.{Texts, keeps_all, no_others, one_of_either, over}
use Rattle.moo_server_core.proofs.Running.{lived_of}
use Rattle.moo_server_core.specs.declared.life.Life.{Life}
use Rattle.moo_server_core.specs.declared.life.LifeBegin.{LifeBegin}
use Rattle.moo_server_core.specs.declared.life.LifeStop.{LifeStop}
use Rattle.moo_server_core.specs.declared.life.LifeStop.TheVariants.{Crash, ServerOnly}
use Rattle.moo_server_core.specs.declared.life.LivesCause.{LivesCause}
use Rattle.moo_server_core.specs.declared.life.LivesCause.TheVariants.{NoSuchImage, Memory}
use Rattle.moo_server_core.specs.declared.life.LivesCause.TheVariants.{Open as not_open}
use Rattle.moo_server_core.specs.Lives.{AreTold, EndsBefore, HasLived, HasNoImage, IsLeft, IsLife, IsMet, IsStopped, IsTold, LifeRun, Lives, RanAll, SoFar}

pub ran_all : {S : Type 0} (result : Result ℕ RunFault) (events told : List given.Event) (end : ServerCore S) → events ≡ told
    → IfOk result (λ n. (n ≡ length events) × IsAlive end) → RanAll result told end
ran_all (Ok n) events told end same all = (all.0 ∙ ap (λ (es : List given.Event). length es) same, all.1)
ran_all (Err fault) events told end same all = tt

-- there is no i-th one
pub no_image : {T E : Type 0} (r : Result T E) (n i : ℕ) (e : E) → r ≡ Err e → IsOk r ↔ (i < n) → n ≤ i
no_image r n i e is iff = ⊎_elim (λ lt. absurd (never r e is (iff.1 lt))) (λ le. le) (cases_lt i n)
  where
    never : {T E : Type 0} (r : Result T E) (e : E) → r ≡ Err e → IsOk r → ⊥
    never (Ok t) e is ok = absurd (cc)
    never (Err f) e is ok = absurd (cc)

module _ {S Application : Type 0} (l : Layer S Application Saved) where
  marks_spelled : (es : List (Entry Saved)) (c : List ℕ) → MarksSpell l.meaning es → IsOneOf (texts_of_marks (traces_under l.meaning es)) c → (s : Saved) × l.meaning.Spells c s
  marks_spelled [] c all one = absurd one
  marks_spelled (e ∷ es) c all one =
      ⊎_elim (λ here. of_mark e.mark all.0 here) (λ there. marks_spelled es c all.1 there)
      (one_of_either (only_text (trace_of l.meaning.text_of e).mark) (texts_of_marks (traces_under l.meaning es)) c one)
    where
      of_mark : (mark : Option Saved) → MarkSpells l.meaning mark → IsOneOf (only_text (option_map l.meaning.text_of mark)) c → (s : Saved) × l.meaning.Spells c s
      of_mark None spells none = absurd none
      of_mark (Some saved) spells (inl same) = (saved, subst (λ (t : List ℕ). l.meaning.Spells t saved) (sym same) spells)
      of_mark (Some saved) spells (inr none) = absurd none

  told_push : {D : Type 0} (lives : List Life) (runs : List (LifeRun S D)) (begins : List LifeBegin) (life : Life) (run : LifeRun S D) (begin : LifeBegin)
      → AreTold l lives runs begins → IsTold l life run begin → AreTold l (lives ++ life ∷ []) (runs ++ run ∷ []) (begins ++ begin ∷ [])
  told_push [] [] [] life run begin all one = (one, tt)
  told_push (x ∷ xs) (y ∷ ys) (z ∷ zs) life run begin all one = (all.0, told_push xs ys zs life run begin all.1 one)
  told_push [] [] (z ∷ zs) life run begin all one = absurd all
  told_push [] (y ∷ ys) zs life run begin all one = absurd all
  told_push (x ∷ xs) [] zs life run begin all one = absurd all
  told_push (x ∷ xs) (y ∷ ys) [] life run begin all one = absurd all

  module _ {D : Type 0} (kind : DiskKind D) (images : D → List (List ℕ)) where
    lives_push : (disk : D) (texts left after : Texts) (runs : List (LifeRun S D)) (run : LifeRun S D) (last new : D)
        → Lives l kind images disk texts runs left last
        → run.old ≡ last → IsOneOf left run.main → l.meaning.Spells run.main run.saved → kind.honest run.old → IsLife l kind run
        → IsLeft run.stop (since_done left (traces_under l.meaning run.entries)) after → IsStopped kind images run.stop run.new new
        → Lives l kind images disk texts (runs ++ run ∷ []) after new
    lives_push disk texts left after [] run last new same old_is one spells h is goes stopped =
        subst (λ (ts : Texts). Lives l kind images disk ts (run ∷ []) after new) same.0 (
          after,
          new,
          record { begins_over = old_is ∙ same.1; honest_then = h; reads = one; begins_from = spells; lived = is; leaves = goes; ends = stopped },
          (refl, refl),
        )
    lives_push disk texts left after (r ∷ runs) run last new all old_is one spells h is goes stopped = (
      all.0,
      all.1,
      all.2,
      lives_push all.1 all.0 left after runs run last new all.3 old_is one spells h is goes stopped,
    )

    -- the events of a life, from the texts before it on
    traces_in : LifeRun S D → List Trace
    traces_in run = traces_under l.meaning run.entries

    lived_in : (run : LifeRun S D) → IsLife l kind run → Lived l kind (with_disk run.start run.opened) (with_disk run.end run.new) run.entries
    lived_in run is = subst (λ (es : List (Entry Saved)). Lived l kind (with_disk run.start run.opened) (with_disk run.end run.new) es) is.entries
        (lived_of l kind run.start run.end run.opened run.new run.events (done_of run.result) is.runs.ran)

    -- what a crash leaves after a life
    after_life : (run : LifeRun S D) (texts : Texts) → kind.honest run.old → IsLife l kind run → ((c : List ℕ) → (kind.view run.old).may_leave c → IsOneOf texts c)
        → (c : List ℕ) → (kind.view run.new).may_leave c → IsOneOf (since_done texts (traces_under l.meaning run.entries)) c
    after_life run texts h is within c left =
        ⊎_elim (λ was. keeps_all texts traces c was.0 (within c (at_first was.1)))
        (λ one. subst (λ (ts : Texts). IsOneOf (since_done ts traces) c) (append-nil texts) one)
        ((over kind run.opened run.new [] (on_its_way run.end) traces survives).left texts c left)
      where
        traces : List Trace
        traces = traces_under l.meaning run.entries

        at_first : (kind.view run.opened).may_leave c → (kind.view run.old).may_leave c
        at_first left' = ⊎_elim (λ was. was) (λ none. absurd none) ((is.opened.main h).crash.now c left')

        survives : Survives kind run.opened run.new [] (on_its_way run.end) traces
        survives = subst (λ (ts : Texts). Survives kind run.opened run.new ts (on_its_way run.end) traces) (ap text_of_open is.opened.no_checkpoint)
            ((lived_in run is).survives (is.opened.honest_still h))

    after_spelled : (run : LifeRun S D) (texts : Texts) → IsLife l kind run → ((c : List ℕ) → IsOneOf texts c → (s : Saved) × l.meaning.Spells c s)
        → (c : List ℕ) → IsOneOf (since_done texts (traces_under l.meaning run.entries)) c → (s : Saved) × l.meaning.Spells c s
    after_spelled run texts is spelled c one =
        ⊎_elim (λ was. spelled c was) (λ mark. marks_spelled run.entries c (lived_in run is).spelled mark)
        (one_of_either texts (texts_of_marks (traces_under l.meaning run.entries)) c (no_others texts (traces_under l.meaning run.entries) c one))

    -- the disk after a life's end, and what may be under its main
    pub record After (run : LifeRun S D) (texts : Texts) (new : D) : Type 0 where
      pub after : Texts
      pub goes : IsLeft run.stop texts after
      pub honest_still : kind.honest new
      pub within : (c : List ℕ) → (kind.view new).may_leave c → IsOneOf after c
      pub spelled : (c : List ℕ) → IsOneOf after c → (s : Saved) × l.meaning.Spells c s

    stopped : (run : LifeRun S D) (texts : Texts) (new : D) (stop : LifeStop) → run.stop ≡ stop → kind.honest run.new → IsStopped kind images stop run.new new
        → ((c : List ℕ) → (kind.view run.new).may_leave c → IsOneOf texts c) → ((c : List ℕ) → IsOneOf texts c → (s : Saved) × l.meaning.Spells c s) → After run texts new
    stopped run texts new ServerOnly is_stop h same within spelled = record {
      after = texts;
      goes = subst (λ (s : LifeStop). IsLeft s texts texts) (sym is_stop) refl;
      honest_still = subst kind.honest (sym same) h;
      within = λ c left. within c (subst (λ (d : D). (kind.view d).may_leave c) same left);
      spelled = spelled;
    }
    stopped run texts new (Crash i) is_stop h crash within spelled =
        let crashed = crash h in
        let left = crashed.left in
        let one = within (kind.view new).main_text left.text in
        record {
          after = (kind.view new).main_text ∷ [];
          goes = subst (λ (s : LifeStop). IsLeft s texts ((kind.view new).main_text ∷ [])) (sym is_stop) ((kind.view new).main_text, one, refl);
          honest_still = crashed.honest_still;
          within = λ c left'. inl (left.only c left');
          spelled = λ c is. ⊎_elim (λ same. let found = spelled (kind.view new).main_text one in (found.0, subst (λ (t : List ℕ). l.meaning.Spells t found.0) (sym same) found.1)) (λ none. absurd none) is;
        }

    -- one life more
    pub so_far_more : (lives : List Life) (begins : List LifeBegin) (first old end new : D) (life : Life) (begin : LifeBegin)
        → (kind.honest old → (kind.view old).may_leave (kind.view old).main_text)
        → SoFar l kind images lives begins first old → HasLived l kind life old end begin → IsStopped kind images life.stop end new
        → SoFar l kind images (lives ++ life ∷ []) (begins ++ begin ∷ []) first new
    so_far_more lives begins first old end new life begin reads so_far has stop =
        let run = has.run in
        let h : kind.honest run.old = subst kind.honest (sym has.old_is) so_far.honest_still in
        let within = subst (λ (d : D). (c : List ℕ) → (kind.view d).may_leave c → IsOneOf so_far.left c) (sym has.old_is) so_far.within in
        let main_is = has.is.main in
        let left_main : IsOneOf so_far.left run.main = subst (λ (t : List ℕ). IsOneOf so_far.left t) (sym main_is) (within (kind.view run.old).main_text (subst (λ (d : D). (kind.view d).may_leave (kind.view d).main_text) (sym has.old_is) (reads so_far.honest_still))) in
        let found = so_far.spelled run.main left_main in
        let saved_is : found.0 ≡ run.saved = has.is.opened.only h found.0 (subst (λ (t : List ℕ). l.meaning.Spells t found.0) main_is found.1) in
        let h_new : kind.honest run.new = has.is.honest_still h in
        let stop' : IsStopped kind images life.stop run.new new = subst (λ (d : D). IsStopped kind images life.stop d new) (sym has.new_is) stop in
        let following = stopped run (since_done so_far.left (traces_under l.meaning run.entries)) new life.stop has.told.stop h_new stop'
        (after_life run so_far.left h has.is within) (after_spelled run so_far.left has.is so_far.spelled) in
        record {
          runs = so_far.runs ++ run ∷ [];
          left = following.after;
          lived = lives_push first ((kind.view first).main_text ∷ []) so_far.left following.after so_far.runs run old new so_far.lived has.old_is left_main
              (subst (λ (s : Saved). l.meaning.Spells run.main s) saved_is found.1) h has.is following.goes
              (subst (λ (s : LifeStop). IsStopped kind images s run.new new) (sym has.told.stop) stop');
          told = told_push lives so_far.runs begins life run begin so_far.told has.told;
          honest_still = following.honest_still;
          within = following.within;
          spelled = following.spelled;
        }

    pub so_far_none : (disk : D) (s : Saved) → kind.honest disk → l.meaning.Spells (kind.view disk).main_text s
        → LeavesOnly (kind.view disk).main_text (kind.view disk) → SoFar l kind images [] [] disk disk
    so_far_none disk s h spells only = record {
      runs = [];
      left = (kind.view disk).main_text ∷ [];
      lived = (refl, refl);
      told = tt;
      honest_still = h;
      within = λ c left. inl (only c left);
      spelled = λ c is. ⊎_elim (λ same. (s, subst (λ (t : List ℕ). l.meaning.Spells t s) (sym same) spells)) (λ none. absurd none) is;
    }

    -- a life that didn't begin
    pub live_met : (life : Life) (old new : D) (cause : LivesCause) → IsMet l kind old new cause → EndsBefore l kind images life old new cause
    live_met life old new (not_open fault) met = met
    live_met life old new NoSuchImage met = absurd met
    live_met life old new Memory met = absurd met

    -- a crash that left no such text
    pub stop_met : {X : Type 0} (r : Result X (D × LivesCause)) (life : Life) (old end : D) (begin : LifeBegin) → HasLived l kind life old end begin
        → IfErr r (λ given. (given.1 ≡ NoSuchImage) × HasNoImage images life.stop end × (given.0 ≡ end)) → IfErr r (λ given. EndsBefore l kind images life old given.0 given.1)
    stop_met (Ok x) life old end begin lived met = tt
    stop_met (Err given) life old end begin lived met =
        subst (λ (c : LivesCause). EndsBefore l kind images life old given.0 c) (sym met.0) (
          begin,
          subst (λ (d : D). HasLived l kind life old d begin) (sym met.2) lived,
          subst (λ (d : D). HasNoImage images life.stop d) (sym met.2) met.1,
        )

    -- what was lived, and how it was stopped
    pub stop_lived : {E : Type 0} (r : Result (D × LifeBegin) E) (life : Life) (old end : D) (begin : LifeBegin) → HasLived l kind life old end begin
        → IfOk r (λ given. (given.1 ≡ begin) × IsStopped kind images life.stop end given.0)
        → IfOk r (λ given. (end : D) × HasLived l kind life old end given.1 × IsStopped kind images life.stop end given.0)
    stop_lived (Ok given) life old end begin lived stopped = (end, subst (λ (b : LifeBegin). HasLived l kind life old end b) (sym stopped.0) lived, stopped.1)
    stop_lived (Err e) life old end begin lived stopped = tt
