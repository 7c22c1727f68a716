-- Lines of a script, one after another.
use Rattle.std.proofs.Common.{◌≡◌, ℕ, ◌+◌, List, [], ◌∷◌, ◌++◌, length, Some, None, refl, sym, ◌∙◌, ap, subst, append_assoc, append-nil, length-append}
use Rattle.std.specs.Prelude.{Option, MatchOption}
use Rattle.std.specs.Io.KnownBytes.{Appends, IsAtEnd}
use Rattle.std.proofs.KnownBytes.{Appends-trans}
use Rattle.moo_dbtext_read.specs.Saved.{Saved}
use Rattle.moo_server_core.specs.Application.{Layer}
use Rattle.moo_server_core.specs.Server.{waiting_of}
use Rattle.moo_cli_script.specs.ScriptLines.{Asks, Step}
use Rattle.moo_cli_script.specs.Lines.{TakesLine, lines_of}
use Rattle.moo_cli_script.specs.declared.playing.Next.{Next}
use Rattle.moo_cli_script.specs.declared.playing.Next.TheVariants.{Goes, Stops}
use Rattle.moo_cli_script.specs.declared.script.Script.{Script}
use Rattle.moo_cli_script.specs.declared.work.Work.{Work}
use Rattle.moo_cli_script.specs.Script.{Fits, printed_below, shown_of}
use Rattle.moo_cli_script.specs.Told.{stop_line, stop_status}
use Rattle.moo_cli_script.specs.declared.telling.Stop.{Stop}
use Rattle.moo_cli_script.specs.Playing.{Ends, EndsAt, IsStop, IsTaken, Plays, PlaysInput, Takes}
use Rattle.moo_cli_script.specs.Works.{IsDone, IsNext, IsWork, is_show, printed_of}
use Rattle.moo_cli_script.proofs.Steps.{shown_is}

pub at_some : {A : Type 0} (o : Option A) (x : A) (N : Type 0) (P : A → Type 0) → o ≡ Some x → MatchOption o N P → P x
at_some {A = A} o x N P is h = subst (λ (k : Option A). MatchOption k N P) is h

pub at_none : {A : Type 0} (o : Option A) (N : Type 0) (P : A → Type 0) → ((x : A) → o ≡ Some x → ⊥) → MatchOption o N P → N
at_none None N P none h = h
at_none (Some x) N P none h = absurd (none x refl)

-- these lines were taken of an input
abbrev pub TakesLines : Option (List ℕ) → Option (List ℕ) → List (List ℕ) → Type 0
TakesLines None new lines = Unit {0}
TakesLines (Some bytes) None lines = ⊥
TakesLines (Some bytes) (Some rest) lines = lines_of bytes ≡ lines ++ lines_of rest

none_taken : (known : Option (List ℕ)) → TakesLines known known []
none_taken None = tt
none_taken (Some bytes) = refl

one_taken : (first now after : Option (List ℕ)) (lines : List (List ℕ)) (line : List ℕ) → TakesLines first now lines → TakesLine now after line → TakesLines first after (lines ++ line ∷ [])
one_taken None now after lines line taken takes = tt
one_taken (Some bytes) None after lines line taken takes = absurd taken
one_taken (Some bytes) (Some rest) None lines line taken takes = absurd takes
one_taken (Some bytes) (Some rest) (Some left) lines line taken takes =
    taken ∙ ap (λ ls. lines ++ ls) takes ∙ sym (append_assoc lines (line ∷ []) (lines_of left))

module _ {S Application : Type 0} (l : Layer S Application Saved) where
  -- the line's work is done, or refused
  pub next_of : (script : Script S) (w : Work) (line : List ℕ) (s : Step) (old new : Option (List ℕ)) (next : Next S)
      → IsWork w s → Asks line s → IsDone l script w old new next → IsNext l script line old new next
  next_of script w line s old new (Goes next) works asks done =
      let front : printed_of l (is_show w) done.1 ≡ shown_of l s done.1 ++ printed_below done.1.top (waiting_of l done.1.server).sent =
      ap (λ (t : List ℕ). t ++ printed_below done.1.top (waiting_of l done.1.server).sent) (shown_is l w s done.1 works) in (
        done.0,
        printed_of l (is_show w) done.1,
        record { step = s; asks = asks; done = done.1; does = done.2 s works; hands = done.3; text_is = front },
        done.4,
      )
  next_of script w line s old new (Stops stop) works asks done =
      (subst (λ (x : Stop). IsStop l script line x) (sym done.1) (s, asks, done.2 s works), done.3)

  -- ---- lines that were taken

  takes_more : (front : List (List ℕ)) (start mid end : Script S) (own text line : _) → Takes l start front mid own → IsTaken l line mid end text
      → Takes l start (front ++ line ∷ []) end (own ++ text)
  takes_more [] start mid end own text line takes taken =
      (end, text, [], subst (λ (x : Script S). IsTaken l line x end text) takes.0 taken, (refl, refl), ap (λ (t : List ℕ). t ++ text) takes.1 ∙ sym (append-nil text))
  takes_more (x ∷ front) start mid end own text line takes taken = (
    takes.0,
    takes.1,
    takes.2 ++ text,
    takes.3,
    takes_more front takes.0 mid end takes.2 text line takes.4 taken,
    ap (λ (t : List ℕ). t ++ text) takes.5 ∙ append_assoc takes.1 takes.2 text,
  )

  -- so many lines of the input were taken, and this was printed
  pub record HasPlayed (start now : Script S) (count : ℕ) (first rest old new : Option (List ℕ)) : Type 0 where
    pub front : List (List ℕ)
    pub own : List ℕ
    pub takes : Takes l start front now own
    pub counted : length front ≡ count
    pub read : TakesLines first rest front
    pub grown : Appends old new own

  pub none_played : (start : Script S) (known contents : Option (List ℕ)) → HasPlayed start start 0 known known contents contents
  none_played start known contents = record {
    front = [];
    own = [];
    takes = (refl, refl);
    counted = refl;
    read = none_taken known;
    grown = kept contents;
  }
    where
      kept : (c : Option (List ℕ)) → Appends c c []
      kept None = tt
      kept (Some x) = sym (append-nil x)

  pub one_played : (start now next : Script S) (count : ℕ) (line text : List ℕ) (first rest after old mid new : Option (List ℕ))
      → HasPlayed start now count first rest old mid → TakesLine rest after line → IsTaken l line now next text → Appends mid new text
      → HasPlayed start next (count + 1) first after old new
  one_played start now next count line text first rest after old mid new played takes taken grows = record {
    front = played.front ++ line ∷ [];
    own = played.own ++ text;
    takes = takes_more played.front start now next played.own text line played.takes taken;
    counted = length-append played.front (line ∷ []) ∙ ap (λ n. n + 1) played.counted;
    read = one_taken first rest after played.front line played.read takes;
    grown = Appends-trans old mid new played.own text played.grown grows;
  }

  -- ---- the end

  ended : (start now : Script S) (count : ℕ) (lines rest : List (List ℕ)) (front : List (List ℕ)) (own last : List ℕ) (status : ℕ)
      → Takes l start front now own → length front ≡ count → lines ≡ front ++ rest → Ends l now count rest last status → Plays l start lines (own ++ last) status
  ended start now count lines rest front own last status takes counted all ends = record {
    front = front;
    rest = rest;
    all = all;
    end = now;
    own = own;
    last = last;
    takes = takes;
    ends = subst (λ n. Ends l now n rest last status) (sym counted) ends;
    text_is = refl;
  }

  -- the input has no line left
  pub all_played : (start now : Script S) (count : ℕ) (first rest old new : Option (List ℕ)) (status : ℕ) → HasPlayed start now count first rest old new → IsAtEnd rest → status ≡ 0
      → PlaysInput l start first old new status
  all_played start now count None rest old new status played end zero = tt
  all_played start now count (Some bytes) None old new status played end zero = absurd played.read
  all_played start now count (Some bytes) (Some rest) old new status played end zero = (
    played.own ++ [],
    ended start now count (lines_of bytes) [] played.front played.own [] status played.takes played.counted (played.read ∙ ap (λ (r : List ℕ). played.front ++ lines_of r) end) (refl, zero),
    subst (λ (t : List ℕ). Appends old new t) (sym (append-nil played.own)) played.grown,
  )

  -- the script ends at a line
  pub last_played : (start now : Script S) (count : ℕ) (line text : List ℕ) (first rest after old mid new : Option (List ℕ)) (status : ℕ)
      → HasPlayed start now count first rest old mid → TakesLine rest after line → EndsAt l now (count + 1) line text status → Appends mid new text
      → PlaysInput l start first old new status
  last_played start now count line text None rest after old mid new status played takes ends grows = tt
  last_played start now count line text (Some bytes) None after old mid new status played takes ends grows = absurd played.read
  last_played start now count line text (Some bytes) (Some rest) None old mid new status played takes ends grows = absurd takes
  last_played start now count line text (Some bytes) (Some rest) (Some left) old mid new status played takes ends grows = (
    played.own ++ text,
    ended start now count (lines_of bytes) (line ∷ lines_of left) played.front played.own text status played.takes played.counted (played.read ∙ ap (λ ls. played.front ++ ls) takes) ends,
    Appends-trans old mid new played.own text played.grown grows,
  )

  -- ---- by what comes after a line

  pub went_on : (start now next : Script S) (count : ℕ) (line given : List ℕ) (n : Next S) (first rest after old mid new : Option (List ℕ))
      → HasPlayed start now count first rest old mid → TakesLine rest after line → given ≡ line → n ≡ Goes next → IsNext l now given mid new n
      → Fits l next × HasPlayed start next (count + 1) first after old new
  went_on start now next count line given n first rest after old mid new played takes same is answered =
      let goes : IsNext l now line mid new (Goes next) =
      subst (λ (x : Next S). IsNext l now line mid new x) is (subst (λ (t : List ℕ). IsNext l now t mid new n) same answered) in
      (goes.0, one_played start now next count line goes.1 first rest after old mid new played takes goes.2 goes.3)

  pub ended_at : (start now : Script S) (count : ℕ) (line given : List ℕ) (stop : Stop) (n : Next S) (first rest after old mid new end : Option (List ℕ)) (status : ℕ)
      → HasPlayed start now count first rest old mid → TakesLine rest after line → given ≡ line → n ≡ Stops stop → IsNext l now given mid new n
      → (status ≡ stop_status stop) × Appends new end (stop_line (count + 1) stop) → PlaysInput l start first old end status
  ended_at start now count line given stop n first rest after old mid new end status played takes same is answered told =
      let stops : IsNext l now line mid new (Stops stop) =
      subst (λ (x : Next S). IsNext l now line mid new x) is (subst (λ (t : List ℕ). IsNext l now t mid new n) same answered) in
      last_played start now count line (stop_line (count + 1) stop) first rest after old mid end status played takes (stop, stops.0, refl, told.0)
      (subst (λ (o : Option (List ℕ)). Appends o end (stop_line (count + 1) stop)) stops.1 told.1)

  pub still_at : (now : Script S) (given : List ℕ) (stop : Stop) (n : Next S) (old mid new : Option (List ℕ)) (own : List ℕ) → Appends old mid own → n ≡ Stops stop
      → IsNext l now given mid new n → Appends old new own
  still_at now given stop n old mid new own grows is answered =
      let stops : IsNext l now given mid new (Stops stop) = subst (λ (x : Next S). IsNext l now given mid new x) is answered in
      subst (λ (o : Option (List ℕ)). Appends old o own) (sym stops.1) grows
