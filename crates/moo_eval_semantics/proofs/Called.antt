-- A verb that a function calls, and what comes after it.
use Rattle.std.proofs.Common.{◌≡◌, ℕ, ℤ, pos, List, Bool, true, false, not, ◌&&◌, Option, None, Some, Result, Ok, Err, if◌then◌else◌, refl, sym, subst}
use Rattle.moo_value.specs.declared.error_code.ErrorCode.{ErrorCode}
use Rattle.moo_value.specs.declared.error_code.ErrorCode.TheVariants.{InvalidArgument}
use Rattle.moo_value.specs.Tree.{Tree, integer}
use Rattle.moo_world_table.specs.World.{World}
use Rattle.moo_eval_frame.specs.Outcome.{Failure, fails, stops}
use Rattle.moo_eval_frame.specs.State.{Context}
use Rattle.moo_eval_access.specs.State.{State}
use Rattle.moo_eval_access.specs.Entering.{Entered}
use Rattle.moo_builtin.specs.Telling.{Telling}
use Rattle.moo_eval_semantics.specs.declared.stage.Stage.{Stage}
use Rattle.moo_eval_semantics.specs.Progressing.{calling, Progress, stage_next, refuses, after_raise, is_missing, hooked, hook}
use Rattle.moo_eval_semantics.specs.Stages.{resumed}
use Rattle.moo_eval_semantics.specs.Meaning.{Proceeds, is_done, hook_stops, hook_then, at_once}
use Rattle.moo_eval_semantics.specs.Verbs.{entering, CallsVerb, passed_over, no_frame, runs}

-- a function goes on with a step, in the world of that step
abbrev pub GoesOn : (T : Telling) → Context → State → Progress × World → Result Tree Failure → State → Type 0
GoesOn T c s p r s' = Proceeds T c p.0 (record s { world = p.1 }) r s'

-- a function goes on at a stage
abbrev pub Resumes : (T : Telling) → Context → Stage → Tree → State → Result Tree Failure → State → Type 0
Resumes T c at v s r s' = Proceeds T c (resumed c at v s).0 (resumed c at v s).1 r s'

-- after a verb: it has failed, or what it answers goes to the stage
pub data Follows (T : Telling) (c : Context) (function : List ℕ) (o : ℤ) (name : List ℕ) (vs : List Tree) (at : Stage) : State → Result Tree Failure → State → Type 0 where
  failed : {s s' : State} {failure : Failure} →
      CallsVerb T c function o name vs s (Err failure) s' →
      Follows T c function o name vs at s (Err failure) s'
  answered : {s s' s'' : State} {v : Tree} {r : Result Tree Failure} →
      CallsVerb T c function o name vs s (Ok v) s' → Resumes T c at v s' r s'' →
      Follows T c function o name vs at s r s''

resumed_by : {T : Telling} {c : Context} (at : Stage) (v : Tree) (s : State) {s' s'' : State} {p : Progress} {r : Result Tree Failure} → resumed c at v s ≡ (p, s') → Proceeds T c p s' r s'' → Resumes T c at v s r s''
resumed_by {T = T} {c = c} at v s {s'' = s''} {r = r} f d = subst (λ (x : Progress × State). Proceeds T c x.0 x.1 r s'') (sym f) d

module _ (T : Telling) (c : Context) (function : List ℕ) (o : ℤ) (name : List ℕ) (vs : List Tree) (at : Stage) where
  missing : {s s' : State} {code : ErrorCode} {r : Result Tree Failure} (b : Bool) → is_missing code ≡ b → entering c o name vs s ≡ Err (fails code) → Proceeds T c (if b then stage_next at else refuses code) s r s' → Follows T c function o name vs at s r s'
  missing {s = s} true m is (at_once f d) = answered (passed_over is m) (resumed_by at (integer (pos 0)) s f d)
  missing false m is is_done = failed (no_frame is m)

  entered_then : {s s' : State} {r : Result Tree Failure} (e : Result Entered Failure) → entering c o name vs s ≡ e → Proceeds T c (hooked function at e) s r s' → Follows T c function o name vs at s r s'
  entered_then (Ok e) is (hook_stops d l a) = failed (runs is d l a)
  entered_then (Ok e) is (hook_then {s'' = u} {v = v} d l a f n) = answered (runs is d l a) (resumed_by at v u f n)
  entered_then (Err (fails code)) is d = missing (is_missing code) refl is d
  entered_then (Err (stops stop)) is is_done = failed (no_frame is refl)

  pub hook_then_follows : {s s' : State} {r : Result Tree Failure} → Proceeds T c (hook (calling c s) s.world function o name vs at) s r s' → Follows T c function o name vs at s r s'
  unfolding hook
  hook_then_follows {s = s} d = entered_then (entering c o name vs s) refl d

-- what the world raises comes first
pub unless_raised : {T : Telling} {c : Context} {s s' : State} {r : Result Tree Failure} (P : Type 0) (raises : Option ErrorCode) (next : Progress × World) →
    ((code : ErrorCode) → raises ≡ Some code → r ≡ Err (fails code) → s' ≡ s → P) → (raises ≡ None → GoesOn T c s next r s' → P) → GoesOn T c s (after_raise s.world raises next) r s' → P
unless_raised P None next raised goes d = goes refl d
unless_raised P (Some code) next raised goes is_done = raised code refl refl refl

-- the first step of a function, and what comes after it
pub begun : {T : Telling} {c : Context} (s : State) {s' s'' : State} {first : Progress × World} {p : Progress} {w : World} {r : Result Tree Failure} → first ≡ (p, w) → record s { world = w } ≡ s' → Proceeds T c p s' r s'' → GoesOn T c s first r s''
begun {T = T} {c = c} s {s'' = s''} {p = p} {r = r} e u d =
    subst (λ (x : Progress × World). GoesOn T c s x r s'') (sym e) (subst (λ (t : State). Proceeds T c p t r s'') (sym u) d)

-- A call with an object that has to be valid is refused if it isn't.
pub refused_object : {code : ErrorCode} (P : ErrorCode → Type 0) (here : Bool) → (here ≡ false → P InvalidArgument) → (if not (here && true) then Some InvalidArgument else None) ≡ Some code → P code
refused_object P true gone q = absurd cc
refused_object {code = code} P false gone q = let e : InvalidArgument ≡ code = cc in subst P e (gone refl)

pub valid_object : (here : Bool) → (if not (here && true) then Some InvalidArgument else None) ≡ None → here ≡ true
valid_object true q = refl
valid_object false q = absurd cc
