-- What functions that call verbs come to from stage to stage, and what `create` and `move` answer so.
use Rattle.std.proofs.Common.{◌≡◌, ℕ, ℤ, pos, negsuc, not, Bool, true, false, List, ◌∷◌, [], Option, Some, None, Result, Ok, Err, if◌then◌else◌, length, refl, sym, subst}
use Rattle.std.specs.Ordering.{int_eq}
use Rattle.moo_value.specs.declared.error_code.ErrorCode.{ErrorCode}
use Rattle.moo_value.specs.Tree.{Tree, integer, object}
use Rattle.moo_builtin_operator.specs.Truth.{is_true}
use Rattle.moo_syntax_function.specs.declared.function.Function.TheVariants as function
use Rattle.moo_world_table.specs.World.{World}
use Rattle.moo_world.specs.Calls.{number_of, place_of, create_raises, move_raises}
use Rattle.moo_world.specs.Rights.{controls, may_own}
use Rattle.moo_eval_frame.specs.Outcome.{Failure, fails, stops}
use Rattle.moo_eval_frame.specs.State.{Context}
use Rattle.moo_eval_access.specs.State.{State}
use Rattle.moo_eval_access.specs.Entering.{Entered}
use Rattle.moo_builtin.specs.Telling.{Telling}
use Rattle.moo_eval_semantics.specs.Later.{Later}
use Rattle.moo_eval_semantics.proofs.CallOnward.{stays}
use Rattle.moo_eval_semantics.specs.declared.stage.Stage.{Stage}
use Rattle.moo_eval_semantics.specs.declared.stage.Stage.TheVariants as stage
use Rattle.moo_eval_semantics.specs.Progressing.{Calling, calling, Progress, done, verb_next, stage_next, refuses, after_raise, is_missing, hooked, hook}
use Rattle.moo_eval_semantics.specs.Objects.{is_place}
use Rattle.moo_eval_semantics.specs.Quota.{quota, is_used_up}
use Rattle.moo_eval_semantics.specs.Creating.{may_be_parent, next_number, creating}
use Rattle.moo_eval_semantics.specs.Moving.{is_to_move, moved, moving, may_enter, accepted, has_come, after_leaving}
use Rattle.moo_eval_semantics.specs.Stages.{resumed}
use Rattle.moo_eval_semantics.specs.VerbCalls.{create_begins, move_begins, Starts, refused, starts}
use Rattle.moo_eval_semantics.specs.Meaning.{Proceeds, is_done, hook_stops, hook_then, at_once}
use Rattle.moo_eval_semantics.proofs.Onward.{returned, later_block}

pub either : {A : Type 0} (P : A → Type 0) (b : Bool) (x y : A) → P x → P y → P (if b then x else y)
either P true x y p q = p
either P false x y p q = q

-- which stages of a function may come next in a state, and which values it may answer in one
module _ (At : Stage → State → Type 0) (Gives : Tree → State → Type 0) where
  abbrev pub Answers : Result Tree Failure → State → Type 0
  Answers (Ok v) s = Gives v s
  Answers (Err failure) s = Unit {0}

  -- a stage after a verb may come in whatever state the verb leaves
  abbrev pub GoesOn : Progress → State → Type 0
  GoesOn (done r) s = Answers r s
  GoesOn (verb_next e at) s = (u : State) → Later s u → At at u
  GoesOn (stage_next at) s = At at s

  abbrev pub GoesOnFrom : State → Progress × World → Type 0
  GoesOnFrom s p = GoesOn p.0 (record s { world = p.1 })

  pub raised_on : (s : State) (w : World) (raises : Option ErrorCode) (next : Progress × World) → (raises ≡ None → GoesOnFrom s next) → GoesOnFrom s (after_raise w raises next)
  raised_on s w None next h = h refl
  raised_on s w (Some code) next h = tt

  missing_on : (at : Stage) (code : ErrorCode) (b : Bool) (s : State) → At at s → GoesOn (if b then stage_next at else refuses code) s
  missing_on at code true s h = h
  missing_on at code false s h = tt

  hooked_on : (name : List ℕ) (at : Stage) (r : Result Entered Failure) (s : State) → ((u : State) → Later s u → At at u) → GoesOn (hooked name at r) s
  hooked_on name at (Ok e) s h = h
  hooked_on name at (Err (fails code)) s h = missing_on at code (is_missing code) s (h s stays)
  hooked_on name at (Err (stops stop)) s h = tt

  pub hook_on : (k : Calling) (w : World) (name : List ℕ) (o : ℤ) (verb : List ℕ) (vs : List Tree) (at : Stage) (s : State) → ((u : State) → Later s u → At at u) → GoesOn (hook k w name o verb vs at) s
  unfolding hook
  hook_on k w name o verb vs at s h = hooked_on name at _ s h

  pub begins_on : (s : State) {first : Progress × World} {p : Progress} {w : World} {s' : State} → first ≡ (p, w) → record s { world = w } ≡ s' → GoesOnFrom s first → GoesOn p s'
  begins_on s {p = p} e u h = subst (λ (t : State). GoesOn p t) u (subst (GoesOnFrom s) e h)

  -- what follows from stage to stage
  pub answer_of : {T : Telling} (c : Context) → ((at : Stage) (v : Tree) (s : State) → At at s → GoesOn (resumed c at v s).0 (resumed c at v s).1) → {p : Progress} {s s' : State} {r : Result Tree Failure} → Proceeds T c p s r s' → GoesOn p s → Answers r s'
  answer_of c next is_done h = h
  answer_of c next (hook_stops d l g) h = tt
  answer_of {T = T} c next (hook_then {e = e} {stage = at} {s'' = u} {v = v} d l g f a) h = answer_of c next a (subst (λ (x : Progress × State). GoesOn x.0 x.1) f (next at v u (h u (returned e (later_block T d) l))))
  answer_of c next (at_once {stage = at} {s = s} f a) h = answer_of c next a (subst (λ (x : Progress × State). GoesOn x.0 x.1) f (next at (integer (pos 0)) s h))

abbrev IsCreated : ℤ → Stage → State → Type 0
IsCreated o at s = at ≡ stage.Created o

abbrev IsObject : ℤ → Tree → State → Type 0
IsObject o v s = v ≡ object o

created_next : (o : ℤ) (c : Context) (at : Stage) (v : Tree) (s : State) → IsCreated o at s → GoesOn (IsCreated o) (IsObject o) (resumed c at v s).0 (resumed c at v s).1
created_next o c at v s h = subst (λ (x : Stage). GoesOn (IsCreated o) (IsObject o) (resumed c x v s).0 (resumed c x v s).1) (sym h) refl

creating_on : (k : Calling) (s : State) (w : World) (up owner : ℤ) → GoesOnFrom (IsCreated (next_number w)) (IsObject (next_number w)) s (creating k w up owner)
unfolding creating
creating_on k s w up owner =
    let Next = GoesOnFrom (IsCreated (next_number w)) (IsObject (next_number w)) s in
    either Next (not (may_be_parent w k.programmer up)) _ _ tt
    (either Next (is_used_up (quota w owner)) _ _ tt
    (raised_on (IsCreated (next_number w)) (IsObject (next_number w)) s w (create_raises w (place_of w.objects up)) _ (λ e.
    either Next (not (controls w k.programmer owner)) _ _ tt (hook_on (IsCreated (next_number w)) (IsObject (next_number w)) k _ _ _ _ _ _ _ (λ u l. refl)))))

create_on : (k : Calling) (s : State) (w : World) (vs : List Tree) → GoesOnFrom (IsCreated (next_number w)) (IsObject (next_number w)) s (create_begins k w vs)
create_on k s w (object up ∷ []) = creating_on k s w up k.programmer
create_on k s w (object up ∷ object owner ∷ []) = creating_on k s w up owner
create_on k s w _ = tt

create_starts : {T : Telling} {c : Context} {args : List Tree} {s s' : State} {p : Progress} → Starts T c function.Create args s p s' → GoesOn (IsCreated (next_number s.world)) (IsObject (next_number s.world)) p s'
create_starts (refused q) = tt
create_starts (starts {c = c} {vs = vs} {s = s} q h u) = begins_on (IsCreated (next_number s.world)) (IsObject (next_number s.world)) s h u (create_on (calling c s) s s.world vs)

pub create_answers : {T : Telling} {c : Context} {args : List Tree} {s s' s'' : State} {p : Progress} {v : Tree} → Starts T c function.Create args s p s' → Proceeds T c p s' (Ok v) s'' → v ≡ object (pos (length s.world.objects))
create_answers {c = c} {s = s} b d = answer_of (IsCreated (next_number s.world)) (IsObject (next_number s.world)) c (created_next (next_number s.world) c) d (create_starts b)

abbrev IsOfMove : Stage → State → Type 0
IsOfMove (stage.Accepting what to) s = Unit {0}
IsOfMove (stage.Leaving what to) s = Unit {0}
IsOfMove stage.Entering s = Unit {0}
IsOfMove _ s = ⊥

abbrev IsZero : Tree → State → Type 0
IsZero v s = v ≡ integer (pos 0)

moved_on : (k : Calling) (s : State) (w : World) (what to : ℤ) → GoesOnFrom IsOfMove IsZero s (moved k w what to)
unfolding moved
moved_on k s w what to = either (GoesOnFrom IsOfMove IsZero s) (is_to_move w what to) _ _ (raised_on IsOfMove IsZero s w (move_raises w (number_of w.objects what) (place_of w.objects to)) _ (λ e. hook_on IsOfMove IsZero k _ _ _ _ _ (stage.Leaving what to) _ (λ u l. tt))) refl

moving_on : (k : Calling) (s : State) (w : World) (what to : ℤ) → GoesOnFrom IsOfMove IsZero s (moving k w what to)
unfolding moving
moving_on k s w what to =
    let Next = GoesOnFrom IsOfMove IsZero s in
    either Next (not (is_place w to)) _ _ tt
    (either Next (not (may_own w k.programmer what)) _ _ tt
    (either Next (int_eq to (negsuc 0)) _ _ (moved_on k s w what to) (hook_on IsOfMove IsZero k w _ to _ _ (stage.Accepting what to) _ (λ u l. tt))))

accepted_on : (k : Calling) (s : State) (w : World) (what to : ℤ) (answer : Bool) → GoesOnFrom IsOfMove IsZero s (accepted k w what to answer)
unfolding accepted
accepted_on k s w what to answer = either (GoesOnFrom IsOfMove IsZero s) (may_enter w k.programmer answer) _ _ (moved_on k s w what to) tt

left_on : (k : Calling) (s : State) (w : World) (what to : ℤ) → GoesOnFrom IsOfMove IsZero s (after_leaving k w what to)
unfolding after_leaving
left_on k s w what to = either (GoesOnFrom IsOfMove IsZero s) (has_come w what to) _ _ (hook_on IsOfMove IsZero k w _ _ _ _ stage.Entering _ (λ u l. tt)) refl

move_next : (c : Context) (at : Stage) (v : Tree) (s : State) → IsOfMove at s → GoesOn IsOfMove IsZero (resumed c at v s).0 (resumed c at v s).1
move_next c (stage.Accepting what to) v s h = accepted_on (calling c s) s s.world what to (is_true v)
move_next c (stage.Leaving what to) v s h = left_on (calling c s) s s.world what to
move_next c stage.Entering v s h = refl
move_next c stage.Passed v s h = absurd h
move_next c (stage.Created o) v s h = absurd h
move_next c (stage.Emptying o) v s h = absurd h
move_next c (stage.Recycled o) v s h = absurd h
move_next c stage.Evaluated v s h = absurd h

move_on : (k : Calling) (s : State) (w : World) (vs : List Tree) → GoesOnFrom IsOfMove IsZero s (move_begins k w vs)
move_on k s w (object what ∷ object to ∷ []) = moving_on k s w what to
move_on k s w _ = tt

move_starts : {T : Telling} {c : Context} {args : List Tree} {s s' : State} {p : Progress} → Starts T c function.Move args s p s' → GoesOn IsOfMove IsZero p s'
move_starts (refused q) = tt
move_starts (starts {c = c} {vs = vs} {s = s} q h u) = begins_on IsOfMove IsZero s h u (move_on (calling c s) s s.world vs)

pub move_answers : {T : Telling} {c : Context} {args : List Tree} {s s' s'' : State} {p : Progress} {v : Tree} → Starts T c function.Move args s p s' → Proceeds T c p s' (Ok v) s'' → v ≡ integer (pos 0)
move_answers {c = c} b d = answer_of IsOfMove IsZero c (move_next c) d (move_starts b)
