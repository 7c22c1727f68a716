-- What a call of `create` comes to, from its begin to its end.
use Rattle.std.proofs.Common.{◌≡◌, ℤ, [], ◌∷◌, codes, Bool, true, false, not, Result, if◌then◌else◌, refl}
use Rattle.moo_value.specs.declared.error_code.ErrorCode.TheVariants.{Permission, Quota}
use Rattle.moo_value.specs.Tree.{Tree, object}
use Rattle.moo_syntax_function.specs.declared.function.Function.TheVariants as function
use Rattle.moo_world.specs.Calls.{place_of, create_raises}
use Rattle.moo_world.specs.Rights.{controls}
use Rattle.moo_eval_frame.specs.Outcome.{Failure}
use Rattle.moo_eval_frame.specs.State.{Context}
use Rattle.moo_eval_access.specs.State.{State}
use Rattle.moo_builtin.specs.Telling.{Telling}
use Rattle.moo_eval_semantics.specs.declared.stage.Stage.TheVariants.{Created}
use Rattle.moo_eval_semantics.specs.Progressing.{calling, Progress, refuses, after_raise}
use Rattle.moo_eval_semantics.specs.Quota.{quota, is_used_up}
use Rattle.moo_eval_semantics.specs.Creating.{may_be_parent, next_number, initialized, creating}
use Rattle.moo_eval_semantics.specs.VerbCalls.{Starts, refused, starts}
use Rattle.moo_eval_semantics.specs.Meaning.{Proceeds, is_done}
use Rattle.moo_eval_semantics.specs.Creates as law
use Rattle.moo_eval_semantics.specs.Creates.{with_new, MayCreate, Creates}
use Rattle.moo_eval_semantics.proofs.Called.{GoesOn, Follows, failed, answered, hook_then_follows, unless_raised, begun}

module _ (T : Telling) (c : Context) (up owner : ℤ) where
  creation_after : {s s' : State} {r : Result Tree Failure} → MayCreate s up owner → controls s.world s.programmer owner ≡ true →
      Follows T c (codes "create") (next_number s.world) (codes "initialize") [] (Created (next_number s.world)) (with_new s up owner) r s' → Creates T c up owner s r s'
  creation_after m o (failed d) = law.initialize_fails m o d
  creation_after m o (answered d is_done) = law.made m o d

  owned_by : (s : State) {s' : State} {r : Result Tree Failure} → MayCreate s up owner → (b : Bool) → controls s.world s.programmer owner ≡ b →
      GoesOn T c s (if not b then (refuses Permission, s.world) else initialized (calling c s) (next_number s.world) (with_new s up owner).world) r s' → Creates T c up owner s r s'
  owned_by s m false o is_done = law.another_owner m o
  owned_by s m true o d = creation_after m o (hook_then_follows T c (codes "create") (next_number s.world) (codes "initialize") [] (Created (next_number s.world)) {s = with_new s up owner} d)

  creation_by : (s : State) {s' : State} {r : Result Tree Failure} (right : Bool) → may_be_parent s.world s.programmer up ≡ right → (used : Bool) → is_used_up (quota s.world owner) ≡ used →
      GoesOn T c s (if not right then (refuses Permission, s.world) else if used then (refuses Quota, s.world) else after_raise s.world (create_raises s.world (place_of s.world.objects up))
      (if not (controls s.world s.programmer owner) then (refuses Permission, s.world) else initialized (calling c s) (next_number s.world) (with_new s up owner).world)) r s' → Creates T c up owner s r s'
  creation_by s false p used u is_done = law.no_parent p
  creation_by s true p true u is_done = law.used_up p u
  creation_by s {s' = s'} {r = r} true p false u d =
      unless_raised (Creates T c up owner s r s') (create_raises s.world (place_of s.world.objects up)) _
      (λ code e q t. rw (q, t) (law.no_room p u e))
      (λ e n. owned_by s (p, u, e) (controls s.world s.programmer owner) refl n) d

  creation : (s : State) {s' : State} {r : Result Tree Failure} → GoesOn T c s (creating (calling c s) s.world up owner) r s' → Creates T c up owner s r s'
  unfolding creating
  creation s d = creation_by s (may_be_parent s.world s.programmer up) refl (is_used_up (quota s.world owner)) refl d

pub what_creates : (T : Telling) (c : Context) (up : ℤ) {p : Progress} {s s' s'' : State} {r : Result Tree Failure} → Starts T c function.Create (object up ∷ []) s p s' → Proceeds T c p s' r s'' → Creates T c up s.programmer s r s''
what_creates T c up (refused q) d = absurd cc
what_creates T c up {s = s} (starts q b u) d = creation T c up s.programmer s (begun s b u d)

pub what_creates_for : (T : Telling) (c : Context) (up owner : ℤ) {p : Progress} {s s' s'' : State} {r : Result Tree Failure} → Starts T c function.Create (object up ∷ object owner ∷ []) s p s' → Proceeds T c p s' r s'' → Creates T c up owner s r s''
what_creates_for T c up owner (refused q) d = absurd cc
what_creates_for T c up owner {s = s} (starts q b u) d = creation T c up owner s (begun s b u d)
