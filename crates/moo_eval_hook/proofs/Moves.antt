-- `move`, case by case.
use Rattle.std.proofs.Common.{◌≡◌, ℤ, pos, negsuc, true, false, Bool, codes, refl}
use Rattle.std.specs.Ordering.{int_eq}
use Rattle.moo_value.specs.declared.error_code.ErrorCode.TheVariants.{InvalidArgument, Permission, NotAccepted}
use Rattle.moo_value.specs.Tree.{integer}
use Rattle.moo_world_table.specs.World.{World}
use Rattle.moo_world.specs.Calls.{number_of, place_of, move_raises, world_move}
use Rattle.moo_world.specs.Rights.{may_own}
use Rattle.moo_eval_semantics.specs.declared.stage.Stage.TheVariants.{Accepting, Leaving, Entering}
use Rattle.moo_eval_semantics.specs.Progressing.{Calling, Progress, gives, refuses, after_raise}
use Rattle.moo_eval_semantics.specs.Objects.{is_place, location}
use Rattle.moo_eval_semantics.specs.Moving.{move_calls, is_to_move, moved, moving, may_enter, accepted, has_come, after_leaving}

module _ (k : Calling) (w : World) (what to : ℤ) where
  pub stays : is_to_move w what to ≡ false → moved k w what to ≡ (gives (integer (pos 0)), w)
  unfolding moved
  stays h = rw h refl

  pub leaves : (p : Progress × World) → is_to_move w what to ≡ true →
      after_raise w (move_raises w (number_of w.objects what) (place_of w.objects to)) (move_calls k (world_move w (number_of w.objects what) (place_of w.objects to)) (location w what) (codes "exitfunc") what (Leaving what to)) ≡ p →
      moved k w what to ≡ p
  unfolding moved
  leaves p h q = rw h q

  pub no_place : is_place w to ≡ false → moving k w what to ≡ (refuses InvalidArgument, w)
  unfolding moving
  no_place h = rw h refl

  pub not_own : is_place w to ≡ true → may_own w k.programmer what ≡ false → moving k w what to ≡ (refuses Permission, w)
  unfolding moving
  not_own h g = rw (h, g) refl

  pub goes_nowhere : (p : Progress × World) → is_place w to ≡ true → may_own w k.programmer what ≡ true → int_eq to (negsuc 0) ≡ true → moved k w what to ≡ p → moving k w what to ≡ p
  unfolding moving
  goes_nowhere p h g n q = rw (h, g, n) q

  pub asks : (p : Progress × World) → is_place w to ≡ true → may_own w k.programmer what ≡ true → int_eq to (negsuc 0) ≡ false → move_calls k w to (codes "accept") what (Accepting what to) ≡ p → moving k w what to ≡ p
  unfolding moving
  asks p h g n q = rw (h, g, n) q

  pub refused_by_place : (answer : Bool) → may_enter w k.programmer answer ≡ false → accepted k w what to answer ≡ (refuses NotAccepted, w)
  unfolding accepted
  refused_by_place answer h = rw h refl

  pub enters : (answer : Bool) (p : Progress × World) → may_enter w k.programmer answer ≡ true → moved k w what to ≡ p → accepted k w what to answer ≡ p
  unfolding accepted
  enters answer p h q = rw h q

  pub gone : has_come w what to ≡ false → after_leaving k w what to ≡ (gives (integer (pos 0)), w)
  unfolding after_leaving
  gone h = rw h refl

  pub comes : (p : Progress × World) → has_come w what to ≡ true → move_calls k w to (codes "enterfunc") what Entering ≡ p → after_leaving k w what to ≡ p
  unfolding after_leaving
  comes p h q = rw h q
