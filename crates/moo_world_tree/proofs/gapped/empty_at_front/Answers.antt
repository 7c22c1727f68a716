use Rattle.std.proofs.Common.{◌≡◌, ℕ, Option, None, Some, false, refl, sym}
use Rattle.std.specs.Option.{is_some}
use Rattle.std.proofs.lemmas.Bool.{false≢true}
use Rattle.moo_world_tree.proofs.Fronts.{begins_with_one_more}
use Rattle.moo_world_tree.proofs.gapped.empty_at_front.Goals as goal

pub loop-front-preserved : goal.loop-front-preserved
loop-front-preserved c = begins_with_one_more c.loop-front.front c.args.slots.now c.loop-front-test.true (none _ c.if-is_none.ensures) c.loop-front.invariant
  where
    none : (slot : Option ℕ) → is_some slot ≡ false → slot ≡ None
    none None e = refl
    none (Some x) e = absurd (false≢true (sym e))
