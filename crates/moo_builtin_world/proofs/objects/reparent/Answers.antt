use Rattle.std.proofs.Common.{w32, sym, ◌∙◌}
use Rattle.std.proofs.lemmas.Int.{to_z-of_z}
use Rattle.moo_builtin_world.specs.Objects.{reparented}
use Rattle.moo_builtin_world.proofs.Changed.{untried, tried}
use Rattle.moo_builtin_world.proofs.objects.reparent.Goals as goal

pub returns-then-not-may_reparent : goal.returns-then-not-may_reparent
unfolding reparented
returns-then-not-may_reparent c =
    let o = to_z-of_z w32 c.args.o c.ranges.o in
    let to = to_z-of_z w32 c.args.to c.ranges.to in
    let p = to_z-of_z w32 c.args.programmer c.ranges.programmer in
    untried _ _ _ _ _ _ (simp (o, to) at c.try_chparent.ensures.raises) (sym (simp (o, to, p) at c.may_reparent.ensures) ∙ c.if-not-may_reparent.true) c.refused.ensures

pub returns : goal.returns
unfolding reparented
returns c =
    let o = to_z-of_z w32 c.args.o c.ranges.o in
    let to = to_z-of_z w32 c.args.to c.ranges.to in
    let p = to_z-of_z w32 c.args.programmer c.ranges.programmer in
    tried _ _ _ _ _ _ _ (simp (o, to) at c.chparent.ensures.world) (sym (simp (o, to, p) at c.may_reparent.ensures) ∙ c.if-not-may_reparent.false) c.changed.ensures
