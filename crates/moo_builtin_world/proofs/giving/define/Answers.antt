use Rattle.std.proofs.Common.{w32, sym, ◌∙◌, FitsSigned, rules}
use Rattle.std.proofs.lemmas.Int.{to_z-of_z}
use Rattle.moo_builtin_world.specs.Properties.{with_property}
use Rattle.moo_builtin_world.proofs.Changed.{untried, tried}
use Rattle.moo_builtin_world.proofs.giving.define.Goals as goal

pub returns-then-not-may_add : goal.returns-then-not-may_add
unfolding with_property
returns-then-not-may_add c =
    let o = to_z-of_z w32 c.args.o c.ranges.o in
    let n = c.as_bytes.ensures.value in
    let p = to_z-of_z w32 c.args.programmer c.ranges.programmer in
    let fits : FitsSigned w32 c.args.given.owner = search rules in
    let g = to_z-of_z w32 c.args.given.owner fits in
    untried _ _ _ _ _ _ (simp (o, n) at c.try_add_property.ensures.raises) (sym (simp (o, p, g) at c.may_add.ensures) ∙ c.if-not-may_add.true) c.refused.ensures

pub returns : goal.returns
unfolding with_property
returns c =
    let o = to_z-of_z w32 c.args.o c.ranges.o in
    let p = to_z-of_z w32 c.args.programmer c.ranges.programmer in
    let fits : FitsSigned w32 c.args.given.owner = search rules in
    let g = to_z-of_z w32 c.args.given.owner fits in
    tried _ _ _ _ _ _ _ (simp (o, g) at c.add_property.ensures.world) (sym (simp (o, p, g) at c.may_add.ensures) ∙ c.if-not-may_add.false) c.changed.ensures
