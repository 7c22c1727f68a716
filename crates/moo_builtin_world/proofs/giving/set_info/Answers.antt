use Rattle.std.proofs.Common.{w32, sym, ◌∙◌, FitsSigned, rules}
use Rattle.std.proofs.lemmas.Int.{to_z-of_z}
use Rattle.moo_builtin_world.specs.Properties.{with_property_info}
use Rattle.moo_builtin_world.proofs.Changed.{untried, tried}
use Rattle.moo_builtin_world.proofs.giving.set_info.Goals as goal

pub returns-then-not-may_change_info : goal.returns-then-not-may_change_info
unfolding with_property_info
returns-then-not-may_change_info c =
    let o = to_z-of_z w32 c.args.o c.ranges.o in
    let n = c.as_bytes-name.ensures.value in
    let p = to_z-of_z w32 c.args.programmer c.ranges.programmer in
    let fits : FitsSigned w32 c.args.given.owner = search rules in
    let g = to_z-of_z w32 c.args.given.owner fits in
    untried _ _ _ _ _ _ (simp (o, n) at c.test_info.ensures) (sym (simp (o, p, n, g) at c.may_change_info.ensures) ∙ c.if-not-may_change_info.true) c.refused.ensures

pub returns : goal.returns
unfolding with_property_info
returns c =
    let o = to_z-of_z w32 c.args.o c.ranges.o in
    let n = c.as_bytes-name.ensures.value in
    let p = to_z-of_z w32 c.args.programmer c.ranges.programmer in
    let fits : FitsSigned w32 c.args.given.owner = search rules in
    let g = to_z-of_z w32 c.args.given.owner fits in
    tried _ _ _ _ _ _ _ (simp (o, n, g) at c.set_property_info.ensures.world) (sym (simp (o, p, n, g) at c.may_change_info.ensures) ∙ c.if-not-may_change_info.false) c.changed.ensures
