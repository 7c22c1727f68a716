use Rattle.std.proofs.Common.{sym, ◌∙◌}
use Rattle.moo_world_tree.proofs.Gaps.{last_given, last_passed}
use Rattle.moo_world_tree.proofs.below.Below.take_last.Goals as goal

pub returns-then-is_some : goal.returns-then-is_some
returns-then-is_some c = last_given c.loop-slot.self-inside.slots.now c.in-Some.others.now c.in-Some.slot.now c.args.self.now c.in-Some.ensures.cases.0 (c.loop-slot.invariant ∙ c.self.view_is) (sym c.if-is_some.ensures)

pub loop-slot-preserved : goal.loop-slot-preserved
loop-slot-preserved c = sym (last_passed c.loop-slot.self-inside.slots.now c.in-Some.others.now c.in-Some.slot.now c.in-Some.ensures.cases.0 (sym c.if-is_some.ensures)) ∙ c.loop-slot.invariant
