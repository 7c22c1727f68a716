use Rattle.std.proofs.Common.{w32}
use Rattle.std.proofs.lemmas.Int.{to_z-of_z}
use Rattle.moo_builtin_world.proofs.Answered.{looked, unlooked, looked_lacks, unlooked_lacks}
use Rattle.moo_builtin_world.proofs.call.answer.Goals as goal

pub returns-in-Some-clause-answer : goal.returns-in-Some-clause-answer
returns-in-Some-clause-answer c =
    let p = to_z-of_z w32 c.args.programmer c.ranges.programmer in
    looked _ _ _ _ (simp p at c.in-Some.ensures)

pub returns-in-Some-clause-memory : goal.returns-in-Some-clause-memory
returns-in-Some-clause-memory c =
    let p = to_z-of_z w32 c.args.programmer c.ranges.programmer in
    looked_lacks _ _ _ (simp p at c.in-Some.ensures)

pub returns-in-None-clause-answer : goal.returns-in-None-clause-answer
returns-in-None-clause-answer c =
    let p = to_z-of_z w32 c.args.programmer c.ranges.programmer in
    unlooked _ _ _ _ _ (simp p at c.in-None.ensures) (simp p at c.change.ensures.answer)

pub returns-in-None-clause-memory : goal.returns-in-None-clause-memory
returns-in-None-clause-memory c =
    let p = to_z-of_z w32 c.args.programmer c.ranges.programmer in
    unlooked_lacks _ _ _ (simp p at c.in-None.ensures) (simp p at c.change.ensures.memory)
