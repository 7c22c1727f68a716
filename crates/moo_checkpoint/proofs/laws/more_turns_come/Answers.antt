use Rattle.std.proofs.Common.{arith}
use Rattle.moo_checkpoint.proofs.TurnLemmas.{fresh_turns, more_turns, more_turns_left}
use Rattle.moo_checkpoint.proofs.laws.more_turns_come.Goals as goal

pub returns-clause-left : goal.returns-clause-left
returns-clause-left g c old new before after turns more = (more_turns g.D.Disk.kind old new before after turns more).left

pub returns-clause-crash : goal.returns-clause-crash
returns-clause-crash g c old new before after turns more = (more_turns g.D.Disk.kind old new before after turns more).crash

pub returns-clause-fewer : goal.returns-clause-fewer
returns-clause-fewer g c old new before after turns fresh more =
    let all = fresh_turns old fresh in
    let comes = (more_turns g.D.Disk.kind old new before after turns more).left in
    let last = more_turns_left g.D.Disk.kind old new before after turns more (omega (arith, all)) in
    omega (arith, all, comes, last)
