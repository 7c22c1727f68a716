use Rattle.std.proofs.Common.{w32}
use Rattle.std.proofs.lemmas.Int.{to_z-of_z}
use Rattle.moo_builtin.proofs.Coming.{set_done, set_told}
use Rattle.moo_builtin.proofs.setting.set_lines.Goals as goal

pub returns-in-Ok : goal.returns-in-Ok
returns-in-Ok c =
    let o = to_z-of_z w32 c.args.o c.ranges.o in
    set_done _ _ _ _ _ _ _ c.in-Ok.ensures.program (simp o at c.set_program.ensures.ok) c.set_program.ensures.err

pub returns-in-Err : goal.returns-in-Err
returns-in-Err c = set_told _ _ _ _ _ _ c.in-Err.ensures.fault c.told_fault.ensures.text c.told_fault.ensures.kind
