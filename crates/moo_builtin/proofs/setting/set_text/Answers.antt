use Rattle.std.proofs.Common.{w32}
use Rattle.std.proofs.lemmas.Int.{to_z-of_z}
use Rattle.moo_builtin.proofs.Coming.{gone_on}
use Rattle.moo_builtin.proofs.setting.set_text.Goals as goal

pub returns : goal.returns
returns c =
    let o = to_z-of_z w32 c.args.o c.ranges.o in
    gone_on _ _ _ _ _ _ c.in_ok-lines.ensures.ok (simp (o, c.deref.ensures.value) at c.set_lines.ensures)
