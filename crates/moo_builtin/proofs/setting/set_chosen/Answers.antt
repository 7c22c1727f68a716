use Rattle.std.proofs.Common.{w32, sym}
use Rattle.std.proofs.lemmas.Int.{to_z-of_z}
use Rattle.moo_builtin.proofs.Coming.{gone_on, stopped, may_be_set, may_lack, is_ok}
use Rattle.moo_builtin.proofs.setting.set_chosen.Goals as goal

pub set_text-requires : goal.set_text-requires
set_text-requires c =
    let o = to_z-of_z w32 c.args.o c.ranges.o in
    let p = to_z-of_z w32 c.args.programmer c.ranges.programmer in
    rw o (may_be_set _ _ _ _ _ (sym (simp (o, p) at c.in-Ok.ensures)))

pub returns-in-Ok-clause-answer : goal.returns-in-Ok-clause-answer
returns-in-Ok-clause-answer c =
    let o = to_z-of_z w32 c.args.o c.ranges.o in
    let p = to_z-of_z w32 c.args.programmer c.ranges.programmer in
    gone_on _ _ _ _ _ _ (sym (simp (o, p) at c.in-Ok.ensures)) (simp o at c.set_text.ensures)

pub returns-in-Ok-clause-memory : goal.returns-in-Ok-clause-memory
returns-in-Ok-clause-memory c =
    let o = to_z-of_z w32 c.args.o c.ranges.o in
    let p = to_z-of_z w32 c.args.programmer c.ranges.programmer in
    may_lack _ _ (is_ok _ _ (sym (simp (o, p) at c.in-Ok.ensures)))

pub returns-in-Err-clause-answer : goal.returns-in-Err-clause-answer
returns-in-Err-clause-answer c =
    let o = to_z-of_z w32 c.args.o c.ranges.o in
    let p = to_z-of_z w32 c.args.programmer c.ranges.programmer in
    stopped _ _ _ _ (sym (simp (o, p) at c.in-Err.ensures))
