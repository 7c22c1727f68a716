use Rattle.std.proofs.Common.{w32, rules}
use Rattle.std.proofs.lemmas.Int.{to_z-of_z}
use mir.Val.{SFits}
use Rattle.moo_value.specs.Compare.{folded}
use Rattle.moo_value.specs.View.{tree}
use Rattle.moo_world.specs.Calls.{number_of}
use Rattle.moo_world.specs.EditCalls.{set_raises, world_set}
use Rattle.moo_world.specs.Rights.{may_write_property}
use Rattle.moo_eval_access.proofs.Written.{set_to, refused}
use Rattle.moo_eval_access.proofs.object.write_written.Goals as goal

pub returns-in-Ok-clause-world : goal.returns-in-Ok-clause-world
returns-in-Ok-clause-world c =
    let w = c.args.world.now in
    let o = c.in-Obj.o in
    let name = c.args.name.now in
    let rights : SFits w32 c.args.programmer = search rules in
    let fits : SFits w32 c.in-Obj.o = search rules in
    let done = rw (to_z-of_z w32 c.args.programmer rights, to_z-of_z w32 c.in-Obj.o fits) at c.in-Ok.ensures.world in
    rw c.in-Obj.is (set_to (set_raises w (number_of w.objects o) (folded name) (tree c.args.value)) (may_write_property w c.args.programmer o name)
    (world_set w (number_of w.objects o) (folded name) (tree c.args.value)) c.set_written_by.new.self done.0 done.1)

pub returns-in-Err-clause-world : goal.returns-in-Err-clause-world
returns-in-Err-clause-world c =
    let w = c.args.world.now in
    let o = c.in-Obj.o in
    let name = c.args.name.now in
    let rights : SFits w32 c.args.programmer = search rules in
    let fits : SFits w32 c.in-Obj.o = search rules in
    let why = rw (to_z-of_z w32 c.args.programmer rights, to_z-of_z w32 c.in-Obj.o fits) at c.in-Err.ensures.world in
    rw c.in-Obj.is (refused c.in-Err.fault c.failed.result (set_raises w (number_of w.objects o) (folded name) (tree c.args.value)) (may_write_property w c.args.programmer o name)
    w c.set_written_by.new.self (world_set w (number_of w.objects o) (folded name) (tree c.args.value)) why c.in-Err.ensures.memory c.failed.ensures)
