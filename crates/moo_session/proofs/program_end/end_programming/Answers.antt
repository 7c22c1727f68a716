use Rattle.std.proofs.Common.{◌≡◌, true, false, Some, None, ◌∙◌, arith, to_z, of_z, w32, SFits, rules}
use Rattle.std.proofs.Common as common
use Rattle.std.proofs.lemmas.Grind.{common_steps}
use Rattle.std.proofs.lemmas.Int.{ints, to_z-of_z}
use Rattle.moo_session.specs.DotProgram.{own_verb, may_write}
use Rattle.moo_session.proofs.ProgramSteps.{ended_without, ended_denied, ended_parsed, ended_faulty}
use Rattle.moo_session.proofs.program_end.end_programming.Goals as goal

pub returns-in_default : goal.returns-in_default
returns-in_default c =
    let g = c.args.gathering.now in
    let none : own_verb c.args.live.now.world g.object g.verb ≡ None = first_of (cc, grind (arith, ints, to_z-of_z)) in
    ended_without c.send.result c.args.number c.args.player g c.args.live.now c.send.new.self none c.send.ensures

pub returns-then-not-may_write_verb : goal.returns-then-not-may_write_verb
returns-then-not-may_write_verb c =
    let g = c.args.gathering.now in
    let found : own_verb c.args.live.now.world g.object g.verb ≡ Some c.in-Some.index = first_of (cc, grind (arith, ints, to_z-of_z)) in
    let denied : may_write c.args.live.now.world c.args.player g.object c.in-Some.index ≡ false = first_of (grind (arith, ints, to_z-of_z, common_steps), cc) in
    ended_denied c.send-then-not-may_write_verb.result c.args.number c.args.player g c.args.live.now c.send-then-not-may_write_verb.new.self c.in-Some.index found denied c.send-then-not-may_write_verb.ensures

pub returns-in-Ok : goal.returns-in-Ok
returns-in-Ok c =
    let g = c.args.gathering.now in
    let found : own_verb c.args.live.now.world g.object g.verb ≡ Some c.in-Some.index = first_of (cc, grind (arith, ints, to_z-of_z)) in
    let allowed : may_write c.args.live.now.world c.args.player g.object c.in-Some.index ≡ true = first_of (grind (arith, ints, to_z-of_z, common_steps), cc) in
    let object : to_z w32 (of_z w32 c.object-o.result) ≡ g.object = (let fits : SFits w32 c.object-o.result = search rules in common.to_z-of_z fits ∙ c.object-o.ensures) in
    ended_parsed c.set_program.result c.args.number c.args.player g c.args.live.now c.set_program.new.live c.in-Some.index c.in-Ok.program found allowed (rw (c.lines.ensures) at c.in-Ok.ensures.program) (simp object at c.set_program.ensures)

pub returns-in-Err : goal.returns-in-Err
returns-in-Err c =
    let g = c.args.gathering.now in
    let found : own_verb c.args.live.now.world g.object g.verb ≡ Some c.in-Some.index = first_of (cc, grind (arith, ints, to_z-of_z)) in
    let allowed : may_write c.args.live.now.world c.args.player g.object c.in-Some.index ≡ true = first_of (grind (arith, ints, to_z-of_z, common_steps), cc) in
    ended_faulty c.report_fault.result c.args.number c.args.player g c.args.live.now c.report_fault.new.session c.in-Some.index c.in-Err.fault found allowed (rw (c.lines.ensures) at c.in-Err.ensures.fault) c.report_fault.ensures.told c.report_fault.ensures.kind
