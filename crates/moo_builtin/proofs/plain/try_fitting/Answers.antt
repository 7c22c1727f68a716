use Rattle.std.proofs.Common.{rules, ◌≡◌, ◌∙◌, w32}
use Rattle.std.proofs.lemmas.Int.{to_z-of_z}
use mir.Val.{SFits}
use Rattle.moo_value.specs.View.{trees}
use Rattle.moo_builtin.specs.Telling.{Faults}
use Rattle.moo_builtin.proofs.Joined.{not_of_world, world_answered, code_answered, plain_answered}
use Rattle.moo_builtin.proofs.plain.try_fitting.Goals as goal

pub returns-in-Some-clause-some : goal.returns-in-Some-clause-some
returns-in-Some-clause-some c =
    let fits : SFits w32 c.args.caller.programmer = search rules in
    world_answered Faults c.args.function (trees c.args.args.now) c.args.world.now c.call_world.new.world c.args.caller c.in-Some.answer (rw (to_z-of_z w32 c.args.caller.programmer fits) at c.in-Some.ensures.answer)

pub returns-in-Some-call_code-clause-some : goal.returns-in-Some-call_code-clause-some
returns-in-Some-call_code-clause-some c =
    let fits : SFits w32 c.args.caller.programmer = search rules in
    let p = to_z-of_z w32 c.args.caller.programmer fits in
    let none = rw p at c.in_default.ensures.answer in
    let other = not_of_world c.args.function c.args.world.now c.args.caller.programmer (trees c.args.args.now) none.0 in
    code_answered Faults c.args.function (trees c.args.args.now) c.args.world.now c.call_code.new.world c.args.caller c.in-Some-call_code.answer other (rw (none.1, p) at c.in-Some-call_code.ensures.answer)

pub returns-clause-some : goal.returns-clause-some
returns-clause-some c =
    let fits : SFits w32 c.args.caller.programmer = search rules in
    let none = rw (to_z-of_z w32 c.args.caller.programmer fits) at c.in_default.ensures.answer in
    let other = not_of_world c.args.function c.args.world.now c.args.caller.programmer (trees c.args.args.now) none.0 in
    let same : c.call_code.new.world ≡ c.args.world.now = c.in_default-call_code.ensures.answer.1 ∙ none.1 in
    rw same (plain_answered Faults c.args.function (trees c.args.args.now) c.args.world.now c.args.caller c.plain_answer.result other c.in_default-call_code.ensures.answer.0 c.plain_answer.ensures.value)
