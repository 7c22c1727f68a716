use Rattle.std.proofs.Common.{rules, ◌≡◌, ◌∙◌, w32}
use Rattle.std.proofs.lemmas.Int.{to_z-of_z}
use mir.Val.{SFits}
use Rattle.moo_value.specs.View.{trees}
use Rattle.moo_builtin.specs.Telling.{Faults}
use Rattle.moo_builtin.proofs.Joined.{not_of_world, world_followed, code_followed, value_followed}
use Rattle.moo_builtin.proofs.Lacking.{world_lacks, code_lacks, value_lacks}
use Rattle.moo_builtin.proofs.call.followed.Goals as goal

pub returns-in-Some-clause-call : goal.returns-in-Some-clause-call
returns-in-Some-clause-call c =
    let fits : SFits w32 c.args.caller.programmer = search rules in
    world_followed Faults c.args.function (trees c.args.args.now) c.args.world.now c.call_world.new.world c.args.caller c.in-Some.answer c.settled.result (rw (to_z-of_z w32 c.args.caller.programmer fits) at c.in-Some.ensures.answer) c.settled.ensures

pub returns-in-Some-clause-memory : goal.returns-in-Some-clause-memory
returns-in-Some-clause-memory c =
    let fits : SFits w32 c.args.caller.programmer = search rules in
    let p = to_z-of_z w32 c.args.caller.programmer fits in
    world_lacks c.args.function (trees c.args.args.now) c.args.world.now c.call_world.new.world c.args.caller c.in-Some.answer c.settled.result (rw p at c.in-Some.ensures.answer) (rw p at c.in-Some.ensures.memory) c.settled.ensures

pub returns-in-Some-call_code-clause-call : goal.returns-in-Some-call_code-clause-call
returns-in-Some-call_code-clause-call c =
    let fits : SFits w32 c.args.caller.programmer = search rules in
    let p = to_z-of_z w32 c.args.caller.programmer fits in
    let none = rw p at c.in_default.ensures.answer in
    let other = not_of_world c.args.function c.args.world.now c.args.caller.programmer (trees c.args.args.now) none.0 in
    code_followed Faults c.args.function (trees c.args.args.now) c.args.world.now c.call_code.new.world c.args.caller c.in-Some-call_code.answer c.settled-in-Some-call_code.result other (rw (none.1, p) at c.in-Some-call_code.ensures.answer) c.settled-in-Some-call_code.ensures

pub returns-in-Some-call_code-clause-memory : goal.returns-in-Some-call_code-clause-memory
returns-in-Some-call_code-clause-memory c =
    let fits : SFits w32 c.args.caller.programmer = search rules in
    let p = to_z-of_z w32 c.args.caller.programmer fits in
    let none = rw p at c.in_default.ensures.answer in
    let other = not_of_world c.args.function c.args.world.now c.args.caller.programmer (trees c.args.args.now) none.0 in
    code_lacks c.args.function (trees c.args.args.now) c.args.world.now c.call_code.new.world c.args.caller c.in-Some-call_code.answer c.settled-in-Some-call_code.result other (rw (none.1, p) at c.in-Some-call_code.ensures.answer) (rw (none.1, p) at c.in-Some-call_code.ensures.memory) c.settled-in-Some-call_code.ensures

pub returns-clause-call : goal.returns-clause-call
returns-clause-call c =
    let fits : SFits w32 c.args.caller.programmer = search rules in
    let none = rw (to_z-of_z w32 c.args.caller.programmer fits) at c.in_default.ensures.answer in
    let other = not_of_world c.args.function c.args.world.now c.args.caller.programmer (trees c.args.args.now) none.0 in
    let same : c.call_code.new.world ≡ c.args.world.now = c.in_default-call_code.ensures.answer.1 ∙ none.1 in
    rw same (value_followed Faults c.args.function (trees c.args.args.now) c.args.world.now c.args.caller c.over_values.result other c.in_default-call_code.ensures.answer.0 c.over_values.ensures)

pub returns-clause-memory : goal.returns-clause-memory
returns-clause-memory c =
    let fits : SFits w32 c.args.caller.programmer = search rules in
    let none = rw (to_z-of_z w32 c.args.caller.programmer fits) at c.in_default.ensures.answer in
    let other = not_of_world c.args.function c.args.world.now c.args.caller.programmer (trees c.args.args.now) none.0 in
    value_lacks c.args.function (trees c.args.args.now) c.args.world.now c.args.caller c.over_values.result other c.in_default-call_code.ensures.answer.0 c.over_values.ensures
