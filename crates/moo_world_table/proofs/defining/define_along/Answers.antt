use Rattle.std.proofs.Common.{◌∙◌, arith, vec_len}
use Rattle.moo_world_table.proofs.Placing.{first_inside, later_inside, slot_stays}
use Rattle.moo_world_table.proofs.defining.define_along.Goals as goal

pub add_clear_along-requires : goal.add_clear_along-requires
add_clear_along-requires c = later_inside c.args.walk.now c.in-Some.below.now c.in-Some.first.now (vec_len c.args.objects.now) c.in-Some.ensures.cases.0 c.requires

pub take_along-requires : goal.take_along-requires
take_along-requires c = λ k h.
    let low = later_inside c.args.walk.now c.in-Some.below.now c.in-Some.first.now (vec_len c.args.objects.now) c.in-Some.ensures.cases.0 c.requires k h in
    omega (arith, low, c.add_clear_along.ensures.many)

pub returns-in-Err-clause-err : goal.returns-in-Err-clause-err
returns-in-Err-clause-err c =
    let low = first_inside c.args.walk.now c.in-Some.below.now c.in-Some.first.now (vec_len c.args.objects.now) c.in-Some.ensures.cases.0 c.requires in
    c.take_along.ensures.back c.args.cell c.args.objects.now.items
    (slot_stays c.add_clear_along.new.objects.items c.in-Some.first.now.node c.index_mut.result.now c.define_in.new.slot (omega (arith, low, c.add_clear_along.ensures.many, c.add_clear_along.new.objects.ok.0)) c.index_mut.ensures.value c.in-Err.ensures.err ∙ c.in_ok-add_clear_along.ensures.ok)
