use Rattle.std.proofs.Common.{◌-◌, ◌<◌, length, ◌∙◌, arith}
use Rattle.moo_eval_access.proofs.Held.{rebuilt_alike}
use Rattle.moo_eval_access.proofs.holding.let_go_each.Goals as goal

pub loop-next-preserved : goal.loop-next-preserved
loop-next-preserved c =
    let less : c.loop-next.next - 1 < length c.loop-next.steps.items = omega (arith, c.loop-next-test.true, c.len.ensures, c.loop-next.invariant.0) in (
      omega arith,
      λ r. rebuilt_alike c.loop-next.steps.items (c.loop-next.next - 1) c.index_mut.result.now c.let_go.new.self less c.index_mut.ensures.value c.in_ok-let_go.ensures r ∙ c.loop-next.invariant.1 r,
    )
