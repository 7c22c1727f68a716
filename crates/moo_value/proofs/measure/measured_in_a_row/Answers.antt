use Rattle.moo_value.proofs.Joined.{measured-row, too_heavy-row}
use Rattle.moo_value.proofs.measure.measured_in_a_row.Goals as goal

pub returns-then-weight-gt-WEIGHT_LIMIT-clause-none :
    goal.returns-then-weight-gt-WEIGHT_LIMIT-clause-none
returns-then-weight-gt-WEIGHT_LIMIT-clause-none c =
    too_heavy-row _ _ _ _ _ _ c.list_weight.ensures.weight c.list_weight-2.ensures.weight c.list_weight-3.ensures.weight c.if-weight-gt-WEIGHT_LIMIT.true

pub returns-clause-some : goal.returns-clause-some
returns-clause-some c =
    rw (c.max-depth.ensures, c.max.ensures)
    (measured-row _ _ _ _ _ _ _ _ _ c.requires.front c.requires.middle c.requires.back
    c.list_weight.ensures.weight c.list_weight-2.ensures.weight c.list_weight-3.ensures.weight
    c.list_depth.ensures c.list_depth-2.ensures c.list_depth-3.ensures
    c.if-weight-gt-WEIGHT_LIMIT.false)
