use Rattle.std.proofs.Common.{pos, sym, ◌∙◌}
use Rattle.moo_dbtext_object.proofs.Naturals.{narrow, not_narrow}
use Rattle.moo_dbtext_object.proofs.line.from_zero.Goals as goal

pub returns : goal.returns
returns c =
    let spelled = c.in_ok-natural.ensures in
    narrow _ _ c.try_from.result c.ok.result (pos c.in_ok-natural.field-0) c.try_from.ensures c.ok.ensures.value
    (λ fits. (fits, spelled.1)) (λ wide n lt e. not_narrow c.in_ok-natural.field-0 n spelled.0 lt (sym spelled.1 ∙ e) wide)
