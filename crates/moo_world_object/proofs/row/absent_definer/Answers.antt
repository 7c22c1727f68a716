use Rattle.std.proofs.Common.{◌≡◌, false, eqb, sym, ◌∙◌, subst}
use Rattle.std.specs.List.{list_any}
use Rattle.moo_world_object.proofs.row.absent_definer.Goals as goal

pub returns : goal.returns
returns c = λ d same. let e : c.definer-definer.result ≡ d = cc in
    subst (λ n. list_any (λ o. eqb o.definer n) c.args.cells.now ≡ false) e (sym c.has_definer.ensures ∙ c.if-has_definer.false)
