use Rattle.std.proofs.Common.{◌-◌, ◌<◌, length, sym, ◌∙◌, refl, arith}
use Rattle.std.proofs.lemmas.Bool.{false≢true}
use Rattle.moo_builtin_value.proofs.Occurring.{past_last, one_more}
use Rattle.moo_builtin_value.proofs.search.folded_find.Goals as goal

pub loop-at-preserved : goal.loop-at-preserved
loop-at-preserved c = (
  omega (arith, c.loop-at.invariant.0),
  one_more c.args.text.now c.args.wanted.now c.args.from c.loop-at.at c.loop-at.invariant.1 (λ occurs. false≢true (sym c.if-occurs.false ∙ c.occurs.ensures.1 occurs)),
)

pub returns : goal.returns
returns c =
    let text = c.args.text.now in
    let wanted = c.args.wanted.now in
    let past : length text - length wanted < c.loop-at.at = omega (arith, c.loop-at-test.false) in
    past_last text wanted c.args.from (length text - length wanted) c.loop-at.at (omega (arith, c.if-wanted-text.false)) refl past c.loop-at.invariant.1
