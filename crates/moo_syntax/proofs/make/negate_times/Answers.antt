use Rattle.std.proofs.Common.{arith, inl, inr, ⊎_elim, add-one, ap, ◌∙◌, ◌≡◌, suc}
use Rattle.std.proofs.lemmas.Result.{err_from_is_err_and}
use Rattle.moo_syntax_ast.specs.Limits.{height}
use Rattle.moo_syntax_ast.specs.View.{root}
use Rattle.moo_syntax_grammar.specs.Minuses.{negations}
use Rattle.moo_syntax_grammar.specs.Grammar.{negated}
use Rattle.moo_syntax_grammar.proofs.Heights.{negations_higher}
use Rattle.moo_syntax.proofs.make.negate_times.Goals as goal

pub returns-in_err-operand : goal.returns-in_err-operand
returns-in_err-operand c =
    let p = err_from_is_err_and c.from_residual.result c.from_residual.ensures.1 in
    let e = root c.args.operand.tree in
    let same : height (negated (root c.loop.operand.tree)) ≡ height (negations (suc c.loop.counter) e) = ap (λ v. height (negated v)) c.loop.invariant.negated in
    let higher = negations_higher (suc c.loop.counter) c.args.minuses e (omega arith) in
    rw (p.1, p.2) (⊎_elim (λ m. inl m) (λ d. inr (d.0, omega (arith, d.1, same, higher))) c.in_err-operand.ensures)

pub loop-preserved : goal.loop-preserved
loop-preserved c = record {
  negated = rw add-one (c.in_ok-operand.ensures.0 ∙ ap negated c.loop.invariant.negated);
  fits = c.in_ok-operand.ensures.1;
}
