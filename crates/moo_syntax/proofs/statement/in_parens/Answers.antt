use Rattle.std.proofs.Common.{refl, arith}
use Rattle.std.proofs.lemmas.Result.{err_from_is_err_and}
use Rattle.moo_syntax_grammar.specs.Machine.{gives, reads, refuses, phrase_fails, then_fails}
use Rattle.moo_syntax_grammar.specs.Predictive.{grammar}
use Rattle.moo_syntax.proofs.Deepening.{phrase_deepens}
use Rattle.moo_syntax.proofs.Steps.{took, took_fails, took_deepens, stayed_fails, passed, refused}
use Rattle.moo_syntax.proofs.statement.in_parens.Goals as goal

pub returns-in_err-expect-clause-failed : goal.returns-in_err-expect-clause-failed
unfolding grammar
returns-in_err-expect-clause-failed c =
    let p = err_from_is_err_and c.from_residual.result c.from_residual.ensures.1 in
    passed _ p.1 p.2 (refused c.in_err-expect.ensures.0 (λ g a. stayed_fails c.in_err-expect.ensures.1 refuses))

pub returns-in_err-inner-clause-failed : goal.returns-in_err-inner-clause-failed
unfolding grammar
returns-in_err-inner-clause-failed c =
    let p = err_from_is_err_and c.from_residual-in_err-inner.result c.from_residual-in_err-inner.ensures.1 in
    let w = c.in_err-inner.ensures.failed in
    passed _ p.1 p.2 (record {
      fails = λ g b. took_fails c.in_ok-expect.ensures refl (phrase_fails (w.fails g b));
      stands = w.stands;
      deep = λ h g ok. took_deepens c.in_ok-expect.ensures refl (phrase_deepens (w.deep h g ok) (λ a q. ((λ x. q), tt)));
      long = λ h. let l = w.long h in omega (arith, l, c.in_ok-expect.ensures.at);
    })

pub returns-in_err-expect-2-clause-failed : goal.returns-in_err-expect-2-clause-failed
unfolding grammar
returns-in_err-expect-2-clause-failed c =
    let p = err_from_is_err_and c.from_residual-in_err-expect-2.result c.from_residual-in_err-expect-2.ensures.1 in
    passed _ p.1 p.2 (refused c.in_err-expect-2.ensures.0 (λ g a. took_fails c.in_ok-expect.ensures refl (then_fails (c.in_ok-inner.ensures.read.reads g a) (stayed_fails c.in_err-expect-2.ensures.1 refuses))))

pub returns-clause-read : goal.returns-clause-read
unfolding grammar
returns-clause-read c =
    record {
      reads = λ g a. took c.in_ok-expect.ensures refl (reads (c.in_ok-inner.ensures.read.reads g a) (took c.in_ok-expect-2.ensures refl gives));
      fits = omega (arith, c.in_ok-inner.ensures.read.fits);
      tokens = omega (arith, c.in_ok-expect.ensures.at, c.in_ok-inner.ensures.read.tokens, c.in_ok-expect-2.ensures.at, c.in_ok-inner.ensures.read.fits);
    }
