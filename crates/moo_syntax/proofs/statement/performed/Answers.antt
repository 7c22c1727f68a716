use Rattle.std.proofs.Common.{refl, arith}
use Rattle.std.proofs.lemmas.Result.{err_from_is_err_and}
use Rattle.moo_syntax_grammar.specs.Machine.{gives, reads, refuses, phrase_fails, then_fails}
use Rattle.moo_syntax_grammar.specs.Predictive.{grammar}
use Rattle.moo_syntax.specs.Outgrown.{can_give}
use Rattle.moo_syntax.proofs.Deepening.{then_deepens, phrase_deepens, meets_at_once}
use Rattle.moo_syntax.proofs.Steps.{took, took_deepens, stayed_fails, passed, refused, too_high}
use Rattle.moo_syntax.proofs.statement.performed.Goals as goal

pub returns-in_err-value-clause-failed : goal.returns-in_err-value-clause-failed
unfolding grammar
returns-in_err-value-clause-failed c =
    let p = err_from_is_err_and c.from_residual.result c.from_residual.ensures.1 in
    let w = c.in_err-value.ensures.failed in
    passed _ p.1 p.2 (record {
      fails = λ g b. phrase_fails (w.fails g b);
      stands = w.stands;
      deep = λ h g ok. phrase_deepens (w.deep h g ok) (λ a q. ((λ x. omega (arith, q)), tt));
      long = λ h. let l = w.long h in omega (arith, l);
    })

pub returns-in_err-expect-clause-failed : goal.returns-in_err-expect-clause-failed
unfolding grammar
returns-in_err-expect-clause-failed c =
    let p = err_from_is_err_and c.from_residual-in_err-expect.result c.from_residual-in_err-expect.ensures.1 in
    passed _ p.1 p.2 (refused c.in_err-expect.ensures.0 (λ g a. then_fails (c.in_ok-value.ensures.read.reads g a) (stayed_fails c.in_err-expect.ensures.1 refuses)))

pub returns-then-value-room-clause-failed : goal.returns-then-value-room-clause-failed
unfolding grammar
returns-then-value-room-clause-failed c =
    too_high refl (λ g ok. then_deepens (c.in_ok-value.ensures.read.reads g ok) (took_deepens c.in_ok-expect.ensures refl (meets_at_once can_give (omega (arith, c.if-value-room.true, c.in_ok-value.value.in_step))))) (omega (arith, c.in_ok-value.ensures.read.tokens, c.in_ok-expect.ensures.at, c.if-value-room.true, c.in_ok-value.value.in_step))

pub returns-clause-read : goal.returns-clause-read
unfolding grammar
returns-clause-read c =
    record {
      reads = λ g a. reads (c.in_ok-value.ensures.read.reads g a) (took c.in_ok-expect.ensures refl gives);
      fits = omega (arith, c.if-value-room.false, c.in_ok-value.value.in_step);
      tokens = omega (arith, c.in_ok-value.ensures.read.tokens, c.in_ok-expect.ensures.at, c.if-value-room.false, c.in_ok-value.value.in_step);
    }
