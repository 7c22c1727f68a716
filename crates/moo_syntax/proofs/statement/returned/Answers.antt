use Rattle.std.proofs.Common.{refl, arith}
use Rattle.std.proofs.lemmas.Result.{err_from_is_err_and}
use Rattle.moo_syntax_token.specs.declared.sign.Sign.TheVariants.{Semicolon}
use Rattle.moo_syntax_token.specs.declared.token.Token.TheVariants.{Sign}
use Rattle.moo_syntax_grammar.specs.Machine.{gives, reads, refuses, phrase_fails, then_fails}
use Rattle.moo_syntax_grammar.specs.Predictive.{grammar}
use Rattle.moo_syntax.specs.Outgrown.{can_give, can_take, at_once}
use Rattle.moo_syntax.proofs.Deepening.{phrase_deepens, at_any}
use Rattle.moo_syntax.proofs.Jumps.{no_statement_room}
use Rattle.moo_syntax.proofs.Steps.{took, stayed, stayed_fails, stayed_deepens, passed, refused, too_high}
use Rattle.moo_syntax.proofs.statement.returned.Goals as goal

pub returns-in_err-room_below-clause-failed : goal.returns-in_err-room_below-clause-failed
unfolding grammar
returns-in_err-room_below-clause-failed c =
    let p = err_from_is_err_and c.from_residual.result c.from_residual.ensures.1 in
    passed _ p.1 p.2 (too_high c.in_err-room_below.ensures.0 (λ g ok. at_once (can_take (Sign Semicolon) refl can_give) (λ us. no_statement_room c.in_err-room_below.ensures.1)) (omega (arith, c.in_err-room_below.ensures.1)))

pub returns-then-take-clause-read : goal.returns-then-take-clause-read
unfolding grammar
returns-then-take-clause-read c =
    record {
      reads = λ g a. took c.if-take.ensures refl gives;
      fits = omega (arith, c.in_ok-room_below.ensures);
      tokens = omega (arith, c.if-take.ensures.at, c.in_ok-room_below.ensures);
    }

pub returns-in_err-value-clause-failed : goal.returns-in_err-value-clause-failed
unfolding grammar
returns-in_err-value-clause-failed c =
    let p = err_from_is_err_and c.from_residual-in_err-value.result c.from_residual-in_err-value.ensures.1 in
    let w = c.in_err-value.ensures.failed in
    passed _ p.1 p.2 (record {
      fails = λ g b. stayed_fails c.if-take.ensures (phrase_fails (w.fails g b));
      stands = w.stands;
      deep = λ h g ok. at_any (stayed_deepens c.if-take.ensures (phrase_deepens (w.deep h g ok) (λ a q. ((λ x. omega (arith, q, c.in_ok-room_below.ensures)), tt))));
      long = λ h. let l = w.long h in omega (arith, l, c.if-take.ensures.at, c.in_ok-room_below.ensures);
    })

pub returns-in_err-expect-clause-failed : goal.returns-in_err-expect-clause-failed
unfolding grammar
returns-in_err-expect-clause-failed c =
    let p = err_from_is_err_and c.from_residual-in_err-expect.result c.from_residual-in_err-expect.ensures.1 in
    passed _ p.1 p.2 (refused c.in_err-expect.ensures.0 (λ g a. stayed_fails c.if-take.ensures (then_fails (c.in_ok-value.ensures.read.reads g a) (stayed_fails c.in_err-expect.ensures.1 refuses))))

pub returns-clause-read : goal.returns-clause-read
unfolding grammar
returns-clause-read c =
    record {
      reads = λ g a. stayed c.if-take.ensures (reads (c.in_ok-value.ensures.read.reads g a) (took c.in_ok-expect.ensures refl gives));
      fits = omega (arith, c.in_ok-room_below.ensures, c.in_ok-value.ensures.read.fits);
      tokens = omega (arith, c.if-take.ensures.at, c.in_ok-value.ensures.read.tokens, c.in_ok-expect.ensures.at, c.in_ok-room_below.ensures, c.in_ok-value.ensures.read.fits);
    }
