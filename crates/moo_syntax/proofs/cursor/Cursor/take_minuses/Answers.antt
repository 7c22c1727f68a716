use Rattle.std.proofs.Common.{ℕ, zero, suc, List, ◌∷◌, ◌≡◌, refl, ap, ◌∙◌, rules, add-one}
use Rattle.moo_syntax_token.specs.declared.sign.Sign.TheVariants.{Minus}
use Rattle.moo_syntax_token.specs.declared.token.Token.{Token}
use Rattle.moo_syntax_token.specs.declared.token.Token.TheVariants.{Sign}
use Rattle.moo_syntax_grammar.specs.Minuses.{minuses}
use Rattle.moo_syntax.proofs.cursor.Cursor.take_minuses.Goals as goal

minuses_more : (n : ℕ) (ts : List Token) → minuses n (Sign Minus ∷ ts) ≡ minuses (suc n) ts
minuses_more zero ts = refl
minuses_more (suc n) ts = ap (λ v. Sign Minus ∷ v) (minuses_more n ts)

pub loop-count-preserved : goal.loop-count-preserved
loop-count-preserved c =
    let taken = c.loop-count-test.ensures in
    record {
      tokens = c.loop-count.invariant.tokens ∙ rw add-one (ap (minuses c.loop-count.count) taken.token ∙ minuses_more _ _);
      at = search rules;
      spots = search rules;
    }
