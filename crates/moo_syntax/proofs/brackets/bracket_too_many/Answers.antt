use Rattle.std.proofs.Common.{◌+◌, ◌<◌, ◌≤◌, ◌≡◌, ◌++◌, ◌∙◌, List, [], ◌∷◌, refl, sym, ap, take, subst, arith}
use Rattle.moo_syntax_token.specs.declared.token.Token.{Token}
use Rattle.moo_syntax_ast.specs.Limits.{most_brackets}
use Rattle.moo_syntax_grammar.specs.Tokens.{words}
use Rattle.moo_syntax_grammar.specs.Brackets.{most_open}
use Rattle.moo_syntax.proofs.Words.{words_front}
use Rattle.moo_syntax.proofs.brackets.bracket_too_many.Goals as goal

nothing_more : (ts : List Token) → ts ++ [] ≡ ts
nothing_more [] = refl
nothing_more (x ∷ ts) = ap (λ v. x ∷ v) (nothing_more ts)

pub returns-then-opened-gt-MOST_BRACKETS : goal.returns-then-opened-gt-MOST_BRACKETS
returns-then-opened-gt-MOST_BRACKETS c =
    let spots = c.args.spots.now in
    let i = c.loop-at.at in
    let x = c.index-spots-at.result in
    let before = c.loop-at.invariant.within [] (omega (arith, c.loop-at.invariant.opened)) in
    let after = c.loop-at.invariant.outside (x.token ∷ []) (omega (arith, c.open_after-opened.ensures, c.if-opened-gt-MOST_BRACKETS.true)) in
    let front = sym (words_front spots i x c.loop-at-test.true c.index-spots-at.is []) ∙ nothing_more (words (take (i + 1) spots)) in (
      c.loop-at-test.true,
      subst (λ (ts : List Token). most_open ts ≤ most_brackets) (nothing_more (words (take i spots))) before,
      subst (λ (ts : List Token). most_brackets < most_open ts) front after,
    )
