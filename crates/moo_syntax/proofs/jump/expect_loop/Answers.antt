use Rattle.std.proofs.Common.{ℕ, List, Option, refl, sym, subst, ◌∙◌, ◌≡◌, is_some, false, true, reverse}
use Rattle.std.specs.List.{list_any}
use Rattle.std.proofs.lemmas.List.Sorted.{list_any-IsPermutation, IsPermutation-reverse}
use Rattle.moo_syntax_grammar.specs.Tokens.{next_passes, name_at}
use Rattle.moo_syntax_grammar.specs.Rules.{is_named}
use Rattle.moo_syntax.proofs.jump.expect_loop.Goals as goal

turned : (ls : List (Option (List ℕ))) (name : List ℕ) → list_any (is_named name) ls ≡ list_any (is_named name) (reverse ls)
turned ls name = list_any-IsPermutation (is_named name) ls (reverse ls) (IsPermutation-reverse ls)

pub returns-in_default : goal.returns-in_default
returns-in_default c = λ name rest is.
    let no = subst (λ v. next_passes (λ x. is_some (name_at x)) v ≡ false) is c.in_default.ensures in
    absurd cc

pub returns-then-has_loop : goal.returns-then-has_loop
returns-then-has_loop c = λ name rest is.
    let both = sym is ∙ c.in-Some.ensures in
    let same : name ≡ c.in-Some.name.now = cc in
    subst (λ v. list_any (is_named v) (reverse c.args.loops.now) ≡ true) (sym same) (sym (turned c.args.loops.now c.in-Some.name.now) ∙ sym c.has_loop.ensures ∙ c.if-has_loop.true)

pub returns-else-has_loop : goal.returns-else-has_loop
returns-else-has_loop c = (
  refl,
  record {
    name = c.in-Some.name.now;
    rest = _;
    token = c.in-Some.ensures;
    other = sym (turned c.args.loops.now c.in-Some.name.now) ∙ sym c.has_loop.ensures ∙ c.if-has_loop.false;
  },
)
