use Rattle.std.proofs.Common.{rules, refl, sym, subst, ◌∙◌, ◌≡◌, [], length, false, true, None, reverse, arith}
use Rattle.std.proofs.lemmas.Result.{err_from_is_err_and}
use Rattle.moo_syntax_grammar.specs.Rules.{has_loop}
use Rattle.moo_syntax_grammar.specs.Tokens.{is_keyword, next_passes}
use Rattle.moo_syntax_grammar.specs.Machine.{sees_fails}
use Rattle.moo_syntax_grammar.specs.Predictive.{after_jump}
use Rattle.moo_syntax_grammar.proofs.Kept.{refused_fails}
use Rattle.moo_syntax.specs.Places.{at_keyword}
use Rattle.moo_syntax.proofs.Jumps.{label_at, empty_list, loop_jumps, no_loop_jumps, some_loops, jump_name, jump_memory, jump_too_deep, jump_ends, jump_unended, jump_refused}
use Rattle.moo_syntax.proofs.Steps.{admitted, admitted_fails, passed}
use Rattle.moo_syntax.proofs.jump.jump.Goals as goal

pub returns-then-is_empty-clause-failed : goal.returns-then-is_empty-clause-failed
returns-then-is_empty-clause-failed c =
    let zero : length c.args.loops.now ≡ 0 = search rules in
    let none : c.args.loops.now ≡ [] = empty_list c.args.loops.now zero in
    let outside : has_loop (reverse c.args.loops.now) None ≡ false = rw none refl in
    λ names. record {
      fails = λ h q g b. sees_fails c.requires.keyword (refused_fails _ (no_loop_jumps g _ None b.1 outside));
      stands = at_keyword c.requires.jumps;
      deep = λ h. absurd cc;
      long = λ h. absurd cc;
    }

pub returns-in_err-expect_keyword-clause-failed : goal.returns-in_err-expect_keyword-clause-failed
returns-in_err-expect_keyword-clause-failed c =
    let no : true ≡ false = sym c.requires.keyword ∙ c.in_err-expect_keyword.ensures.1.other in
    λ names. absurd cc

pub returns-in_err-below-clause-failed : goal.returns-in_err-below-clause-failed
returns-in_err-below-clause-failed c =
    let p = err_from_is_err_and c.from_residual-in_err-below.result c.from_residual-in_err-below.ensures.1 in
    let e = c.in_err-below.ensures in
    let k = c.in_ok-expect_keyword.ensures in
    let same = subst (λ v. next_passes (is_keyword c.args.keyword) v ≡ true) k.token c.requires.keyword in
    let some : c.args.loops.now ≡ [] → ⊥ = search rules in
    λ names. passed _ p.1 p.2 (jump_too_deep e.0 e.1 k same (some_loops c.args.loops.now some))

pub returns-in_err-expect_loop-clause-failed : goal.returns-in_err-expect_loop-clause-failed
returns-in_err-expect_loop-clause-failed c =
    let p = err_from_is_err_and c.from_residual-in_err-expect_loop.result c.from_residual-in_err-expect_loop.ensures.1 in
    let e = c.in_err-expect_loop.ensures in
    let k = c.in_ok-expect_keyword.ensures in
    let same = subst (λ v. next_passes (is_keyword c.args.keyword) v ≡ true) k.token c.requires.keyword in
    let some : c.args.loops.now ≡ [] → ⊥ = search rules in
    let ls = reverse c.args.loops.now in
    λ names. passed _ p.1 p.2 (rw e.0 (record {
      fails = λ h q g b. admitted_fails (λ _. after_jump g ls h) k same (loop_jumps g ls None (some_loops c.args.loops.now some)) (jump_refused g ls h c.expect_keyword.new.self c.expect_keyword.new.self c.expect_keyword.new.self b.1 e.1.other e.1.token);
      stands = jump_name k c.requires.jumps e.1.token;
      deep = λ h. absurd cc;
      long = λ h. absurd cc;
    }))

pub returns-in_err-name-clause-failed : goal.returns-in_err-name-clause-failed
returns-in_err-name-clause-failed c =
    let p = err_from_is_err_and c.from_residual-in_err-name.result c.from_residual-in_err-name.ensures.1 in
    λ names. passed _ p.1 p.2 (jump_memory c.in_err-name.ensures.0)

pub returns-in_err-expect-clause-failed : goal.returns-in_err-expect-clause-failed
returns-in_err-expect-clause-failed c =
    let p = err_from_is_err_and c.from_residual-in_err-expect.result c.from_residual-in_err-expect.ensures.1 in
    let e = c.in_err-expect.ensures in
    let k = c.in_ok-expect_keyword.ensures in
    let same = subst (λ v. next_passes (is_keyword c.args.keyword) v ≡ true) k.token c.requires.keyword in
    let some : c.args.loops.now ≡ [] → ⊥ = search rules in
    let ls = reverse c.args.loops.now in
    λ names. passed _ p.1 p.2 (rw e.0 (record {
      fails = λ h q g b. admitted_fails (λ _. after_jump g ls h) k same (loop_jumps g ls None (some_loops c.args.loops.now some)) (jump_unended g ls h c.expect_keyword.new.self c.take_name.new.self c.expect.new.self c.in_ok-name.name c.in_ok-name.ensures c.in_ok-expect_loop.ensures e.1);
      stands = tt;
      deep = λ h. absurd cc;
      long = λ h. absurd cc;
    }))

pub returns-clause-read : goal.returns-clause-read
returns-clause-read c =
    let k = c.in_ok-expect_keyword.ensures in
    let s = c.in_ok-expect.ensures in
    let same = subst (λ v. next_passes (is_keyword c.args.keyword) v ≡ true) k.token c.requires.keyword in
    let some : c.args.loops.now ≡ [] → ⊥ = search rules in
    let ls = reverse c.args.loops.now in
    λ names. record {
      reads = λ f q g a. admitted (λ _. after_jump g ls f) k same (loop_jumps g ls None (some_loops c.args.loops.now some)) (jump_ends g ls f c.expect_keyword.new.self c.take_name.new.self c.expect.new.self c.in_ok-name.name c.in_ok-name.ensures c.in_ok-expect_loop.ensures s);
      fits = omega (arith, c.in_ok-below.ensures);
      tokens = omega (arith, k.at, label_at c.expect_keyword.new.self c.take_name.new.self c.in_ok-name.name c.in_ok-name.ensures, s.at);
    }
