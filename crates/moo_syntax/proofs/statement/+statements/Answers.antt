use Rattle.std.proofs.Common.{rules, refl, sym, ◌∙◌, ap, ◌+◌, reverse, length, true, false, [], Some, None, is_some, arith}
use Rattle.std.proofs.lemmas.Result.{err_from_is_err_and}
use Rattle.std.proofs.lemmas.List.{reverse-append}
use Rattle.moo_syntax_token.specs.declared.sign.Sign.TheVariants.{LeftBracket}
use Rattle.moo_syntax_token.specs.declared.keyword.Keyword.TheVariants.{In}
use Rattle.moo_syntax_token.specs.declared.token.Token.TheVariants.{Name, Keyword, Sign}
use Rattle.moo_syntax_ast.specs.declared.tree.Arm.{ElseIf, Else}
use Rattle.moo_syntax_ast.specs.Tree.{breaks, continues}
use Rattle.moo_syntax_ast.specs.Limits.{block_height}
use Rattle.moo_syntax_ast.specs.View.{statement as tree_of}
use Rattle.moo_syntax_ast.proofs.Rows.{row_block, row_arms, row_handlers}
use Rattle.moo_syntax_grammar.specs.Grammar.{Sort, statement}
use Rattle.moo_syntax_grammar.specs.Machine.{gives, sees, misses, reads, refuses, sees_fails, misses_fails, phrase_fails, then_fails}
use Rattle.moo_syntax_grammar.specs.Predictive.{grammar, after_if, after_for, after_while, after_return, after_try}
use Rattle.moo_syntax_grammar.specs.Tokens.{name_at}
use Rattle.moo_syntax.specs.Cursor.{left, Takes, Stays}
use Rattle.moo_syntax.specs.Outcome.{IsReadBy, HasFailedBy}
use Rattle.moo_syntax.specs.Outgrown.{can_read, can_take, at_once}
use Rattle.moo_syntax.proofs.Deepening.{at_any, sees_deepens, misses_deepens, then_deepens, phrase_deepens}
use Rattle.moo_syntax.specs.Statements.{after_range, performing}
use Rattle.moo_syntax.proofs.Blocks.{before_nothing, before_push, block_height_push, statement_height_positive, arms_before_nothing, arms_before_push, arms_push, arms_height_push, handlers_before_push, handlers_push, with_handler_height, handlers_height_push}
use Rattle.moo_syntax.proofs.Jumps.{label_reads, label_at, no_statement_room, break_jumps, continue_jumps}
use Rattle.moo_syntax.proofs.Steps.{took, took_fails, took_deepens, stayed, stayed_fails, stayed_deepens, told_admits, passed, refused, no_memory, too_high, if_ok, if_err, none_of}
use Rattle.moo_syntax.proofs.statement.+statements.Goals as goal

pub statements-loop-alloc-init : goal.statements-loop-alloc-init
statements-loop-alloc-init t c = record {
  moves = search rules;
  loops = refl;
  goes_on = rw c.in_ok-found.ensures.items (record { reads = λ g a e r d. d; fails = λ g a r d. d; deep = λ g ok n r d. d });
  fits = rw c.in_ok-found.ensures.items (omega arith);
  tokens = rw c.in_ok-found.ensures.items (omega arith);
}

pub statements-loop-alloc-preserved-then-take : goal.statements-loop-alloc-preserved-then-take
unfolding grammar
statements-loop-alloc-preserved-then-take t c =
    let i = c.loop-alloc.invariant in
    let begins = sym c.is_at_statement.ensures ∙ c.loop-alloc-test.true in
    record {
      moves = search rules;
      loops = i.loops;
      goes_on = record {
        reads = λ g a b r d. i.goes_on.reads g a _ _ (sees begins (took c.if-take.ensures refl (reads d gives)));
        fails = λ g a r d. i.goes_on.fails g a _ (sees_fails begins (took_fails c.if-take.ensures refl (phrase_fails d)));
        deep = λ g ok n r d. i.goes_on.deep g ok n r (sees_deepens begins (took_deepens c.if-take.ensures refl (phrase_deepens d (λ b q. q))));
      };
      fits = i.fits;
      tokens = omega (arith, i.tokens, c.if-take.ensures.at);
    }

pub statements-loop-alloc-preserved : goal.statements-loop-alloc-preserved
unfolding grammar
statements-loop-alloc-preserved t c =
    let i = c.loop-alloc.invariant in
    let s = rw i.loops at c.in_ok-next.ensures.read in
    let begins = sym c.is_at_statement.ensures ∙ c.loop-alloc-test.true in
    let push = block_height_push c.loop-alloc.found.items c.in_ok-next.next in
    record {
      moves = search rules;
      loops = c.in_ok-next.ensures.loops ∙ i.loops;
      goes_on = rw c.in_ok-push.ensures.items (record {
        reads = λ g a b r d. rw before_push (i.goes_on.reads g a _ _ (sees begins (stayed c.if-take.ensures (reads (s.reads g a) (reads d gives)))));
        fails = λ g a r d. i.goes_on.fails g a _ (sees_fails begins (stayed_fails c.if-take.ensures (then_fails (s.reads g a) (phrase_fails d))));
        deep = λ g ok n r d. i.goes_on.deep g ok n r (sees_deepens begins (stayed_deepens c.if-take.ensures (then_deepens (s.reads g ok) (phrase_deepens d (λ b q. omega (arith, q))))));
      });
      fits = rw c.in_ok-push.ensures.items (omega (arith, push, i.fits, c.in_ok-next.ensures.read.fits));
      tokens = rw c.in_ok-push.ensures.items (omega (arith, push, i.tokens, c.in_ok-next.ensures.read.tokens, c.if-take.ensures.at));
    }

pub statements-loop-alloc-smaller : goal.statements-loop-alloc-smaller
statements-loop-alloc-smaller t c =
    omega (arith, c.in_ok-next.ensures.read.tokens, statement_height_positive (tree_of c.in_ok-next.next), c.if-take.ensures.at, ap length c.in_ok-next.ensures.moves.spots, ap length c.if-take.ensures.spots, c.statement.new.tokens.in_range, c.loop-alloc.tokens.in_range)

pub statements-returns-in_err-found-clause-failed : goal.statements-returns-in_err-found-clause-failed
statements-returns-in_err-found-clause-failed t c =
    let p = err_from_is_err_and c.from_residual.result c.from_residual.ensures.1 in
    passed _ p.1 p.2 (no_memory refl)

pub statements-returns-in_err-next-clause-failed : goal.statements-returns-in_err-next-clause-failed
unfolding grammar
statements-returns-in_err-next-clause-failed t c =
    let p = err_from_is_err_and c.from_residual-in_err-next.result c.from_residual-in_err-next.ensures.1 in
    let i = c.loop-alloc.invariant in
    let w = rw i.loops at c.in_err-next.ensures.failed in
    let begins = sym c.is_at_statement.ensures ∙ c.loop-alloc-test.true in
    passed _ p.1 p.2 (record {
      fails = λ g b. i.goes_on.fails g (told_admits _ c.args.names g b) _ (sees_fails begins (stayed_fails c.if-take.ensures (phrase_fails (w.fails g b))));
      stands = w.stands;
      deep = λ h g ok. i.goes_on.deep g ok _ _ (sees_deepens begins (stayed_deepens c.if-take.ensures (phrase_deepens (w.deep h g ok) (λ s q b _. omega (arith, q)))));
      long = λ h. let l = w.long h in omega (arith, l, i.moves.at, c.if-take.ensures.at);
    })

pub statements-returns-in_err-push-clause-failed : goal.statements-returns-in_err-push-clause-failed
statements-returns-in_err-push-clause-failed t c =
    let p = err_from_is_err_and c.from_residual-in_err-push.result c.from_residual-in_err-push.ensures.1 in
    passed _ p.1 p.2 (no_memory refl)

pub statements-returns-clause-read : goal.statements-returns-clause-read
unfolding grammar
statements-returns-clause-read t c =
    let i = c.loop-alloc.invariant in
    let ends = sym c.is_at_statement.ensures ∙ c.loop-alloc-test.false in
    record {
      reads = λ g a. rw (← before_nothing c.loop-alloc.found.items) (i.goes_on.reads g a _ _ (misses ends gives));
      fits = i.fits;
      tokens = omega (arith, i.tokens);
    }

pub statement-returns-then-take_keyword-clause-read : goal.statement-returns-then-take_keyword-clause-read
unfolding grammar
statement-returns-then-take_keyword-clause-read t c =
    if_ok (λ n. IsReadBy c.args.names Sort.stmt (λ g. after_if (reverse c.args.loops.now.items)) c.args.room 1 c.take_keyword.new.self c.branches.new.tokens (tree_of n)) (λ n. IsReadBy c.args.names Sort.stmt (λ g. grammar g (statement (reverse c.args.loops.now.items))) c.args.room 0 c.args.tokens.now c.branches.new.tokens (tree_of n)) c.branches.result c.branches.ensures.read
    (λ n v. record {
      reads = λ g a. took c.if-take_keyword.ensures refl (v.reads g a);
      fits = omega (arith, v.fits);
      tokens = omega (arith, v.tokens, c.if-take_keyword.ensures.at);
    })

pub statement-returns-then-take_keyword-clause-failed : goal.statement-returns-then-take_keyword-clause-failed
unfolding grammar
statement-returns-then-take_keyword-clause-failed t c =
    if_err (λ f. HasFailedBy c.args.names false Sort.stmt (λ g. after_if (reverse c.args.loops.now.items)) c.args.room 1 c.take_keyword.new.self c.branches.new.tokens f) (λ f. HasFailedBy c.args.names true Sort.stmt (λ g. grammar g (statement (reverse c.args.loops.now.items))) c.args.room 0 c.args.tokens.now c.branches.new.tokens f) c.branches.result c.branches.ensures.failed
    (λ f w. record {
      fails = λ g b. took_fails c.if-take_keyword.ensures refl (w.fails g b);
      stands = w.stands;
      deep = λ h g ok. took_deepens c.if-take_keyword.ensures refl (w.deep h g ok);
      long = λ h. let l = w.long h in omega (arith, l, c.if-take_keyword.ensures.at);
    })

pub statement-returns-then-take_keyword-2-clause-read : goal.statement-returns-then-take_keyword-2-clause-read
unfolding grammar
statement-returns-then-take_keyword-2-clause-read t c =
    if_ok (λ n. IsReadBy c.args.names Sort.stmt (λ g. after_for (reverse c.args.loops.now.items)) c.args.room 1 c.take_keyword-2.new.self c.for_loop.new.tokens (tree_of n)) (λ n. IsReadBy c.args.names Sort.stmt (λ g. grammar g (statement (reverse c.args.loops.now.items))) c.args.room 0 c.args.tokens.now c.for_loop.new.tokens (tree_of n)) c.for_loop.result c.for_loop.ensures.read
    (λ n v. record {
      reads = λ g a. stayed c.if-take_keyword.ensures (took c.if-take_keyword-2.ensures refl (v.reads g a));
      fits = omega (arith, v.fits);
      tokens = omega (arith, v.tokens, c.if-take_keyword.ensures.at, c.if-take_keyword-2.ensures.at);
    })

pub statement-returns-then-take_keyword-2-clause-failed : goal.statement-returns-then-take_keyword-2-clause-failed
unfolding grammar
statement-returns-then-take_keyword-2-clause-failed t c =
    if_err (λ f. HasFailedBy c.args.names false Sort.stmt (λ g. after_for (reverse c.args.loops.now.items)) c.args.room 1 c.take_keyword-2.new.self c.for_loop.new.tokens f) (λ f. HasFailedBy c.args.names true Sort.stmt (λ g. grammar g (statement (reverse c.args.loops.now.items))) c.args.room 0 c.args.tokens.now c.for_loop.new.tokens f) c.for_loop.result c.for_loop.ensures.failed
    (λ f w. record {
      fails = λ g b. stayed_fails c.if-take_keyword.ensures (took_fails c.if-take_keyword-2.ensures refl (w.fails g b));
      stands = w.stands;
      deep = λ h g ok. stayed_deepens c.if-take_keyword.ensures (took_deepens c.if-take_keyword-2.ensures refl (w.deep h g ok));
      long = λ h. let l = w.long h in omega (arith, l, c.if-take_keyword.ensures.at, c.if-take_keyword-2.ensures.at);
    })

pub statement-returns-then-take_keyword-3-clause-read : goal.statement-returns-then-take_keyword-3-clause-read
unfolding grammar
statement-returns-then-take_keyword-3-clause-read t c =
    if_ok (λ n. IsReadBy c.args.names Sort.stmt (λ g. after_while (reverse c.args.loops.now.items)) c.args.room 1 c.take_keyword-3.new.self c.while_loop.new.tokens (tree_of n)) (λ n. IsReadBy c.args.names Sort.stmt (λ g. grammar g (statement (reverse c.args.loops.now.items))) c.args.room 0 c.args.tokens.now c.while_loop.new.tokens (tree_of n)) c.while_loop.result c.while_loop.ensures.read
    (λ n v. record {
      reads = λ g a. stayed c.if-take_keyword.ensures (stayed c.if-take_keyword-2.ensures (took c.if-take_keyword-3.ensures refl (v.reads g a)));
      fits = omega (arith, v.fits);
      tokens = omega (arith, v.tokens, c.if-take_keyword.ensures.at, c.if-take_keyword-2.ensures.at, c.if-take_keyword-3.ensures.at);
    })

pub statement-returns-then-take_keyword-3-clause-failed : goal.statement-returns-then-take_keyword-3-clause-failed
unfolding grammar
statement-returns-then-take_keyword-3-clause-failed t c =
    if_err (λ f. HasFailedBy c.args.names false Sort.stmt (λ g. after_while (reverse c.args.loops.now.items)) c.args.room 1 c.take_keyword-3.new.self c.while_loop.new.tokens f) (λ f. HasFailedBy c.args.names true Sort.stmt (λ g. grammar g (statement (reverse c.args.loops.now.items))) c.args.room 0 c.args.tokens.now c.while_loop.new.tokens f) c.while_loop.result c.while_loop.ensures.failed
    (λ f w. record {
      fails = λ g b. stayed_fails c.if-take_keyword.ensures (stayed_fails c.if-take_keyword-2.ensures (took_fails c.if-take_keyword-3.ensures refl (w.fails g b)));
      stands = w.stands;
      deep = λ h g ok. stayed_deepens c.if-take_keyword.ensures (stayed_deepens c.if-take_keyword-2.ensures (took_deepens c.if-take_keyword-3.ensures refl (w.deep h g ok)));
      long = λ h. let l = w.long h in omega (arith, l, c.if-take_keyword.ensures.at, c.if-take_keyword-2.ensures.at, c.if-take_keyword-3.ensures.at);
    })

pub statement-returns-in_err-jump-clause-failed : goal.statement-returns-in_err-jump-clause-failed
unfolding grammar
statement-returns-in_err-jump-clause-failed t c =
    let p = err_from_is_err_and c.from_residual.result c.from_residual.ensures.1 in
    let w = rw c.deref.ensures.value at c.in_err-jump.ensures.failed c.args.names in
    passed _ p.1 p.2 (record {
      fails = λ g b. stayed_fails c.if-take_keyword.ensures (stayed_fails c.if-take_keyword-2.ensures (stayed_fails c.if-take_keyword-3.ensures (w.fails breaks _ g b)));
      stands = w.stands;
      deep = λ h g ok. stayed_deepens c.if-take_keyword.ensures (stayed_deepens c.if-take_keyword-2.ensures (stayed_deepens c.if-take_keyword-3.ensures (w.deep h g ok breaks _)));
      long = λ h. let l = w.long h in omega (arith, l, c.if-take_keyword.ensures.at, c.if-take_keyword-2.ensures.at, c.if-take_keyword-3.ensures.at);
    })

pub statement-returns-then-is_at_keyword-clause-read : goal.statement-returns-then-is_at_keyword-clause-read
unfolding grammar
statement-returns-then-is_at_keyword-clause-read t c =
    let v = rw c.deref.ensures.value at c.in_ok-jump.ensures.read c.args.names in
    record {
      reads = λ g a. stayed c.if-take_keyword.ensures (stayed c.if-take_keyword-2.ensures (stayed c.if-take_keyword-3.ensures (v.reads breaks _ g a)));
      fits = omega (arith, v.fits);
      tokens = omega (arith, v.tokens, c.if-take_keyword.ensures.at, c.if-take_keyword-2.ensures.at, c.if-take_keyword-3.ensures.at);
    }

pub statement-jump-requires-clause-jumps : goal.statement-jump-requires-clause-jumps
statement-jump-requires-clause-jumps t c = break_jumps (left c.take_keyword-3.new.self) (sym c.is_at_keyword.ensures ∙ c.if-is_at_keyword.true)

pub statement-jump-requires-then-is_at_keyword-2-clause-jumps : goal.statement-jump-requires-then-is_at_keyword-2-clause-jumps
statement-jump-requires-then-is_at_keyword-2-clause-jumps t c = continue_jumps (left c.take_keyword-3.new.self) (sym c.is_at_keyword-2.ensures ∙ c.if-is_at_keyword-2.true)

pub statement-returns-in_err-jump-2-clause-failed : goal.statement-returns-in_err-jump-2-clause-failed
unfolding grammar
statement-returns-in_err-jump-2-clause-failed t c =
    let p = err_from_is_err_and c.from_residual-in_err-jump-2.result c.from_residual-in_err-jump-2.ensures.1 in
    let w = rw c.deref-then-is_at_keyword-2.ensures.value at c.in_err-jump-2.ensures.failed c.args.names in
    passed _ p.1 p.2 (record {
      fails = λ g b. stayed_fails c.if-take_keyword.ensures (stayed_fails c.if-take_keyword-2.ensures (stayed_fails c.if-take_keyword-3.ensures (misses_fails (sym c.is_at_keyword.ensures ∙ c.if-is_at_keyword.false) (w.fails continues _ g b))));
      stands = w.stands;
      deep = λ h g ok. stayed_deepens c.if-take_keyword.ensures (stayed_deepens c.if-take_keyword-2.ensures (stayed_deepens c.if-take_keyword-3.ensures (misses_deepens (sym c.is_at_keyword.ensures ∙ c.if-is_at_keyword.false) (w.deep h g ok continues _))));
      long = λ h. let l = w.long h in omega (arith, l, c.if-take_keyword.ensures.at, c.if-take_keyword-2.ensures.at, c.if-take_keyword-3.ensures.at);
    })

pub statement-returns-then-is_at_keyword-2-clause-read : goal.statement-returns-then-is_at_keyword-2-clause-read
unfolding grammar
statement-returns-then-is_at_keyword-2-clause-read t c =
    let v = rw c.deref-then-is_at_keyword-2.ensures.value at c.in_ok-jump-2.ensures.read c.args.names in
    record {
      reads = λ g a. stayed c.if-take_keyword.ensures (stayed c.if-take_keyword-2.ensures (stayed c.if-take_keyword-3.ensures (misses (sym c.is_at_keyword.ensures ∙ c.if-is_at_keyword.false) (v.reads continues _ g a))));
      fits = omega (arith, v.fits);
      tokens = omega (arith, v.tokens, c.if-take_keyword.ensures.at, c.if-take_keyword-2.ensures.at, c.if-take_keyword-3.ensures.at);
    }

pub statement-returns-then-take_keyword-4-clause-read : goal.statement-returns-then-take_keyword-4-clause-read
unfolding grammar
statement-returns-then-take_keyword-4-clause-read t c =
    if_ok (λ n. IsReadBy c.args.names Sort.stmt (λ g. after_return) c.args.room 1 c.take_keyword-4.new.self c.returned.new.tokens (tree_of n)) (λ n. IsReadBy c.args.names Sort.stmt (λ g. grammar g (statement (reverse c.args.loops.now.items))) c.args.room 0 c.args.tokens.now c.returned.new.tokens (tree_of n)) c.returned.result c.returned.ensures.read
    (λ n v. record {
      reads = λ g a. stayed c.if-take_keyword.ensures (stayed c.if-take_keyword-2.ensures (stayed c.if-take_keyword-3.ensures (misses (sym c.is_at_keyword.ensures ∙ c.if-is_at_keyword.false) (misses (sym c.is_at_keyword-2.ensures ∙ c.if-is_at_keyword-2.false) (took c.if-take_keyword-4.ensures refl (v.reads g a))))));
      fits = omega (arith, v.fits);
      tokens = omega (arith, v.tokens, c.if-take_keyword.ensures.at, c.if-take_keyword-2.ensures.at, c.if-take_keyword-3.ensures.at, c.if-take_keyword-4.ensures.at);
    })

pub statement-returns-then-take_keyword-4-clause-failed : goal.statement-returns-then-take_keyword-4-clause-failed
unfolding grammar
statement-returns-then-take_keyword-4-clause-failed t c =
    if_err (λ f. HasFailedBy c.args.names false Sort.stmt (λ g. after_return) c.args.room 1 c.take_keyword-4.new.self c.returned.new.tokens f) (λ f. HasFailedBy c.args.names true Sort.stmt (λ g. grammar g (statement (reverse c.args.loops.now.items))) c.args.room 0 c.args.tokens.now c.returned.new.tokens f) c.returned.result c.returned.ensures.failed
    (λ f w. record {
      fails = λ g b. stayed_fails c.if-take_keyword.ensures (stayed_fails c.if-take_keyword-2.ensures (stayed_fails c.if-take_keyword-3.ensures (misses_fails (sym c.is_at_keyword.ensures ∙ c.if-is_at_keyword.false) (misses_fails (sym c.is_at_keyword-2.ensures ∙ c.if-is_at_keyword-2.false) (took_fails c.if-take_keyword-4.ensures refl (w.fails g b))))));
      stands = w.stands;
      deep = λ h g ok. stayed_deepens c.if-take_keyword.ensures (stayed_deepens c.if-take_keyword-2.ensures (stayed_deepens c.if-take_keyword-3.ensures (misses_deepens (sym c.is_at_keyword.ensures ∙ c.if-is_at_keyword.false) (misses_deepens (sym c.is_at_keyword-2.ensures ∙ c.if-is_at_keyword-2.false) (took_deepens c.if-take_keyword-4.ensures refl (w.deep h g ok))))));
      long = λ h. let l = w.long h in omega (arith, l, c.if-take_keyword.ensures.at, c.if-take_keyword-2.ensures.at, c.if-take_keyword-3.ensures.at, c.if-take_keyword-4.ensures.at);
    })

pub statement-returns-then-take_keyword-5-clause-read : goal.statement-returns-then-take_keyword-5-clause-read
unfolding grammar
statement-returns-then-take_keyword-5-clause-read t c =
    if_ok (λ n. IsReadBy c.args.names Sort.stmt (λ g. after_try (reverse c.args.loops.now.items)) c.args.room 1 c.take_keyword-5.new.self c.attempt.new.tokens (tree_of n)) (λ n. IsReadBy c.args.names Sort.stmt (λ g. grammar g (statement (reverse c.args.loops.now.items))) c.args.room 0 c.args.tokens.now c.attempt.new.tokens (tree_of n)) c.attempt.result c.attempt.ensures.read
    (λ n v. record {
      reads = λ g a. stayed c.if-take_keyword.ensures (stayed c.if-take_keyword-2.ensures (stayed c.if-take_keyword-3.ensures (misses (sym c.is_at_keyword.ensures ∙ c.if-is_at_keyword.false) (misses (sym c.is_at_keyword-2.ensures ∙ c.if-is_at_keyword-2.false) (stayed c.if-take_keyword-4.ensures (took c.if-take_keyword-5.ensures refl (v.reads g a)))))));
      fits = omega (arith, v.fits);
      tokens = omega (arith, v.tokens, c.if-take_keyword.ensures.at, c.if-take_keyword-2.ensures.at, c.if-take_keyword-3.ensures.at, c.if-take_keyword-4.ensures.at, c.if-take_keyword-5.ensures.at);
    })

pub statement-returns-then-take_keyword-5-clause-failed : goal.statement-returns-then-take_keyword-5-clause-failed
unfolding grammar
statement-returns-then-take_keyword-5-clause-failed t c =
    if_err (λ f. HasFailedBy c.args.names false Sort.stmt (λ g. after_try (reverse c.args.loops.now.items)) c.args.room 1 c.take_keyword-5.new.self c.attempt.new.tokens f) (λ f. HasFailedBy c.args.names true Sort.stmt (λ g. grammar g (statement (reverse c.args.loops.now.items))) c.args.room 0 c.args.tokens.now c.attempt.new.tokens f) c.attempt.result c.attempt.ensures.failed
    (λ f w. record {
      fails = λ g b. stayed_fails c.if-take_keyword.ensures (stayed_fails c.if-take_keyword-2.ensures (stayed_fails c.if-take_keyword-3.ensures (misses_fails (sym c.is_at_keyword.ensures ∙ c.if-is_at_keyword.false) (misses_fails (sym c.is_at_keyword-2.ensures ∙ c.if-is_at_keyword-2.false) (stayed_fails c.if-take_keyword-4.ensures (took_fails c.if-take_keyword-5.ensures refl (w.fails g b)))))));
      stands = w.stands;
      deep = λ h g ok. stayed_deepens c.if-take_keyword.ensures (stayed_deepens c.if-take_keyword-2.ensures (stayed_deepens c.if-take_keyword-3.ensures (misses_deepens (sym c.is_at_keyword.ensures ∙ c.if-is_at_keyword.false) (misses_deepens (sym c.is_at_keyword-2.ensures ∙ c.if-is_at_keyword-2.false) (stayed_deepens c.if-take_keyword-4.ensures (took_deepens c.if-take_keyword-5.ensures refl (w.deep h g ok)))))));
      long = λ h. let l = w.long h in omega (arith, l, c.if-take_keyword.ensures.at, c.if-take_keyword-2.ensures.at, c.if-take_keyword-3.ensures.at, c.if-take_keyword-4.ensures.at, c.if-take_keyword-5.ensures.at);
    })

pub statement-returns-clause-read : goal.statement-returns-clause-read
unfolding grammar
statement-returns-clause-read t c =
    if_ok (λ n. IsReadBy c.args.names Sort.stmt (λ g. performing) c.args.room 0 c.take_keyword-5.new.self c.performed.new.tokens (tree_of n)) (λ n. IsReadBy c.args.names Sort.stmt (λ g. grammar g (statement (reverse c.args.loops.now.items))) c.args.room 0 c.args.tokens.now c.performed.new.tokens (tree_of n)) c.performed.result c.performed.ensures.read
    (λ n v. record {
      reads = λ g a. stayed c.if-take_keyword.ensures (stayed c.if-take_keyword-2.ensures (stayed c.if-take_keyword-3.ensures (misses (sym c.is_at_keyword.ensures ∙ c.if-is_at_keyword.false) (misses (sym c.is_at_keyword-2.ensures ∙ c.if-is_at_keyword-2.false) (stayed c.if-take_keyword-4.ensures (stayed c.if-take_keyword-5.ensures (v.reads g a)))))));
      fits = omega (arith, v.fits);
      tokens = omega (arith, v.tokens, c.if-take_keyword.ensures.at, c.if-take_keyword-2.ensures.at, c.if-take_keyword-3.ensures.at, c.if-take_keyword-4.ensures.at, c.if-take_keyword-5.ensures.at);
    })

pub statement-returns-clause-failed : goal.statement-returns-clause-failed
unfolding grammar
statement-returns-clause-failed t c =
    if_err (λ f. HasFailedBy c.args.names true Sort.stmt (λ g. performing) c.args.room 0 c.take_keyword-5.new.self c.performed.new.tokens f) (λ f. HasFailedBy c.args.names true Sort.stmt (λ g. grammar g (statement (reverse c.args.loops.now.items))) c.args.room 0 c.args.tokens.now c.performed.new.tokens f) c.performed.result c.performed.ensures.failed
    (λ f w. record {
      fails = λ g b. stayed_fails c.if-take_keyword.ensures (stayed_fails c.if-take_keyword-2.ensures (stayed_fails c.if-take_keyword-3.ensures (misses_fails (sym c.is_at_keyword.ensures ∙ c.if-is_at_keyword.false) (misses_fails (sym c.is_at_keyword-2.ensures ∙ c.if-is_at_keyword-2.false) (stayed_fails c.if-take_keyword-4.ensures (stayed_fails c.if-take_keyword-5.ensures (w.fails g b)))))));
      stands = w.stands;
      deep = λ h g ok. stayed_deepens c.if-take_keyword.ensures (stayed_deepens c.if-take_keyword-2.ensures (stayed_deepens c.if-take_keyword-3.ensures (misses_deepens (sym c.is_at_keyword.ensures ∙ c.if-is_at_keyword.false) (misses_deepens (sym c.is_at_keyword-2.ensures ∙ c.if-is_at_keyword-2.false) (stayed_deepens c.if-take_keyword-4.ensures (stayed_deepens c.if-take_keyword-5.ensures (w.deep h g ok)))))));
      long = λ h. let l = w.long h in omega (arith, l, c.if-take_keyword.ensures.at, c.if-take_keyword-2.ensures.at, c.if-take_keyword-3.ensures.at, c.if-take_keyword-4.ensures.at, c.if-take_keyword-5.ensures.at);
    })

pub branches-returns-in_err-room_below-clause-failed : goal.branches-returns-in_err-room_below-clause-failed
unfolding grammar
branches-returns-in_err-room_below-clause-failed t c =
    let p = err_from_is_err_and c.from_residual.result c.from_residual.ensures.1 in
    passed _ p.1 p.2 (too_high c.in_err-room_below.ensures.0 (λ g ok. at_once can_read (λ us. no_statement_room c.in_err-room_below.ensures.1)) (omega (arith, c.in_err-room_below.ensures.1)))

pub branches-returns-in_err-condition-clause-failed : goal.branches-returns-in_err-condition-clause-failed
unfolding grammar
branches-returns-in_err-condition-clause-failed t c =
    let p = err_from_is_err_and c.from_residual-in_err-condition.result c.from_residual-in_err-condition.ensures.1 in
    let w = c.in_err-condition.ensures.failed in
    passed _ p.1 p.2 (record {
      fails = λ g b. phrase_fails (w.fails g b);
      stands = w.stands;
      deep = λ h g ok. at_any (phrase_deepens (w.deep h g ok) (λ a q b _ d _. ((λ x. omega (arith, q, c.in_ok-room_below.ensures)), tt)));
      long = λ h. let l = w.long h in omega (arith, l, c.in_ok-room_below.ensures);
    })

pub branches-returns-in_err-body-clause-failed : goal.branches-returns-in_err-body-clause-failed
unfolding grammar
branches-returns-in_err-body-clause-failed t c =
    let p = err_from_is_err_and c.from_residual-in_err-body.result c.from_residual-in_err-body.ensures.1 in
    let w = c.in_err-body.ensures.failed in
    passed _ p.1 p.2 (record {
      fails = λ g b. then_fails (c.in_ok-condition.ensures.read.reads g (told_admits _ c.args.names g b)) (phrase_fails (w.fails g b));
      stands = w.stands;
      deep = λ h g ok. at_any (then_deepens (c.in_ok-condition.ensures.read.reads g ok) (phrase_deepens (w.deep h g ok) (λ b q d _. ((λ x. omega (arith, q, c.in_ok-room_below.ensures)), tt))));
      long = λ h. let l = w.long h in omega (arith, l, c.in_ok-condition.ensures.read.tokens, c.in_ok-room_below.ensures);
    })

pub branches-returns-in_err-further-clause-failed : goal.branches-returns-in_err-further-clause-failed
unfolding grammar
branches-returns-in_err-further-clause-failed t c =
    let p = err_from_is_err_and c.from_residual-in_err-further.result c.from_residual-in_err-further.ensures.1 in
    let w = (rw c.in_ok-body.ensures.loops at c.in_err-further.ensures.failed) in
    passed _ p.1 p.2 (record {
      fails = λ g b. then_fails (c.in_ok-condition.ensures.read.reads g (told_admits _ c.args.names g b)) (then_fails (c.in_ok-body.ensures.read.reads g (told_admits _ c.args.names g b)) (phrase_fails (w.fails g b)));
      stands = w.stands;
      deep = λ h g ok. at_any (then_deepens (c.in_ok-condition.ensures.read.reads g ok) (then_deepens (c.in_ok-body.ensures.read.reads g ok) (phrase_deepens (w.deep h g ok) (λ d q. ((λ x. omega (arith, q, c.in_ok-room_below.ensures)), tt)))));
      long = λ h. let l = w.long h in omega (arith, l, c.in_ok-condition.ensures.read.tokens, c.in_ok-body.ensures.read.tokens, c.in_ok-room_below.ensures);
    })

pub branches-returns-in_err-expect_keyword-clause-failed : goal.branches-returns-in_err-expect_keyword-clause-failed
unfolding grammar
branches-returns-in_err-expect_keyword-clause-failed t c =
    let p = err_from_is_err_and c.from_residual-in_err-expect_keyword.result c.from_residual-in_err-expect_keyword.ensures.1 in
    passed _ p.1 p.2 (refused c.in_err-expect_keyword.ensures.0 (λ g a. then_fails (c.in_ok-condition.ensures.read.reads g a) (then_fails (c.in_ok-body.ensures.read.reads g a) (then_fails ((rw c.in_ok-body.ensures.loops at c.in_ok-further.ensures.read).reads g a) (stayed_fails c.in_err-expect_keyword.ensures.1 refuses)))))

pub branches-returns-clause-read : goal.branches-returns-clause-read
unfolding grammar
branches-returns-clause-read t c =
    rw (row_block c.in_ok-body.body, row_arms c.in_ok-further.further) (record {
      reads = λ g a. reads (c.in_ok-condition.ensures.read.reads g a) (reads (c.in_ok-body.ensures.read.reads g a) (reads ((rw c.in_ok-body.ensures.loops at c.in_ok-further.ensures.read).reads g a) (took c.in_ok-expect_keyword.ensures refl gives)));
      fits = omega (arith, c.in_ok-room_below.ensures, c.in_ok-condition.ensures.read.fits, c.in_ok-body.ensures.read.fits, c.in_ok-further.ensures.read.fits);
      tokens = omega (arith, c.in_ok-condition.ensures.read.tokens, c.in_ok-body.ensures.read.tokens, c.in_ok-further.ensures.read.tokens, c.in_ok-expect_keyword.ensures.at, c.in_ok-room_below.ensures);
    })

pub arms-loop-tokens-init : goal.arms-loop-tokens-init
arms-loop-tokens-init t c = record {
  moves = search rules;
  loops = refl;
  goes_on = rw c.new-found.ensures.items (record { reads = λ g a e r d. d; fails = λ g a r d. d; deep = λ g ok n r d. d });
  fits = rw c.new-found.ensures.items (omega arith);
  tokens = rw c.new-found.ensures.items (omega arith);
}

pub arms-loop-tokens-preserved : goal.arms-loop-tokens-preserved
unfolding grammar
arms-loop-tokens-preserved t c =
    let i = c.loop-tokens.invariant in
    let taken = c.loop-tokens-test.ensures in
    let v = c.in_ok-condition.ensures.read in
    let s = rw i.loops at c.in_ok-body.ensures.read in
    let push = arms_height_push c.loop-tokens.found.items (ElseIf c.in_ok-condition.condition.tree c.in_ok-body.body) in
    let rows = row_block c.in_ok-body.body in
    record {
      moves = search rules;
      loops = c.in_ok-body.ensures.loops ∙ i.loops;
      goes_on = rw c.in_ok-push.ensures.items (record {
        reads = λ g a b r d. rw (arms_before_push, rows) (i.goes_on.reads g a _ _ (took taken refl (reads (v.reads g a) (reads (s.reads g a) (reads d gives)))));
        fails = λ g a r d. i.goes_on.fails g a _ (took_fails taken refl (then_fails (v.reads g a) (then_fails (s.reads g a) (phrase_fails d))));
        deep = λ g ok n r d. i.goes_on.deep g ok n r (took_deepens taken refl (then_deepens (v.reads g ok) (then_deepens (s.reads g ok) (phrase_deepens d (λ b q. omega (arith, q))))));
      });
      fits = rw c.in_ok-push.ensures.items (omega (arith, push, ap block_height rows, i.fits, v.fits, s.fits));
      tokens = rw c.in_ok-push.ensures.items (omega (arith, push, ap block_height rows, i.tokens, v.tokens, s.tokens, taken.at));
    }

pub arms-returns-in_err-condition-clause-failed : goal.arms-returns-in_err-condition-clause-failed
unfolding grammar
arms-returns-in_err-condition-clause-failed t c =
    let p = err_from_is_err_and c.from_residual.result c.from_residual.ensures.1 in
    let i = c.loop-tokens.invariant in
    let taken = c.loop-tokens-test.ensures in
    let w = c.in_err-condition.ensures.failed in
    passed _ p.1 p.2 (record {
      fails = λ g b. i.goes_on.fails g (told_admits _ c.args.names g b) _ (took_fails taken refl (phrase_fails (w.fails g b)));
      stands = w.stands;
      deep = λ h g ok. i.goes_on.deep g ok _ _ (took_deepens taken refl (phrase_deepens (w.deep h g ok) (λ a q b _ d _. omega (arith, q))));
      long = λ h. let l = w.long h in omega (arith, l, i.moves.at, taken.at);
    })

pub arms-returns-in_err-body-clause-failed : goal.arms-returns-in_err-body-clause-failed
unfolding grammar
arms-returns-in_err-body-clause-failed t c =
    let p = err_from_is_err_and c.from_residual-in_err-body.result c.from_residual-in_err-body.ensures.1 in
    let i = c.loop-tokens.invariant in
    let taken = c.loop-tokens-test.ensures in
    let w = rw i.loops at c.in_err-body.ensures.failed in
    passed _ p.1 p.2 (record {
      fails = λ g b. i.goes_on.fails g (told_admits _ c.args.names g b) _ (took_fails taken refl (then_fails (c.in_ok-condition.ensures.read.reads g (told_admits _ c.args.names g b)) (phrase_fails (w.fails g b))));
      stands = w.stands;
      deep = λ h g ok. i.goes_on.deep g ok _ _ (took_deepens taken refl (then_deepens (c.in_ok-condition.ensures.read.reads g ok) (phrase_deepens (w.deep h g ok) (λ b q d _. omega (arith, q)))));
      long = λ h. let l = w.long h in omega (arith, l, i.moves.at, taken.at, c.in_ok-condition.ensures.read.tokens);
    })

pub arms-returns-in_err-push-clause-failed : goal.arms-returns-in_err-push-clause-failed
unfolding grammar
arms-returns-in_err-push-clause-failed t c =
    let p = err_from_is_err_and c.from_residual-in_err-push.result c.from_residual-in_err-push.ensures.1 in
    passed _ p.1 p.2 (no_memory refl)

pub arms-returns-then-not-take_keyword-clause-read : goal.arms-returns-then-not-take_keyword-clause-read
unfolding grammar
arms-returns-then-not-take_keyword-clause-read t c =
    let i = c.loop-tokens.invariant in
    let other = c.loop-tokens-test.ensures in
    record {
      reads = λ g a. rw (← arms_before_nothing c.loop-tokens.found.items) (i.goes_on.reads g a _ _ (stayed other (stayed c.if-not-take_keyword.ensures gives)));
      fits = i.fits;
      tokens = omega (arith, i.tokens, other.at, c.if-not-take_keyword.ensures.at);
    }

pub arms-returns-in_err-last-clause-failed : goal.arms-returns-in_err-last-clause-failed
unfolding grammar
arms-returns-in_err-last-clause-failed t c =
    let p = err_from_is_err_and c.from_residual-in_err-last.result c.from_residual-in_err-last.ensures.1 in
    let i = c.loop-tokens.invariant in
    let other = c.loop-tokens-test.ensures in
    let w = rw i.loops at c.in_err-last.ensures.failed in
    passed _ p.1 p.2 (record {
      fails = λ g b. i.goes_on.fails g (told_admits _ c.args.names g b) _ (stayed_fails other (took_fails c.if-not-take_keyword.ensures refl (phrase_fails (w.fails g b))));
      stands = w.stands;
      deep = λ h g ok. i.goes_on.deep g ok _ _ (stayed_deepens other (took_deepens c.if-not-take_keyword.ensures refl (phrase_deepens (w.deep h g ok) (λ b q. q))));
      long = λ h. let l = w.long h in omega (arith, l, i.moves.at, other.at, c.if-not-take_keyword.ensures.at);
    })

pub arms-returns-in_err-push-2-clause-failed : goal.arms-returns-in_err-push-2-clause-failed
unfolding grammar
arms-returns-in_err-push-2-clause-failed t c =
    let p = err_from_is_err_and c.from_residual-in_err-push-2.result c.from_residual-in_err-push-2.ensures.1 in
    passed _ p.1 p.2 (no_memory refl)

pub arms-returns-clause-read : goal.arms-returns-clause-read
unfolding grammar
arms-returns-clause-read t c =
    let i = c.loop-tokens.invariant in
    let other = c.loop-tokens-test.ensures in
    let s = rw i.loops at c.in_ok-last.ensures.read in
    let rows = row_block c.in_ok-last.last in
    let push = arms_height_push c.loop-tokens.found.items (Else c.in_ok-last.last) in
    rw c.in_ok-push-2.ensures.items (record {
      reads = λ g a. rw (arms_push, rows) (i.goes_on.reads g a _ _ (stayed other (took c.if-not-take_keyword.ensures refl (reads (s.reads g a) gives))));
      fits = omega (arith, push, ap block_height rows, i.fits, s.fits);
      tokens = omega (arith, push, ap block_height rows, i.tokens, s.tokens, other.at, c.if-not-take_keyword.ensures.at);
    })

pub for_loop-returns-in_err-room_below-clause-failed : goal.for_loop-returns-in_err-room_below-clause-failed
unfolding grammar
for_loop-returns-in_err-room_below-clause-failed t c =
    let p = err_from_is_err_and c.from_residual.result c.from_residual.ensures.1 in
    passed _ p.1 p.2 (too_high c.in_err-room_below.ensures.0 (λ g ok. at_once (can_take (Name []) refl (can_take (Keyword In) refl (can_take (Sign LeftBracket) refl can_read))) (λ us. no_statement_room c.in_err-room_below.ensures.1)) (omega (arith, c.in_err-room_below.ensures.1)))

pub for_loop-returns-in_err-name-clause-failed : goal.for_loop-returns-in_err-name-clause-failed
unfolding grammar
for_loop-returns-in_err-name-clause-failed t c =
    let p = err_from_is_err_and c.from_residual-in_err-name.result c.from_residual-in_err-name.ensures.1 in
    passed _ p.1 p.2 (no_memory c.in_err-name.ensures.0)

pub for_loop-returns-in_default-clause-failed : goal.for_loop-returns-in_default-clause-failed
unfolding grammar
for_loop-returns-in_default-clause-failed t c =
    let no_name = none_of (Stays (λ x. is_some (name_at x)) c.args.tokens.now c.take_name.new.self) (λ s. Takes (Name s) c.args.tokens.now c.take_name.new.self) _ c.in_default.not-Some c.in_ok-name.ensures in
    refused refl (λ g a. stayed_fails no_name refuses)

pub for_loop-returns-in_err-expect_keyword-clause-failed : goal.for_loop-returns-in_err-expect_keyword-clause-failed
unfolding grammar
for_loop-returns-in_err-expect_keyword-clause-failed t c =
    let p = err_from_is_err_and c.from_residual-in_err-expect_keyword.result c.from_residual-in_err-expect_keyword.ensures.1 in
    let k = rw c.in-Some.is at c.in_ok-name.ensures in
    passed _ p.1 p.2 (refused c.in_err-expect_keyword.ensures.0 (λ g a. took_fails k refl (stayed_fails c.in_err-expect_keyword.ensures.1 refuses)))

pub for_loop-returns-then-take-clause-read : goal.for_loop-returns-then-take-clause-read
unfolding grammar
for_loop-returns-then-take-clause-read t c =
    let k = rw c.in-Some.is at c.in_ok-name.ensures in
    if_ok (λ n. IsReadBy c.args.names Sort.stmt (λ g. after_range (reverse c.args.loops.now.items) c.in-Some.name) (c.in_ok-room_below.room_below + 1) 1 c.take.new.self c.for_range.new.tokens (tree_of n)) (λ n. IsReadBy c.args.names Sort.stmt (λ g. after_for (reverse c.args.loops.now.items)) c.args.room 1 c.args.tokens.now c.for_range.new.tokens (tree_of n)) c.for_range.result c.for_range.ensures.read
    (λ n v. record {
      reads = λ g a. took k refl (took c.in_ok-expect_keyword.ensures refl (took c.if-take.ensures refl (v.reads g a)));
      fits = omega (arith, v.fits, c.in_ok-room_below.ensures);
      tokens = omega (arith, v.tokens, k.at, c.in_ok-expect_keyword.ensures.at, c.if-take.ensures.at);
    })

pub for_loop-returns-then-take-clause-failed : goal.for_loop-returns-then-take-clause-failed
unfolding grammar
for_loop-returns-then-take-clause-failed t c =
    let k = rw c.in-Some.is at c.in_ok-name.ensures in
    if_err (λ f. HasFailedBy c.args.names true Sort.stmt (λ g. after_range (reverse c.args.loops.now.items) c.in-Some.name) (c.in_ok-room_below.room_below + 1) 1 c.take.new.self c.for_range.new.tokens f) (λ f. HasFailedBy c.args.names false Sort.stmt (λ g. after_for (reverse c.args.loops.now.items)) c.args.room 1 c.args.tokens.now c.for_range.new.tokens f) c.for_range.result c.for_range.ensures.failed
    (λ f w. record {
      fails = λ g b. took_fails k refl (took_fails c.in_ok-expect_keyword.ensures refl (took_fails c.if-take.ensures refl (w.fails g b)));
      stands = w.stands;
      deep = λ h g ok. at_any (took_deepens k refl (took_deepens c.in_ok-expect_keyword.ensures refl (took_deepens c.if-take.ensures refl ((rw c.in_ok-room_below.ensures at (w.deep h g ok))))));
      long = λ h. let l = w.long h in omega (arith, l, k.at, c.in_ok-expect_keyword.ensures.at, c.if-take.ensures.at, c.in_ok-room_below.ensures);
    })

pub for_loop-returns-in_err-list-clause-failed : goal.for_loop-returns-in_err-list-clause-failed
unfolding grammar
for_loop-returns-in_err-list-clause-failed t c =
    let p = err_from_is_err_and c.from_residual-in_err-list.result c.from_residual-in_err-list.ensures.1 in
    let k = rw c.in-Some.is at c.in_ok-name.ensures in
    let w = c.in_err-list.ensures.failed in
    passed _ p.1 p.2 (record {
      fails = λ g b. took_fails k refl (took_fails c.in_ok-expect_keyword.ensures refl (stayed_fails c.if-take.ensures (phrase_fails (w.fails g b))));
      stands = w.stands;
      deep = λ h g ok. at_any (took_deepens k refl (took_deepens c.in_ok-expect_keyword.ensures refl (stayed_deepens c.if-take.ensures (phrase_deepens (w.deep h g ok) (λ a q b _. ((λ x. omega (arith, q, c.in_ok-room_below.ensures)), tt))))));
      long = λ h. let l = w.long h in omega (arith, l, k.at, c.in_ok-expect_keyword.ensures.at, c.if-take.ensures.at, c.in_ok-room_below.ensures);
    })

pub for_loop-returns-in_err-try_clone-clause-failed : goal.for_loop-returns-in_err-try_clone-clause-failed
unfolding grammar
for_loop-returns-in_err-try_clone-clause-failed t c =
    let p = err_from_is_err_and c.from_residual-in_err-try_clone.result c.from_residual-in_err-try_clone.ensures.1 in
    passed _ p.1 p.2 (no_memory refl)

pub for_loop-returns-in_err-body-clause-failed : goal.for_loop-returns-in_err-body-clause-failed
unfolding grammar
for_loop-returns-in_err-body-clause-failed t c =
    let p = err_from_is_err_and c.from_residual-in_err-body.result c.from_residual-in_err-body.ensures.1 in
    let k = rw c.in-Some.is at c.in_ok-name.ensures in
    let w = (rw c.in_ok-try_clone.ensures at c.in_err-body.ensures.failed) in
    passed _ p.1 p.2 (record {
      fails = λ g b. took_fails k refl (took_fails c.in_ok-expect_keyword.ensures refl (stayed_fails c.if-take.ensures (then_fails (c.in_ok-list.ensures.read.reads g (told_admits _ c.args.names g b)) (phrase_fails (w.fails g b)))));
      stands = w.stands;
      deep = λ h g ok. at_any (took_deepens k refl (took_deepens c.in_ok-expect_keyword.ensures refl (stayed_deepens c.if-take.ensures (then_deepens (c.in_ok-list.ensures.read.reads g ok) (phrase_deepens (w.deep h g ok) (λ b q. ((λ x. omega (arith, q, c.in_ok-room_below.ensures)), tt)))))));
      long = λ h. let l = w.long h in omega (arith, l, k.at, c.in_ok-expect_keyword.ensures.at, c.if-take.ensures.at, c.in_ok-list.ensures.read.tokens, c.in_ok-room_below.ensures);
    })

pub for_loop-returns-in_err-expect_keyword-2-clause-failed : goal.for_loop-returns-in_err-expect_keyword-2-clause-failed
unfolding grammar
for_loop-returns-in_err-expect_keyword-2-clause-failed t c =
    let p = err_from_is_err_and c.from_residual-in_err-expect_keyword-2.result c.from_residual-in_err-expect_keyword-2.ensures.1 in
    let k = rw c.in-Some.is at c.in_ok-name.ensures in
    passed _ p.1 p.2 (refused c.in_err-expect_keyword-2.ensures.0 (λ g a. took_fails k refl (took_fails c.in_ok-expect_keyword.ensures refl (stayed_fails c.if-take.ensures (then_fails (c.in_ok-list.ensures.read.reads g a) (then_fails ((rw c.in_ok-try_clone.ensures at c.in_ok-body.ensures.read).reads g a) (stayed_fails c.in_err-expect_keyword-2.ensures.1 refuses)))))))

pub for_loop-returns-clause-read : goal.for_loop-returns-clause-read
unfolding grammar
for_loop-returns-clause-read t c =
    let k = rw c.in-Some.is at c.in_ok-name.ensures in
    rw (row_block c.in_ok-body.body, c.new-variable.ensures) (record {
      reads = λ g a. took k refl (took c.in_ok-expect_keyword.ensures refl (stayed c.if-take.ensures (reads (c.in_ok-list.ensures.read.reads g a) (reads ((rw c.in_ok-try_clone.ensures at c.in_ok-body.ensures.read).reads g a) (took c.in_ok-expect_keyword-2.ensures refl gives)))));
      fits = omega (arith, c.in_ok-room_below.ensures, c.in_ok-list.ensures.read.fits, c.in_ok-body.ensures.read.fits);
      tokens = omega (arith, k.at, c.in_ok-expect_keyword.ensures.at, c.if-take.ensures.at, c.in_ok-list.ensures.read.tokens, c.in_ok-body.ensures.read.tokens, c.in_ok-expect_keyword-2.ensures.at, c.in_ok-room_below.ensures);
    })

pub for_range-returns-in_err-low-clause-failed : goal.for_range-returns-in_err-low-clause-failed
unfolding grammar
for_range-returns-in_err-low-clause-failed t c =
    let p = err_from_is_err_and c.from_residual.result c.from_residual.ensures.1 in
    let w = c.in_err-low.ensures.failed in
    passed _ p.1 p.2 (record {
      fails = λ g b. phrase_fails (w.fails g b);
      stands = w.stands;
      deep = λ h g ok. phrase_deepens (w.deep h g ok) (λ a q. ((λ x b _. ((λ y d _. ((λ z. omega (arith, q)), tt)), tt)), tt));
      long = λ h. let l = w.long h in omega (arith, l);
    })

pub for_range-returns-in_err-expect-clause-failed : goal.for_range-returns-in_err-expect-clause-failed
unfolding grammar
for_range-returns-in_err-expect-clause-failed t c =
    let p = err_from_is_err_and c.from_residual-in_err-expect.result c.from_residual-in_err-expect.ensures.1 in
    passed _ p.1 p.2 (refused c.in_err-expect.ensures.0 (λ g a. then_fails (c.in_ok-low.ensures.read.reads g a) (stayed_fails c.in_err-expect.ensures.1 refuses)))

pub for_range-returns-in_err-high-clause-failed : goal.for_range-returns-in_err-high-clause-failed
unfolding grammar
for_range-returns-in_err-high-clause-failed t c =
    let p = err_from_is_err_and c.from_residual-in_err-high.result c.from_residual-in_err-high.ensures.1 in
    let w = c.in_err-high.ensures.failed in
    passed _ p.1 p.2 (record {
      fails = λ g b. then_fails (c.in_ok-low.ensures.read.reads g (told_admits _ c.args.names g b)) (took_fails c.in_ok-expect.ensures refl (phrase_fails (w.fails g b)));
      stands = w.stands;
      deep = λ h g ok. then_deepens (c.in_ok-low.ensures.read.reads g ok) (took_deepens c.in_ok-expect.ensures refl (phrase_deepens (w.deep h g ok) (λ b q. ((λ y d _. ((λ z. omega (arith, q)), tt)), tt))));
      long = λ h. let l = w.long h in omega (arith, l, c.in_ok-low.ensures.read.tokens, c.in_ok-expect.ensures.at);
    })

pub for_range-returns-in_err-expect-2-clause-failed : goal.for_range-returns-in_err-expect-2-clause-failed
unfolding grammar
for_range-returns-in_err-expect-2-clause-failed t c =
    let p = err_from_is_err_and c.from_residual-in_err-expect-2.result c.from_residual-in_err-expect-2.ensures.1 in
    passed _ p.1 p.2 (refused c.in_err-expect-2.ensures.0 (λ g a. then_fails (c.in_ok-low.ensures.read.reads g a) (took_fails c.in_ok-expect.ensures refl (then_fails (c.in_ok-high.ensures.read.reads g a) (stayed_fails c.in_err-expect-2.ensures.1 refuses)))))

pub for_range-returns-in_err-try_clone-clause-failed : goal.for_range-returns-in_err-try_clone-clause-failed
unfolding grammar
for_range-returns-in_err-try_clone-clause-failed t c =
    let p = err_from_is_err_and c.from_residual-in_err-try_clone.result c.from_residual-in_err-try_clone.ensures.1 in
    passed _ p.1 p.2 (no_memory refl)

pub for_range-returns-in_err-body-clause-failed : goal.for_range-returns-in_err-body-clause-failed
unfolding grammar
for_range-returns-in_err-body-clause-failed t c =
    let p = err_from_is_err_and c.from_residual-in_err-body.result c.from_residual-in_err-body.ensures.1 in
    let w = (rw c.in_ok-try_clone.ensures at c.in_err-body.ensures.failed) in
    passed _ p.1 p.2 (record {
      fails = λ g b. then_fails (c.in_ok-low.ensures.read.reads g (told_admits _ c.args.names g b)) (took_fails c.in_ok-expect.ensures refl (then_fails (c.in_ok-high.ensures.read.reads g (told_admits _ c.args.names g b)) (took_fails c.in_ok-expect-2.ensures refl (phrase_fails (w.fails g b)))));
      stands = w.stands;
      deep = λ h g ok. then_deepens (c.in_ok-low.ensures.read.reads g ok) (took_deepens c.in_ok-expect.ensures refl (then_deepens (c.in_ok-high.ensures.read.reads g ok) (took_deepens c.in_ok-expect-2.ensures refl (phrase_deepens (w.deep h g ok) (λ b q. ((λ x. omega (arith, q)), tt))))));
      long = λ h. let l = w.long h in omega (arith, l, c.in_ok-low.ensures.read.tokens, c.in_ok-expect.ensures.at, c.in_ok-high.ensures.read.tokens, c.in_ok-expect-2.ensures.at);
    })

pub for_range-returns-in_err-expect_keyword-clause-failed : goal.for_range-returns-in_err-expect_keyword-clause-failed
unfolding grammar
for_range-returns-in_err-expect_keyword-clause-failed t c =
    let p = err_from_is_err_and c.from_residual-in_err-expect_keyword.result c.from_residual-in_err-expect_keyword.ensures.1 in
    passed _ p.1 p.2 (refused c.in_err-expect_keyword.ensures.0 (λ g a. then_fails (c.in_ok-low.ensures.read.reads g a) (took_fails c.in_ok-expect.ensures refl (then_fails (c.in_ok-high.ensures.read.reads g a) (took_fails c.in_ok-expect-2.ensures refl (then_fails ((rw c.in_ok-try_clone.ensures at c.in_ok-body.ensures.read).reads g a) (stayed_fails c.in_err-expect_keyword.ensures.1 refuses)))))))

pub for_range-returns-clause-read : goal.for_range-returns-clause-read
unfolding grammar
for_range-returns-clause-read t c =
    rw (row_block c.in_ok-body.body, c.new-variable.ensures) (record {
      reads = λ g a. reads (c.in_ok-low.ensures.read.reads g a) (took c.in_ok-expect.ensures refl (reads (c.in_ok-high.ensures.read.reads g a) (took c.in_ok-expect-2.ensures refl (reads ((rw c.in_ok-try_clone.ensures at c.in_ok-body.ensures.read).reads g a) (took c.in_ok-expect_keyword.ensures refl gives)))));
      fits = omega (arith, c.in_ok-low.ensures.read.fits, c.in_ok-high.ensures.read.fits, c.in_ok-body.ensures.read.fits);
      tokens = omega (arith, c.in_ok-low.ensures.read.tokens, c.in_ok-expect.ensures.at, c.in_ok-high.ensures.read.tokens, c.in_ok-expect-2.ensures.at, c.in_ok-body.ensures.read.tokens, c.in_ok-expect_keyword.ensures.at);
    })

pub while_loop-returns-in_err-room_below-clause-failed : goal.while_loop-returns-in_err-room_below-clause-failed
unfolding grammar
while_loop-returns-in_err-room_below-clause-failed t c =
    let p = err_from_is_err_and c.from_residual.result c.from_residual.ensures.1 in
    passed _ p.1 p.2 (too_high c.in_err-room_below.ensures.0 (λ g ok. at_once can_read (λ us. no_statement_room c.in_err-room_below.ensures.1)) (omega (arith, c.in_err-room_below.ensures.1)))

pub while_loop-returns-in_err-name-clause-failed : goal.while_loop-returns-in_err-name-clause-failed
unfolding grammar
while_loop-returns-in_err-name-clause-failed t c =
    let p = err_from_is_err_and c.from_residual-in_err-name.result c.from_residual-in_err-name.ensures.1 in
    passed _ p.1 p.2 (no_memory c.in_err-name.ensures.0)

pub while_loop-returns-in_err-condition-clause-failed : goal.while_loop-returns-in_err-condition-clause-failed
unfolding grammar
while_loop-returns-in_err-condition-clause-failed t c =
    let p = err_from_is_err_and c.from_residual-in_err-condition.result c.from_residual-in_err-condition.ensures.1 in
    let w = c.in_err-condition.ensures.failed in
    passed _ p.1 p.2 (record {
      fails = λ g b. then_fails (label_reads c.args.tokens.now c.take_name.new.self c.in_ok-name.name c.in_ok-name.ensures g) (phrase_fails (w.fails g b));
      stands = w.stands;
      deep = λ h g ok. at_any (then_deepens (label_reads c.args.tokens.now c.take_name.new.self c.in_ok-name.name c.in_ok-name.ensures g) (phrase_deepens (w.deep h g ok) (λ a q b _. ((λ x. omega (arith, q, c.in_ok-room_below.ensures)), tt))));
      long = λ h. let l = w.long h in omega (arith, l, label_at c.args.tokens.now c.take_name.new.self c.in_ok-name.name c.in_ok-name.ensures, c.in_ok-room_below.ensures);
    })

pub while_loop-returns-in_err-own-clause-failed : goal.while_loop-returns-in_err-own-clause-failed
unfolding grammar
while_loop-returns-in_err-own-clause-failed t c =
    let p = err_from_is_err_and c.from_residual-in_err-own.result c.from_residual-in_err-own.ensures.1 in
    passed _ p.1 p.2 (no_memory c.in_err-own.ensures)

pub while_loop-returns-in_err-body-clause-failed : goal.while_loop-returns-in_err-body-clause-failed
unfolding grammar
while_loop-returns-in_err-body-clause-failed t c =
    let p = err_from_is_err_and c.from_residual-in_err-body.result c.from_residual-in_err-body.ensures.1 in
    let w = (rw c.in_ok-own.ensures at c.in_err-body.ensures.failed) in
    passed _ p.1 p.2 (record {
      fails = λ g b. then_fails (label_reads c.args.tokens.now c.take_name.new.self c.in_ok-name.name c.in_ok-name.ensures g) (then_fails (c.in_ok-condition.ensures.read.reads g (told_admits _ c.args.names g b)) (phrase_fails (w.fails g b)));
      stands = w.stands;
      deep = λ h g ok. at_any (then_deepens (label_reads c.args.tokens.now c.take_name.new.self c.in_ok-name.name c.in_ok-name.ensures g) (then_deepens (c.in_ok-condition.ensures.read.reads g ok) (phrase_deepens (w.deep h g ok) (λ b q. ((λ x. omega (arith, q, c.in_ok-room_below.ensures)), tt)))));
      long = λ h. let l = w.long h in omega (arith, l, label_at c.args.tokens.now c.take_name.new.self c.in_ok-name.name c.in_ok-name.ensures, c.in_ok-condition.ensures.read.tokens, c.in_ok-room_below.ensures);
    })

pub while_loop-returns-in_err-expect_keyword-clause-failed : goal.while_loop-returns-in_err-expect_keyword-clause-failed
unfolding grammar
while_loop-returns-in_err-expect_keyword-clause-failed t c =
    let p = err_from_is_err_and c.from_residual-in_err-expect_keyword.result c.from_residual-in_err-expect_keyword.ensures.1 in
    passed _ p.1 p.2 (refused c.in_err-expect_keyword.ensures.0 (λ g a. then_fails (label_reads c.args.tokens.now c.take_name.new.self c.in_ok-name.name c.in_ok-name.ensures g) (then_fails (c.in_ok-condition.ensures.read.reads g a) (then_fails ((rw c.in_ok-own.ensures at c.in_ok-body.ensures.read).reads g a) (stayed_fails c.in_err-expect_keyword.ensures.1 refuses)))))

pub while_loop-returns-clause-read : goal.while_loop-returns-clause-read
unfolding grammar
while_loop-returns-clause-read t c =
    rw (row_block c.in_ok-body.body) (record {
      reads = λ g a. reads (label_reads c.args.tokens.now c.take_name.new.self c.in_ok-name.name c.in_ok-name.ensures g) (reads (c.in_ok-condition.ensures.read.reads g a) (reads ((rw c.in_ok-own.ensures at c.in_ok-body.ensures.read).reads g a) (took c.in_ok-expect_keyword.ensures refl gives)));
      fits = omega (arith, c.in_ok-room_below.ensures, c.in_ok-condition.ensures.read.fits, c.in_ok-body.ensures.read.fits);
      tokens = omega (arith, label_at c.args.tokens.now c.take_name.new.self c.in_ok-name.name c.in_ok-name.ensures, c.in_ok-condition.ensures.read.tokens, c.in_ok-body.ensures.read.tokens, c.in_ok-expect_keyword.ensures.at, c.in_ok-room_below.ensures);
    })

pub within-returns-in_err-push-clause-failed : goal.within-returns-in_err-push-clause-failed
unfolding grammar
within-returns-in_err-push-clause-failed t c =
    let p = err_from_is_err_and c.from_residual.result c.from_residual.ensures.1 in
    passed _ p.1 p.2 (no_memory refl)

pub within-returns-in_err-body-clause-failed : goal.within-returns-in_err-body-clause-failed
unfolding grammar
within-returns-in_err-body-clause-failed t c =
    let p = err_from_is_err_and c.from_residual-in_err-body.result c.from_residual-in_err-body.ensures.1 in
    passed _ p.1 p.2 (rw (c.in_ok-push.ensures.items, reverse-append) at c.in_err-body.ensures.failed)

pub within-returns-clause-read : goal.within-returns-clause-read
unfolding grammar
within-returns-clause-read t c =
    rw (c.in_ok-push.ensures.items, reverse-append) at c.in_ok-body.ensures.read

pub attempt-returns-in_err-room_below-clause-failed : goal.attempt-returns-in_err-room_below-clause-failed
unfolding grammar
attempt-returns-in_err-room_below-clause-failed t c =
    let p = err_from_is_err_and c.from_residual.result c.from_residual.ensures.1 in
    passed _ p.1 p.2 (too_high c.in_err-room_below.ensures.0 (λ g ok. at_once can_read (λ us. no_statement_room c.in_err-room_below.ensures.1)) (omega (arith, c.in_err-room_below.ensures.1)))

pub attempt-returns-in_err-body-clause-failed : goal.attempt-returns-in_err-body-clause-failed
unfolding grammar
attempt-returns-in_err-body-clause-failed t c =
    let p = err_from_is_err_and c.from_residual-in_err-body.result c.from_residual-in_err-body.ensures.1 in
    let w = c.in_err-body.ensures.failed in
    passed _ p.1 p.2 (record {
      fails = λ g b. phrase_fails (w.fails g b);
      stands = w.stands;
      deep = λ h g ok. at_any (phrase_deepens (w.deep h g ok) (λ b q. ((λ x d _. ((λ y. omega (arith, q, c.in_ok-room_below.ensures)), tt)), λ h _. ((λ y. omega (arith, q, c.in_ok-room_below.ensures)), tt))));
      long = λ h. let l = w.long h in omega (arith, l, c.in_ok-room_below.ensures);
    })

pub attempt-returns-in_err-cleanup-clause-failed : goal.attempt-returns-in_err-cleanup-clause-failed
unfolding grammar
attempt-returns-in_err-cleanup-clause-failed t c =
    let p = err_from_is_err_and c.from_residual-in_err-cleanup.result c.from_residual-in_err-cleanup.ensures.1 in
    let w = (rw c.in_ok-body.ensures.loops at c.in_err-cleanup.ensures.failed) in
    passed _ p.1 p.2 (record {
      fails = λ g b. then_fails (c.in_ok-body.ensures.read.reads g (told_admits _ c.args.names g b)) (took_fails c.if-take_keyword.ensures refl (phrase_fails (w.fails g b)));
      stands = w.stands;
      deep = λ h g ok. at_any (then_deepens (c.in_ok-body.ensures.read.reads g ok) (took_deepens c.if-take_keyword.ensures refl (phrase_deepens (w.deep h g ok) (λ d q. ((λ y. omega (arith, q, c.in_ok-room_below.ensures)), tt)))));
      long = λ h. let l = w.long h in omega (arith, l, c.in_ok-body.ensures.read.tokens, c.if-take_keyword.ensures.at, c.in_ok-room_below.ensures);
    })

pub attempt-returns-in_err-expect_keyword-clause-failed : goal.attempt-returns-in_err-expect_keyword-clause-failed
unfolding grammar
attempt-returns-in_err-expect_keyword-clause-failed t c =
    let p = err_from_is_err_and c.from_residual-in_err-expect_keyword.result c.from_residual-in_err-expect_keyword.ensures.1 in
    passed _ p.1 p.2 (refused c.in_err-expect_keyword.ensures.0 (λ g a. then_fails (c.in_ok-body.ensures.read.reads g a) (took_fails c.if-take_keyword.ensures refl (then_fails ((rw c.in_ok-body.ensures.loops at c.in_ok-cleanup.ensures.read).reads g a) (stayed_fails c.in_err-expect_keyword.ensures.1 refuses)))))

pub attempt-returns-then-take_keyword-clause-read : goal.attempt-returns-then-take_keyword-clause-read
unfolding grammar
attempt-returns-then-take_keyword-clause-read t c =
    rw (row_block c.in_ok-body.body, row_block c.in_ok-cleanup.cleanup) (record {
      reads = λ g a. reads (c.in_ok-body.ensures.read.reads g a) (took c.if-take_keyword.ensures refl (reads ((rw c.in_ok-body.ensures.loops at c.in_ok-cleanup.ensures.read).reads g a) (took c.in_ok-expect_keyword.ensures refl gives)));
      fits = omega (arith, c.in_ok-room_below.ensures, c.in_ok-body.ensures.read.fits, c.in_ok-cleanup.ensures.read.fits);
      tokens = omega (arith, c.in_ok-body.ensures.read.tokens, c.if-take_keyword.ensures.at, c.in_ok-cleanup.ensures.read.tokens, c.in_ok-expect_keyword.ensures.at, c.in_ok-room_below.ensures);
    })

pub attempt-returns-in_err-handlers-clause-failed : goal.attempt-returns-in_err-handlers-clause-failed
unfolding grammar
attempt-returns-in_err-handlers-clause-failed t c =
    let p = err_from_is_err_and c.from_residual-in_err-handlers.result c.from_residual-in_err-handlers.ensures.1 in
    let w = (rw c.in_ok-body.ensures.loops at c.in_err-handlers.ensures.failed) in
    passed _ p.1 p.2 (record {
      fails = λ g b. then_fails (c.in_ok-body.ensures.read.reads g (told_admits _ c.args.names g b)) (stayed_fails c.if-take_keyword.ensures (phrase_fails (w.fails g b)));
      stands = w.stands;
      deep = λ h g ok. at_any (then_deepens (c.in_ok-body.ensures.read.reads g ok) (stayed_deepens c.if-take_keyword.ensures (phrase_deepens (w.deep h g ok) (λ h q. ((λ y. omega (arith, q, c.in_ok-room_below.ensures)), tt)))));
      long = λ h. let l = w.long h in omega (arith, l, c.in_ok-body.ensures.read.tokens, c.if-take_keyword.ensures.at, c.in_ok-room_below.ensures);
    })

pub attempt-returns-in_err-expect_keyword-2-clause-failed : goal.attempt-returns-in_err-expect_keyword-2-clause-failed
unfolding grammar
attempt-returns-in_err-expect_keyword-2-clause-failed t c =
    let p = err_from_is_err_and c.from_residual-in_err-expect_keyword-2.result c.from_residual-in_err-expect_keyword-2.ensures.1 in
    passed _ p.1 p.2 (refused c.in_err-expect_keyword-2.ensures.0 (λ g a. then_fails (c.in_ok-body.ensures.read.reads g a) (stayed_fails c.if-take_keyword.ensures (then_fails ((rw c.in_ok-body.ensures.loops at c.in_ok-handlers.ensures.read).reads g a) (stayed_fails c.in_err-expect_keyword-2.ensures.1 refuses)))))

pub attempt-returns-clause-read : goal.attempt-returns-clause-read
unfolding grammar
attempt-returns-clause-read t c =
    rw (row_block c.in_ok-body.body, row_handlers c.in_ok-handlers.handlers) (record {
      reads = λ g a. reads (c.in_ok-body.ensures.read.reads g a) (stayed c.if-take_keyword.ensures (reads ((rw c.in_ok-body.ensures.loops at c.in_ok-handlers.ensures.read).reads g a) (took c.in_ok-expect_keyword-2.ensures refl gives)));
      fits = omega (arith, c.in_ok-room_below.ensures, c.in_ok-body.ensures.read.fits, c.in_ok-handlers.ensures.read.fits);
      tokens = omega (arith, c.in_ok-body.ensures.read.tokens, c.if-take_keyword.ensures.at, c.in_ok-handlers.ensures.read.tokens, c.in_ok-expect_keyword-2.ensures.at, c.in_ok-room_below.ensures);
    })

pub handlers-loop-found-init : goal.handlers-loop-found-init
handlers-loop-found-init t c = record {
  moves = search rules;
  loops = refl;
  goes_on = rw c.new-found.ensures.items (record { reads = λ g a e r d. d; fails = λ g a r d. d; deep = λ g ok n r d. d });
  fits = rw c.new-found.ensures.items (omega arith);
  tokens = rw c.new-found.ensures.items (omega arith);
}

pub handlers-returns-in_err-next-clause-failed : goal.handlers-returns-in_err-next-clause-failed
handlers-returns-in_err-next-clause-failed t c =
    let p = err_from_is_err_and c.from_residual.result c.from_residual.ensures.1 in
    let i = c.loop-found.invariant in
    let w = rw i.loops at c.in_err-next.ensures.failed in
    passed _ p.1 p.2 (record {
      fails = λ g b. i.goes_on.fails g (told_admits _ c.args.names g b) _ (w.fails g b);
      stands = w.stands;
      deep = λ h g ok. i.goes_on.deep g ok _ _ (w.deep h g ok);
      long = λ h. let l = w.long h in omega (arith, l, i.moves.at);
    })

pub handlers-returns-in_err-push-clause-failed : goal.handlers-returns-in_err-push-clause-failed
handlers-returns-in_err-push-clause-failed t c =
    let p = err_from_is_err_and c.from_residual-in_err-push.result c.from_residual-in_err-push.ensures.1 in
    passed _ p.1 p.2 (no_memory refl)

pub handlers-loop-found-preserved : goal.handlers-loop-found-preserved
unfolding grammar
handlers-loop-found-preserved t c =
    let i = c.loop-found.invariant in
    let h = rw i.loops at c.in_ok-next.ensures.read in
    let at = sym c.is_at_keyword.ensures ∙ c.if-not-is_at_keyword.false in
    let push = handlers_height_push c.loop-found.found.items c.in_ok-next.next in
    record {
      moves = search rules;
      loops = c.in_ok-next.ensures.loops ∙ i.loops;
      goes_on = rw c.in_ok-push.ensures.items (record {
        reads = λ g a b r d. rw handlers_before_push (i.goes_on.reads g a _ _ (h.leads.reads g a _ _ (sees at (reads d gives))));
        fails = λ g a r d. i.goes_on.fails g a _ (h.leads.fails g a _ (sees_fails at (phrase_fails d)));
        deep = λ g ok n r d. i.goes_on.deep g ok n r (h.leads.deep g ok n r (sees_deepens at (phrase_deepens d (λ b q. omega (arith, q, with_handler_height c.in_ok-next.next b)))));
      });
      fits = rw c.in_ok-push.ensures.items (omega (arith, push, i.fits, h.fits));
      tokens = rw c.in_ok-push.ensures.items (omega (arith, push, i.tokens, h.tokens));
    }

pub handlers-returns-then-not-is_at_keyword-clause-read : goal.handlers-returns-then-not-is_at_keyword-clause-read
unfolding grammar
handlers-returns-then-not-is_at_keyword-clause-read t c =
    let i = c.loop-found.invariant in
    let h = rw i.loops at c.in_ok-next.ensures.read in
    let not_at = sym c.is_at_keyword.ensures ∙ c.if-not-is_at_keyword.true in
    let push = handlers_height_push c.loop-found.found.items c.in_ok-next.next in
    rw c.in_ok-push.ensures.items (record {
      reads = λ g a. rw handlers_push (i.goes_on.reads g a _ _ (h.leads.reads g a _ _ (misses not_at gives)));
      fits = omega (arith, push, i.fits, h.fits);
      tokens = omega (arith, push, i.tokens, h.tokens);
    })

pub handler-returns-in_err-expect_keyword-clause-failed : goal.handler-returns-in_err-expect_keyword-clause-failed
unfolding grammar
handler-returns-in_err-expect_keyword-clause-failed t c =
    let p = err_from_is_err_and c.from_residual.result c.from_residual.ensures.1 in
    passed _ p.1 p.2 (refused c.in_err-expect_keyword.ensures.0 (λ g a. stayed_fails c.in_err-expect_keyword.ensures.1 refuses))

pub handler-returns-in_err-name-clause-failed : goal.handler-returns-in_err-name-clause-failed
unfolding grammar
handler-returns-in_err-name-clause-failed t c =
    let p = err_from_is_err_and c.from_residual-in_err-name.result c.from_residual-in_err-name.ensures.1 in
    passed _ p.1 p.2 (no_memory c.in_err-name.ensures.0)

pub handler-returns-in_err-expect-clause-failed : goal.handler-returns-in_err-expect-clause-failed
unfolding grammar
handler-returns-in_err-expect-clause-failed t c =
    let p = err_from_is_err_and c.from_residual-in_err-expect.result c.from_residual-in_err-expect.ensures.1 in
    passed _ p.1 p.2 (refused c.in_err-expect.ensures.0 (λ g a. took_fails c.in_ok-expect_keyword.ensures refl (then_fails (label_reads c.expect_keyword.new.self c.take_name.new.self c.in_ok-name.name c.in_ok-name.ensures g) (stayed_fails c.in_err-expect.ensures.1 refuses))))

pub handler-returns-in_err-caught-clause-failed : goal.handler-returns-in_err-caught-clause-failed
unfolding grammar
handler-returns-in_err-caught-clause-failed t c =
    let p = err_from_is_err_and c.from_residual-in_err-caught.result c.from_residual-in_err-caught.ensures.1 in
    let w = c.in_err-caught.ensures.failed in
    passed _ p.1 p.2 (record {
      fails = λ g b. took_fails c.in_ok-expect_keyword.ensures refl (then_fails (label_reads c.expect_keyword.new.self c.take_name.new.self c.in_ok-name.name c.in_ok-name.ensures g) (took_fails c.in_ok-expect.ensures refl (phrase_fails (w.fails g b))));
      stands = w.stands;
      deep = λ h g ok. took_deepens c.in_ok-expect_keyword.ensures refl (then_deepens (label_reads c.expect_keyword.new.self c.take_name.new.self c.in_ok-name.name c.in_ok-name.ensures g) (took_deepens c.in_ok-expect.ensures refl (phrase_deepens (w.deep h g ok) (λ e q. ((λ x b _. ((λ h _. omega (arith, q)), omega (arith, q))), tt)))));
      long = λ h. let l = w.long h in omega (arith, l, c.in_ok-expect_keyword.ensures.at, label_at c.expect_keyword.new.self c.take_name.new.self c.in_ok-name.name c.in_ok-name.ensures, c.in_ok-expect.ensures.at);
    })

pub handler-returns-in_err-expect-2-clause-failed : goal.handler-returns-in_err-expect-2-clause-failed
unfolding grammar
handler-returns-in_err-expect-2-clause-failed t c =
    let p = err_from_is_err_and c.from_residual-in_err-expect-2.result c.from_residual-in_err-expect-2.ensures.1 in
    passed _ p.1 p.2 (refused c.in_err-expect-2.ensures.0 (λ g a. took_fails c.in_ok-expect_keyword.ensures refl (then_fails (label_reads c.expect_keyword.new.self c.take_name.new.self c.in_ok-name.name c.in_ok-name.ensures g) (took_fails c.in_ok-expect.ensures refl (then_fails (c.in_ok-caught.ensures.read.reads g a) (stayed_fails c.in_err-expect-2.ensures.1 refuses))))))

pub handler-returns-in_err-body-clause-failed : goal.handler-returns-in_err-body-clause-failed
unfolding grammar
handler-returns-in_err-body-clause-failed t c =
    let p = err_from_is_err_and c.from_residual-in_err-body.result c.from_residual-in_err-body.ensures.1 in
    let w = c.in_err-body.ensures.failed in
    passed _ p.1 p.2 (record {
      fails = λ g b. took_fails c.in_ok-expect_keyword.ensures refl (then_fails (label_reads c.expect_keyword.new.self c.take_name.new.self c.in_ok-name.name c.in_ok-name.ensures g) (took_fails c.in_ok-expect.ensures refl (then_fails (c.in_ok-caught.ensures.read.reads g (told_admits _ c.args.names g b)) (took_fails c.in_ok-expect-2.ensures refl (phrase_fails (w.fails g b))))));
      stands = w.stands;
      deep = λ h g ok. took_deepens c.in_ok-expect_keyword.ensures refl (then_deepens (label_reads c.expect_keyword.new.self c.take_name.new.self c.in_ok-name.name c.in_ok-name.ensures g) (took_deepens c.in_ok-expect.ensures refl (then_deepens (c.in_ok-caught.ensures.read.reads g ok) (took_deepens c.in_ok-expect-2.ensures refl (phrase_deepens (w.deep h g ok) (λ b q. ((λ h _. omega (arith, q)), omega (arith, q))))))));
      long = λ h. let l = w.long h in omega (arith, l, c.in_ok-expect_keyword.ensures.at, label_at c.expect_keyword.new.self c.take_name.new.self c.in_ok-name.name c.in_ok-name.ensures, c.in_ok-expect.ensures.at, c.in_ok-caught.ensures.read.tokens, c.in_ok-expect-2.ensures.at);
    })

pub handler-returns-in-Some-clause-read : goal.handler-returns-in-Some-clause-read
unfolding grammar
handler-returns-in-Some-clause-read t c =
    let rows = row_block c.in_ok-body.body in
    rw c.new-variable.ensures (record {
      leads = record {
        reads = λ g a e u d. took c.in_ok-expect_keyword.ensures refl (reads (label_reads c.expect_keyword.new.self c.take_name.new.self (Some c.in-Some.name) (rw c.in-Some.is at c.in_ok-name.ensures) g) (took c.in_ok-expect.ensures refl (reads (c.in_ok-caught.ensures.read.reads g a) (took c.in_ok-expect-2.ensures refl (reads (c.in_ok-body.ensures.read.reads g a) (rw rows at d))))));
        fails = λ g a u d. took_fails c.in_ok-expect_keyword.ensures refl (then_fails (label_reads c.expect_keyword.new.self c.take_name.new.self (Some c.in-Some.name) (rw c.in-Some.is at c.in_ok-name.ensures) g) (took_fails c.in_ok-expect.ensures refl (then_fails (c.in_ok-caught.ensures.read.reads g a) (took_fails c.in_ok-expect-2.ensures refl (then_fails (c.in_ok-body.ensures.read.reads g a) (rw rows at d))))));
        deep = λ g ok n r d. took_deepens c.in_ok-expect_keyword.ensures refl (then_deepens (label_reads c.expect_keyword.new.self c.take_name.new.self (Some c.in-Some.name) (rw c.in-Some.is at c.in_ok-name.ensures) g) (took_deepens c.in_ok-expect.ensures refl (then_deepens (c.in_ok-caught.ensures.read.reads g ok) (took_deepens c.in_ok-expect-2.ensures refl (then_deepens (c.in_ok-body.ensures.read.reads g ok) (rw rows at d))))));
      };
      fits = omega (arith, c.in_ok-body.ensures.read.fits, c.in_ok-caught.ensures.read.fits, ap block_height rows);
      tokens = omega (arith, c.in_ok-expect_keyword.ensures.at, label_at c.expect_keyword.new.self c.take_name.new.self (Some c.in-Some.name) (rw c.in-Some.is at c.in_ok-name.ensures), c.in_ok-expect.ensures.at, c.in_ok-caught.ensures.read.tokens, c.in_ok-expect-2.ensures.at, c.in_ok-body.ensures.read.tokens, ap block_height rows);
    })

pub handler-returns-in-None-clause-read : goal.handler-returns-in-None-clause-read
unfolding grammar
handler-returns-in-None-clause-read t c =
    let rows = row_block c.in_ok-body.body in
    record {
      leads = record {
        reads = λ g a e u d. took c.in_ok-expect_keyword.ensures refl (reads (label_reads c.expect_keyword.new.self c.take_name.new.self None (rw c.in-None.is at c.in_ok-name.ensures) g) (took c.in_ok-expect.ensures refl (reads (c.in_ok-caught.ensures.read.reads g a) (took c.in_ok-expect-2.ensures refl (reads (c.in_ok-body.ensures.read.reads g a) (rw rows at d))))));
        fails = λ g a u d. took_fails c.in_ok-expect_keyword.ensures refl (then_fails (label_reads c.expect_keyword.new.self c.take_name.new.self None (rw c.in-None.is at c.in_ok-name.ensures) g) (took_fails c.in_ok-expect.ensures refl (then_fails (c.in_ok-caught.ensures.read.reads g a) (took_fails c.in_ok-expect-2.ensures refl (then_fails (c.in_ok-body.ensures.read.reads g a) (rw rows at d))))));
        deep = λ g ok n r d. took_deepens c.in_ok-expect_keyword.ensures refl (then_deepens (label_reads c.expect_keyword.new.self c.take_name.new.self None (rw c.in-None.is at c.in_ok-name.ensures) g) (took_deepens c.in_ok-expect.ensures refl (then_deepens (c.in_ok-caught.ensures.read.reads g ok) (took_deepens c.in_ok-expect-2.ensures refl (then_deepens (c.in_ok-body.ensures.read.reads g ok) (rw rows at d))))));
      };
      fits = omega (arith, c.in_ok-body.ensures.read.fits, c.in_ok-caught.ensures.read.fits, ap block_height rows);
      tokens = omega (arith, c.in_ok-expect_keyword.ensures.at, label_at c.expect_keyword.new.self c.take_name.new.self None (rw c.in-None.is at c.in_ok-name.ensures), c.in_ok-expect.ensures.at, c.in_ok-caught.ensures.read.tokens, c.in_ok-expect-2.ensures.at, c.in_ok-body.ensures.read.tokens, ap block_height rows);
    }
