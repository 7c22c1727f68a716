-- Each return of the parser gives what its outcome says.
use Rattle.std.proofs.Common.{rules, ◌+◌, [], refl, sym, ◌∙◌, ap, subst, is_some, arith, ◌≡◌, true, false}
use Rattle.std.proofs.lemmas.Result.{err_from_is_err_and}
use Rattle.moo_syntax_token.specs.declared.sign.Sign.TheVariants.{LeftParen, RightParen, Minus, Assign}
use Rattle.moo_syntax_token.specs.declared.token.Token.TheVariants.{Name, Sign}
use Rattle.moo_syntax_ast.specs.declared.operator.UnaryOperator.TheVariants.{Not}
use Rattle.moo_syntax_ast.specs.declared.operator.BinaryOperator.TheVariants.{Power}
use Rattle.moo_syntax_ast.specs.declared.tree.Literal.TheVariants as literal
use Rattle.moo_syntax_ast.specs.Tree as tree
use Rattle.moo_syntax_ast.specs.Tree.{property, assign, call, element}
use Rattle.moo_syntax_ast.specs.Target.{is_target}
use Rattle.moo_syntax_ast.specs.Limits.{height, items_height, codes_height}
use Rattle.moo_syntax_ast.specs.View.{root, items_of, codes_of}
use Rattle.moo_syntax_ast.proofs.Rows.{row_of, row_items}
use Rattle.moo_syntax_grammar.specs.declared.level.Level.TheVariants.{Logic, Relation, Sum, Product}
use Rattle.moo_syntax_grammar.specs.Rules.{may_assign}
use Rattle.moo_syntax_grammar.specs.Grammar.{Sort, joined, expression, conditional, operand, chain, more, power, unary, postfix, suffixes, primary, arguments, members, has_optional}
use Rattle.moo_syntax_grammar.specs.Machine.{give, take, phrase, gives, sees, misses, reads, refuses, sees_fails, misses_fails, phrase_fails, then_fails}
use Rattle.moo_syntax_grammar.specs.Tokens.{next_passes, is_sign, name_at, literal_at}
use Rattle.moo_syntax_grammar.specs.Predictive.{grammar, expect, after_member, after_dot, after_colon, verb_arguments, after_bracket, named, braced, dollar, after_dollar, guarded, after_question}
use Rattle.moo_syntax_grammar.specs.Minuses.{negations}
use Rattle.moo_syntax_grammar.proofs.Kept.{target_may_be_assigned, no_target, name_may_be_called, refused_fails}
use Rattle.moo_syntax_grammar.proofs.Heights.{height_positive, joined_height, negations_lower}
use Rattle.moo_syntax_grammar.proofs.Depths.{allowed_meets, meets_deep}
use Rattle.moo_syntax.specs.Cursor.{left, Takes, TakesLiteral, Stays}
use Rattle.moo_syntax.specs.Outgrown.{can_give, can_read, can_take, Deepens}
use Rattle.moo_syntax.specs.Outcome.{IsRead, IsReadBy, HasFailed, HasFailedBy, raising, IsNamed, IsMember, IsPiece}
use Rattle.moo_syntax.proofs.Deepening.{can_rule, at_any, deepens_from, misses_deepens, then_deepens, phrase_deepens, inner_deepens, meets_at_once}
use Rattle.moo_syntax.proofs.Lone.{system_part, minuses_deepens, minuses_late}
use Rattle.moo_syntax.proofs.Steps.{reads_from, fails_from, took, took_fails, took_deepens, stayed, stayed_fails, stayed_deepens, told_admits, passed, refused, same_fault, no_memory, too_high, unnamed_memory, unnamed_refused, unmade_constant, if_constant, if_ok, if_err, made, unmade, no_leaf, not_made, none_of, called, not_called, in_front_push, minuses_read, minuses_fail, ended, goes_on_member, asked, asked_fails, asked_deepens, unasked, unasked_fails, unasked_deepens, piece_reads, piece_fails, piece_deepens, admitted, admitted_fails, admitted_deepens, brace_ends, brace_fails, brace_keeps, expect_deep}
use Rattle.moo_syntax.proofs.+parser.Goals as goal

pub levels::expression-returns-in_err-target-clause-failed : goal.levels::expression-returns-in_err-target-clause-failed
unfolding grammar
levels::expression-returns-in_err-target-clause-failed t c =
    let p = err_from_is_err_and c.from_residual.result c.from_residual.ensures.1 in
    passed _ p.1 p.2 (record {
      fails = λ g b. phrase_fails (c.in_err-target.ensures.failed.fails g b);
      stands = c.in_err-target.ensures.failed.stands;
      deep = λ h g ok. phrase_deepens (c.in_err-target.ensures.failed.deep h g ok) (λ a q. (allowed_meets (may_assign g a) (take λ _. phrase (expression c.args.place.inside) λ b. give (assign a b)) _ (λ x b _. omega (arith, q)), q));
      long = λ h. let l = c.in_err-target.ensures.failed.long h in omega (arith, l);
    })

pub levels::expression-returns-then-not-is_at-clause-read : goal.levels::expression-returns-then-not-is_at-clause-read
unfolding grammar
levels::expression-returns-then-not-is_at-clause-read t c =
    (record {
      reads = λ g a. reads (c.in_ok-target.ensures.read.reads g a) (misses (sym c.is_at.ensures ∙ c.if-not-is_at.true) gives);
      fits = omega (arith, c.in_ok-target.ensures.read.fits);
      tokens = omega (arith, c.in_ok-target.ensures.read.tokens, c.in_ok-target.ensures.read.fits);
    })

pub levels::expression-returns-in_err-expect_target-clause-failed : goal.levels::expression-returns-in_err-expect_target-clause-failed
unfolding grammar
levels::expression-returns-in_err-expect_target-clause-failed t c =
    let p = err_from_is_err_and c.from_residual-in_err-expect_target.result c.from_residual-in_err-expect_target.ensures.1 in
    let e = c.in_err-expect_target.ensures in
    let seen = sym c.is_at.ensures ∙ c.if-not-is_at.false in
    passed _ p.1 p.2 (same_fault e.0 (record {
      fails = λ g b. then_fails (c.in_ok-target.ensures.read.reads g b.0) (sees_fails seen (refused_fails _ (no_target g (root c.in_ok-target.target.tree) b.1 (rw c.deref.ensures at e.1))));
      stands = seen;
      deep = λ h. absurd cc;
      long = λ h. absurd cc;
    }))

pub levels::expression-returns-in_err-expect-clause-failed : goal.levels::expression-returns-in_err-expect-clause-failed
unfolding grammar
levels::expression-returns-in_err-expect-clause-failed t c =
    let p = err_from_is_err_and c.from_residual-in_err-expect.result c.from_residual-in_err-expect.ensures.1 in
    let seen = sym c.is_at.ensures ∙ c.if-not-is_at.false in
    let other = c.in_err-expect.ensures.1.other in
    passed _ p.1 p.2 (absurd cc)

pub levels::expression-returns-in_err-room_beside-clause-failed : goal.levels::expression-returns-in_err-room_beside-clause-failed
unfolding grammar
levels::expression-returns-in_err-room_beside-clause-failed t c =
    let p = err_from_is_err_and c.from_residual-in_err-room_beside.result c.from_residual-in_err-room_beside.ensures.1 in
    let target : is_target (root c.in_ok-target.target.tree) ≡ true = rw c.deref.ensures at c.in_ok-expect_target.ensures in
    passed _ p.1 p.2 (too_high c.in_err-room_beside.ensures.0 (λ g ok. then_deepens (c.in_ok-target.ensures.read.reads g ok) (admitted_deepens (λ _. phrase (expression c.args.place.inside) λ b. give (assign (root c.in_ok-target.target.tree) b)) c.in_ok-expect.ensures refl (target_may_be_assigned g (root c.in_ok-target.target.tree) target) (meets_at_once can_read (λ b _. omega (arith, c.in_err-room_beside.ensures.1, c.in_ok-target.target.in_step))))) (omega (arith, c.in_ok-target.target.in_step, c.in_err-room_beside.ensures.1, c.in_ok-target.ensures.read.tokens, c.in_ok-expect.ensures.at)))

pub levels::expression-returns-in_err-value-clause-failed : goal.levels::expression-returns-in_err-value-clause-failed
unfolding grammar
levels::expression-returns-in_err-value-clause-failed t c =
    let p = err_from_is_err_and c.from_residual-in_err-value.result c.from_residual-in_err-value.ensures.1 in
    let target : is_target (root c.in_ok-target.target.tree) ≡ true = rw c.deref.ensures at c.in_ok-expect_target.ensures in
    passed _ p.1 p.2 (record {
      fails = λ g b. then_fails (c.in_ok-target.ensures.read.reads g (told_admits _ c.args.place.names g b)) (admitted_fails (λ _. phrase (expression c.args.place.inside) λ b. give (assign (root c.in_ok-target.target.tree) b)) c.in_ok-expect.ensures refl (target_may_be_assigned g (root c.in_ok-target.target.tree) target) (phrase_fails (c.in_err-value.ensures.failed.fails g b)));
      stands = c.in_err-value.ensures.failed.stands;
      deep = λ h g ok. then_deepens (c.in_ok-target.ensures.read.reads g ok) (admitted_deepens (λ _. phrase (expression c.args.place.inside) λ b. give (assign (root c.in_ok-target.target.tree) b)) c.in_ok-expect.ensures refl (target_may_be_assigned g (root c.in_ok-target.target.tree) target) (phrase_deepens (c.in_err-value.ensures.failed.deep h g ok) (λ b q. omega (arith, q, c.in_ok-room_beside.ensures.0))));
      long = λ h. let l = c.in_err-value.ensures.failed.long h in omega (arith, l, c.in_ok-target.ensures.read.tokens, c.in_ok-expect.ensures.at, c.in_ok-room_beside.ensures.0);
    })

pub levels::expression-returns-clause-read : goal.levels::expression-returns-clause-read
unfolding grammar
levels::expression-returns-clause-read t c =
    let target : is_target (root c.in_ok-target.target.tree) ≡ true = rw c.deref.ensures at c.in_ok-expect_target.ensures in
    made c.args.place.names (λ g. grammar g (expression c.args.place.inside)) c.args.room 0 c.args.tokens.now c.expression.new.tokens (tree.assign (root c.in_ok-target.target.tree) (root c.in_ok-value.value.tree)) c.node_over.result c.node_over.ensures (λ g a. reads (c.in_ok-target.ensures.read.reads g a) (admitted (λ _. phrase (expression c.args.place.inside) λ b. give (assign (root c.in_ok-target.target.tree) b)) c.in_ok-expect.ensures refl (target_may_be_assigned g (root c.in_ok-target.target.tree) target) (reads (c.in_ok-value.ensures.read.reads g a) gives))) (omega (arith, c.in_ok-target.ensures.read.tokens, c.in_ok-expect.ensures.at, c.in_ok-value.ensures.read.tokens))

pub levels::expression-returns-clause-failed : goal.levels::expression-returns-clause-failed
unfolding grammar
levels::expression-returns-clause-failed t c =
    let target : is_target (root c.in_ok-target.target.tree) ≡ true = rw c.deref.ensures at c.in_ok-expect_target.ensures in
    unmade c.args.place.names true (λ g. grammar g (expression c.args.place.inside)) c.args.room 0 c.args.tokens.now c.expression.new.tokens (tree.assign (root c.in_ok-target.target.tree) (root c.in_ok-value.value.tree)) c.node_over.result c.node_over.ensures (omega (arith, c.in_ok-room_beside.ensures.0, c.in_ok-room_beside.ensures.1, c.in_ok-target.target.in_step, c.in_ok-value.ensures.read.fits))

pub levels::conditional-returns-in_err-test-clause-failed : goal.levels::conditional-returns-in_err-test-clause-failed
unfolding grammar
levels::conditional-returns-in_err-test-clause-failed t c =
    let p = err_from_is_err_and c.from_residual.result c.from_residual.ensures.1 in
    passed _ p.1 p.2 (record {
      fails = λ g b. phrase_fails (c.in_err-test.ensures.failed.fails g b);
      stands = c.in_err-test.ensures.failed.stands;
      deep = λ h g ok. phrase_deepens (c.in_err-test.ensures.failed.deep h g ok) (λ a g. ((λ x b _. ((λ y n _. omega (arith, g)), tt)), g));
      long = λ h. let l = c.in_err-test.ensures.failed.long h in omega (arith, l);
    })

pub levels::conditional-returns-then-not-take-clause-read : goal.levels::conditional-returns-then-not-take-clause-read
unfolding grammar
levels::conditional-returns-then-not-take-clause-read t c =
    (record {
      reads = λ g a. reads (c.in_ok-test.ensures.read.reads g a) (stayed c.if-not-take.ensures gives);
      fits = omega (arith, c.in_ok-test.ensures.read.fits);
      tokens = omega (arith, c.in_ok-test.ensures.read.tokens, c.if-not-take.ensures.at, c.in_ok-test.ensures.read.fits);
    })

pub levels::conditional-returns-in_err-room_beside-clause-failed : goal.levels::conditional-returns-in_err-room_beside-clause-failed
unfolding grammar
levels::conditional-returns-in_err-room_beside-clause-failed t c =
    let p = err_from_is_err_and c.from_residual-in_err-room_beside.result c.from_residual-in_err-room_beside.ensures.1 in
    passed _ p.1 p.2 (too_high c.in_err-room_beside.ensures.0 (λ g ok. then_deepens (c.in_ok-test.ensures.read.reads g ok) (took_deepens c.if-not-take.ensures refl (meets_at_once can_read (λ b _. ((λ y n _. omega (arith, c.in_err-room_beside.ensures.1, c.in_ok-test.test.in_step)), tt))))) (omega (arith, c.in_ok-test.test.in_step, c.in_err-room_beside.ensures.1, c.in_ok-test.ensures.read.tokens, c.if-not-take.ensures.at)))

pub levels::conditional-returns-in_err-yes-clause-failed : goal.levels::conditional-returns-in_err-yes-clause-failed
unfolding grammar
levels::conditional-returns-in_err-yes-clause-failed t c =
    let p = err_from_is_err_and c.from_residual-in_err-yes.result c.from_residual-in_err-yes.ensures.1 in
    passed _ p.1 p.2 (record {
      fails = λ g b. then_fails (c.in_ok-test.ensures.read.reads g (told_admits _ c.args.place.names g b)) (took_fails c.if-not-take.ensures refl (phrase_fails (c.in_err-yes.ensures.failed.fails g b)));
      stands = c.in_err-yes.ensures.failed.stands;
      deep = λ h g ok. then_deepens (c.in_ok-test.ensures.read.reads g ok) (took_deepens c.if-not-take.ensures refl (phrase_deepens (c.in_err-yes.ensures.failed.deep h g ok) (λ b g. ((λ y n _. omega (arith, g, c.in_ok-room_beside.ensures.0)), tt))));
      long = λ h. let l = c.in_err-yes.ensures.failed.long h in omega (arith, l, c.in_ok-test.ensures.read.tokens, c.if-not-take.ensures.at, c.in_ok-room_beside.ensures.0);
    })

pub levels::conditional-returns-in_err-expect-clause-failed : goal.levels::conditional-returns-in_err-expect-clause-failed
unfolding grammar
levels::conditional-returns-in_err-expect-clause-failed t c =
    let p = err_from_is_err_and c.from_residual-in_err-expect.result c.from_residual-in_err-expect.ensures.1 in
    passed _ p.1 p.2 (refused c.in_err-expect.ensures.0 (λ g a. then_fails (c.in_ok-test.ensures.read.reads g a) (took_fails c.if-not-take.ensures refl (then_fails (c.in_ok-yes.ensures.read.reads g a) (stayed_fails c.in_err-expect.ensures.1 refuses)))))

pub levels::conditional-returns-in_err-no-clause-failed : goal.levels::conditional-returns-in_err-no-clause-failed
unfolding grammar
levels::conditional-returns-in_err-no-clause-failed t c =
    let p = err_from_is_err_and c.from_residual-in_err-no.result c.from_residual-in_err-no.ensures.1 in
    passed _ p.1 p.2 (record {
      fails = λ g b. then_fails (c.in_ok-test.ensures.read.reads g (told_admits _ c.args.place.names g b)) (took_fails c.if-not-take.ensures refl (then_fails (c.in_ok-yes.ensures.read.reads g (told_admits _ c.args.place.names g b)) (took_fails c.in_ok-expect.ensures refl (phrase_fails (c.in_err-no.ensures.failed.fails g b)))));
      stands = c.in_err-no.ensures.failed.stands;
      deep = λ h g ok. then_deepens (c.in_ok-test.ensures.read.reads g ok) (took_deepens c.if-not-take.ensures refl (then_deepens (c.in_ok-yes.ensures.read.reads g ok) (took_deepens c.in_ok-expect.ensures refl (phrase_deepens (c.in_err-no.ensures.failed.deep h g ok) (λ n g. omega (arith, g, c.in_ok-room_beside.ensures.0))))));
      long = λ h. let l = c.in_err-no.ensures.failed.long h in omega (arith, l, c.in_ok-test.ensures.read.tokens, c.if-not-take.ensures.at, c.in_ok-yes.ensures.read.tokens, c.in_ok-expect.ensures.at, c.in_ok-room_beside.ensures.0);
    })

pub levels::conditional-returns-clause-read : goal.levels::conditional-returns-clause-read
unfolding grammar
levels::conditional-returns-clause-read t c =
    made c.args.place.names (λ g. grammar g (conditional c.args.place.inside)) c.args.room 0 c.args.tokens.now c.conditional.new.tokens (tree.conditional (root c.in_ok-test.test.tree) (root c.in_ok-yes.yes.tree) (root c.in_ok-no.no.tree)) c.node_over.result c.node_over.ensures (λ g a. reads (c.in_ok-test.ensures.read.reads g a) (took c.if-not-take.ensures refl (reads (c.in_ok-yes.ensures.read.reads g a) (took c.in_ok-expect.ensures refl (reads (c.in_ok-no.ensures.read.reads g a) gives))))) (omega (arith, c.in_ok-test.ensures.read.tokens, c.if-not-take.ensures.at, c.in_ok-yes.ensures.read.tokens, c.in_ok-expect.ensures.at, c.in_ok-no.ensures.read.tokens))

pub levels::conditional-returns-clause-failed : goal.levels::conditional-returns-clause-failed
unfolding grammar
levels::conditional-returns-clause-failed t c =
    unmade c.args.place.names true (λ g. grammar g (conditional c.args.place.inside)) c.args.room 0 c.args.tokens.now c.conditional.new.tokens (tree.conditional (root c.in_ok-test.test.tree) (root c.in_ok-yes.yes.tree) (root c.in_ok-no.no.tree)) c.node_over.result c.node_over.ensures (omega (arith, c.in_ok-room_beside.ensures.0, c.in_ok-room_beside.ensures.1, c.in_ok-test.test.in_step, c.in_ok-yes.ensures.read.fits, c.in_ok-no.ensures.read.fits))

pub levels::logic-returns-in_err-front-clause-failed : goal.levels::logic-returns-in_err-front-clause-failed
unfolding grammar
levels::logic-returns-in_err-front-clause-failed t c =
    let p = err_from_is_err_and c.from_residual.result c.from_residual.ensures.1 in
    passed _ p.1 p.2 (record {
      fails = λ g b. phrase_fails (phrase_fails (c.in_err-front.ensures.failed.fails g b));
      stands = c.in_err-front.ensures.failed.stands;
      deep = λ h g ok. phrase_deepens (phrase_deepens (c.in_err-front.ensures.failed.deep h g ok) (λ a g. g)) (λ a g e h. omega (arith, g, h));
      long = λ h. let l = c.in_err-front.ensures.failed.long h in omega (arith, l);
    })

pub levels::logic-returns-clause-read : goal.levels::logic-returns-clause-read
unfolding grammar
levels::logic-returns-clause-read t c =
    let r = c.in_ok-front.ensures.read in
    if_ok (λ n. IsReadBy c.args.place.names Sort.expr (λ g. grammar g (more c.args.place.inside Logic (root c.in_ok-front.front.tree))) c.args.room (height (root c.in_ok-front.front.tree)) c.relation.new.tokens c.more.new.tokens (root n.tree)) (λ n. IsReadBy c.args.place.names Sort.expr (λ g. grammar g (chain c.args.place.inside Logic)) c.args.room 0 c.args.tokens.now c.more.new.tokens (root n.tree)) c.more.result c.more.ensures.read
    (λ n v. record {
      reads = λ g a. reads (reads (r.reads g a) gives) (reads (v.reads g a) gives);
      fits = v.fits;
      tokens = omega (arith, v.tokens, r.tokens);
    })

pub levels::logic-returns-clause-failed : goal.levels::logic-returns-clause-failed
unfolding grammar
levels::logic-returns-clause-failed t c =
    let r = c.in_ok-front.ensures.read in
    if_err (λ f. HasFailedBy c.args.place.names true Sort.expr (λ g. grammar g (more c.args.place.inside Logic (root c.in_ok-front.front.tree))) c.args.room (height (root c.in_ok-front.front.tree)) c.relation.new.tokens c.more.new.tokens f) (λ f. HasFailedBy c.args.place.names true Sort.expr (λ g. grammar g (chain c.args.place.inside Logic)) c.args.room 0 c.args.tokens.now c.more.new.tokens f) c.more.result c.more.ensures.failed
    (λ f w. record {
      fails = λ g b. then_fails (reads (r.reads g (told_admits f c.args.place.names g b)) gives) (phrase_fails (w.fails g b));
      stands = w.stands;
      deep = λ h g ok. then_deepens (reads (r.reads g ok) gives) (phrase_deepens (w.deep h g ok) (λ e g. g));
      long = λ h. let l = w.long h in omega (arith, l, r.tokens);
    })

pub levels::relation-returns-in_err-front-clause-failed : goal.levels::relation-returns-in_err-front-clause-failed
unfolding grammar
levels::relation-returns-in_err-front-clause-failed t c =
    let p = err_from_is_err_and c.from_residual.result c.from_residual.ensures.1 in
    passed _ p.1 p.2 (record {
      fails = λ g b. phrase_fails (phrase_fails (c.in_err-front.ensures.failed.fails g b));
      stands = c.in_err-front.ensures.failed.stands;
      deep = λ h g ok. phrase_deepens (phrase_deepens (c.in_err-front.ensures.failed.deep h g ok) (λ a g. g)) (λ a g e h. omega (arith, g, h));
      long = λ h. let l = c.in_err-front.ensures.failed.long h in omega (arith, l);
    })

pub levels::relation-returns-clause-read : goal.levels::relation-returns-clause-read
unfolding grammar
levels::relation-returns-clause-read t c =
    let r = c.in_ok-front.ensures.read in
    if_ok (λ n. IsReadBy c.args.place.names Sort.expr (λ g. grammar g (more c.args.place.inside Relation (root c.in_ok-front.front.tree))) c.args.room (height (root c.in_ok-front.front.tree)) c.sum.new.tokens c.more.new.tokens (root n.tree)) (λ n. IsReadBy c.args.place.names Sort.expr (λ g. grammar g (chain c.args.place.inside Relation)) c.args.room 0 c.args.tokens.now c.more.new.tokens (root n.tree)) c.more.result c.more.ensures.read
    (λ n v. record {
      reads = λ g a. reads (reads (r.reads g a) gives) (reads (v.reads g a) gives);
      fits = v.fits;
      tokens = omega (arith, v.tokens, r.tokens);
    })

pub levels::relation-returns-clause-failed : goal.levels::relation-returns-clause-failed
unfolding grammar
levels::relation-returns-clause-failed t c =
    let r = c.in_ok-front.ensures.read in
    if_err (λ f. HasFailedBy c.args.place.names true Sort.expr (λ g. grammar g (more c.args.place.inside Relation (root c.in_ok-front.front.tree))) c.args.room (height (root c.in_ok-front.front.tree)) c.sum.new.tokens c.more.new.tokens f) (λ f. HasFailedBy c.args.place.names true Sort.expr (λ g. grammar g (chain c.args.place.inside Relation)) c.args.room 0 c.args.tokens.now c.more.new.tokens f) c.more.result c.more.ensures.failed
    (λ f w. record {
      fails = λ g b. then_fails (reads (r.reads g (told_admits f c.args.place.names g b)) gives) (phrase_fails (w.fails g b));
      stands = w.stands;
      deep = λ h g ok. then_deepens (reads (r.reads g ok) gives) (phrase_deepens (w.deep h g ok) (λ e g. g));
      long = λ h. let l = w.long h in omega (arith, l, r.tokens);
    })

pub levels::sum-returns-in_err-front-clause-failed : goal.levels::sum-returns-in_err-front-clause-failed
unfolding grammar
levels::sum-returns-in_err-front-clause-failed t c =
    let p = err_from_is_err_and c.from_residual.result c.from_residual.ensures.1 in
    passed _ p.1 p.2 (record {
      fails = λ g b. phrase_fails (phrase_fails (c.in_err-front.ensures.failed.fails g b));
      stands = c.in_err-front.ensures.failed.stands;
      deep = λ h g ok. phrase_deepens (phrase_deepens (c.in_err-front.ensures.failed.deep h g ok) (λ a g. g)) (λ a g e h. omega (arith, g, h));
      long = λ h. let l = c.in_err-front.ensures.failed.long h in omega (arith, l);
    })

pub levels::sum-returns-clause-read : goal.levels::sum-returns-clause-read
unfolding grammar
levels::sum-returns-clause-read t c =
    let r = c.in_ok-front.ensures.read in
    if_ok (λ n. IsReadBy c.args.place.names Sort.expr (λ g. grammar g (more c.args.place.inside Sum (root c.in_ok-front.front.tree))) c.args.room (height (root c.in_ok-front.front.tree)) c.product.new.tokens c.more.new.tokens (root n.tree)) (λ n. IsReadBy c.args.place.names Sort.expr (λ g. grammar g (chain c.args.place.inside Sum)) c.args.room 0 c.args.tokens.now c.more.new.tokens (root n.tree)) c.more.result c.more.ensures.read
    (λ n v. record {
      reads = λ g a. reads (reads (r.reads g a) gives) (reads (v.reads g a) gives);
      fits = v.fits;
      tokens = omega (arith, v.tokens, r.tokens);
    })

pub levels::sum-returns-clause-failed : goal.levels::sum-returns-clause-failed
unfolding grammar
levels::sum-returns-clause-failed t c =
    let r = c.in_ok-front.ensures.read in
    if_err (λ f. HasFailedBy c.args.place.names true Sort.expr (λ g. grammar g (more c.args.place.inside Sum (root c.in_ok-front.front.tree))) c.args.room (height (root c.in_ok-front.front.tree)) c.product.new.tokens c.more.new.tokens f) (λ f. HasFailedBy c.args.place.names true Sort.expr (λ g. grammar g (chain c.args.place.inside Sum)) c.args.room 0 c.args.tokens.now c.more.new.tokens f) c.more.result c.more.ensures.failed
    (λ f w. record {
      fails = λ g b. then_fails (reads (r.reads g (told_admits f c.args.place.names g b)) gives) (phrase_fails (w.fails g b));
      stands = w.stands;
      deep = λ h g ok. then_deepens (reads (r.reads g ok) gives) (phrase_deepens (w.deep h g ok) (λ e g. g));
      long = λ h. let l = w.long h in omega (arith, l, r.tokens);
    })

pub levels::product-returns-in_err-front-clause-failed : goal.levels::product-returns-in_err-front-clause-failed
unfolding grammar
levels::product-returns-in_err-front-clause-failed t c =
    let p = err_from_is_err_and c.from_residual.result c.from_residual.ensures.1 in
    passed _ p.1 p.2 (record {
      fails = λ g b. phrase_fails (phrase_fails (c.in_err-front.ensures.failed.fails g b));
      stands = c.in_err-front.ensures.failed.stands;
      deep = λ h g ok. phrase_deepens (phrase_deepens (c.in_err-front.ensures.failed.deep h g ok) (λ a g. g)) (λ a g e h. omega (arith, g, h));
      long = λ h. let l = c.in_err-front.ensures.failed.long h in omega (arith, l);
    })

pub levels::product-returns-clause-read : goal.levels::product-returns-clause-read
unfolding grammar
levels::product-returns-clause-read t c =
    let r = c.in_ok-front.ensures.read in
    if_ok (λ n. IsReadBy c.args.place.names Sort.expr (λ g. grammar g (more c.args.place.inside Product (root c.in_ok-front.front.tree))) c.args.room (height (root c.in_ok-front.front.tree)) c.power.new.tokens c.more.new.tokens (root n.tree)) (λ n. IsReadBy c.args.place.names Sort.expr (λ g. grammar g (chain c.args.place.inside Product)) c.args.room 0 c.args.tokens.now c.more.new.tokens (root n.tree)) c.more.result c.more.ensures.read
    (λ n v. record {
      reads = λ g a. reads (reads (r.reads g a) gives) (reads (v.reads g a) gives);
      fits = v.fits;
      tokens = omega (arith, v.tokens, r.tokens);
    })

pub levels::product-returns-clause-failed : goal.levels::product-returns-clause-failed
unfolding grammar
levels::product-returns-clause-failed t c =
    let r = c.in_ok-front.ensures.read in
    if_err (λ f. HasFailedBy c.args.place.names true Sort.expr (λ g. grammar g (more c.args.place.inside Product (root c.in_ok-front.front.tree))) c.args.room (height (root c.in_ok-front.front.tree)) c.power.new.tokens c.more.new.tokens f) (λ f. HasFailedBy c.args.place.names true Sort.expr (λ g. grammar g (chain c.args.place.inside Product)) c.args.room 0 c.args.tokens.now c.more.new.tokens f) c.more.result c.more.ensures.failed
    (λ f w. record {
      fails = λ g b. then_fails (reads (r.reads g (told_admits f c.args.place.names g b)) gives) (phrase_fails (w.fails g b));
      stands = w.stands;
      deep = λ h g ok. then_deepens (reads (r.reads g ok) gives) (phrase_deepens (w.deep h g ok) (λ e g. g));
      long = λ h. let l = w.long h in omega (arith, l, r.tokens);
    })

pub levels::more-returns-then-not-is_at_operator-clause-read : goal.levels::more-returns-then-not-is_at_operator-clause-read
unfolding grammar
levels::more-returns-then-not-is_at_operator-clause-read t c =
    record {
      reads = λ g a. misses (sym c.is_at_operator.ensures ∙ c.if-not-is_at_operator.true) gives;
      fits = omega (arith, c.requires, c.args.front.in_step);
      tokens = omega (arith);
    }

pub levels::further-loop-operator-init : goal.levels::further-loop-operator-init
levels::further-loop-operator-init t c =
    record {
      moves = search rules;
      goes_on = record {
        reads = λ g a e u d. d;
        fails = λ g a u d. d;
        deep = λ g ok n u d. d;
      };
      fits = c.requires;
      tokens = omega (arith);
    }

pub levels::further-returns-in_err-room_beside-clause-failed : goal.levels::further-returns-in_err-room_beside-clause-failed
unfolding grammar
levels::further-returns-in_err-room_beside-clause-failed t c =
    let p = err_from_is_err_and c.from_residual.result c.from_residual.ensures.1 in
    let o = c.in-Some.ensures in
    let i = c.loop-operator.invariant in
    passed _ p.1 p.2 (too_high c.in_err-room_beside.ensures.0 (λ g ok. i.goes_on.deep g ok _ _ (took_deepens {b = false} o.2 (ap is_some o.1) (rw o.1 (meets_at_once can_read (λ a _ e q. omega (arith, q, c.in_err-room_beside.ensures.1, c.loop-operator.joined.in_step, joined_height c.in-Some.operator (root c.loop-operator.joined.tree) a)))))) (omega (arith, c.in_err-room_beside.ensures.1, i.tokens, c.args.front.in_step, o.2.at)))

pub levels::further-returns-in_err-next-clause-failed : goal.levels::further-returns-in_err-next-clause-failed
unfolding grammar
levels::further-returns-in_err-next-clause-failed t c =
    let p = err_from_is_err_and c.from_residual-in_err-next.result c.from_residual-in_err-next.ensures.1 in
    let w = c.in_err-next.ensures.failed in
    let o = c.in-Some.ensures in
    let i = c.loop-operator.invariant in
    passed _ p.1 p.2 (record {
      fails = λ g b. i.goes_on.fails g (told_admits _ c.args.place.names g b) _ (took_fails o.2 (ap is_some o.1) (rw o.1 (phrase_fails (w.fails g b))));
      stands = w.stands;
      deep = λ h g ok. i.goes_on.deep g ok _ _ (took_deepens {b = true} o.2 (ap is_some o.1) (rw o.1 (phrase_deepens (w.deep h g ok) (λ a g e q. omega (arith, g, q, c.in_ok-room_beside.ensures.0, joined_height c.in-Some.operator (root c.loop-operator.joined.tree) a)))));
      long = λ h. let l = w.long h in omega (arith, l, i.tokens, c.args.front.in_step, o.2.at, c.in_ok-room_beside.ensures.0);
    })

pub levels::further-returns-in_err-joined-clause-failed : goal.levels::further-returns-in_err-joined-clause-failed
levels::further-returns-in_err-joined-clause-failed t c =
    let p = err_from_is_err_and c.from_residual-in_err-joined.result c.from_residual-in_err-joined.ensures.1 in
    let higher = joined_height c.in-Some.operator (root c.loop-operator.joined.tree) (root c.in_ok-next.next.tree) in
    passed _ p.1 p.2 (not_made (joined c.in-Some.operator (root c.loop-operator.joined.tree) (root c.in_ok-next.next.tree)) c.in_err-joined.ensures (omega (arith, higher, c.in_ok-room_beside.ensures.0, c.in_ok-room_beside.ensures.1, c.loop-operator.joined.in_step, c.in_ok-next.ensures.read.fits)))

pub levels::further-loop-operator-preserved : goal.levels::further-loop-operator-preserved
unfolding grammar
levels::further-loop-operator-preserved t c =
    let n = c.in_ok-next.ensures.read in
    let o = c.in-Some.ensures in
    let i = c.loop-operator.invariant in
    let higher = joined_height c.in-Some.operator (root c.loop-operator.joined.tree) (root c.in_ok-next.next.tree) in
    record {
      moves = search rules;
      goes_on = rw c.in_ok-joined.ensures.0 (record {
        reads = λ g a e r d. i.goes_on.reads g a e r (took o.2 (ap is_some o.1) (rw o.1 (reads (n.reads g a) (reads d gives))));
        fails = λ g a r d. i.goes_on.fails g a r (took_fails o.2 (ap is_some o.1) (rw o.1 (then_fails (n.reads g a) (phrase_fails d))));
        deep = λ g ok m r d. i.goes_on.deep g ok m r (took_deepens {b = true} o.2 (ap is_some o.1) (rw o.1 (then_deepens (n.reads g ok) (phrase_deepens d (λ e g. g)))));
      });
      fits = c.in_ok-joined.ensures.1;
      tokens = omega (arith, c.in_ok-joined.ensures.2, higher, c.loop-operator.joined.in_step, c.in_ok-next.next.in_step, n.tokens, i.tokens, c.args.front.in_step, o.2.at);
    }

pub levels::further-returns-clause-read : goal.levels::further-returns-clause-read
unfolding grammar
levels::further-returns-clause-read t c =
    let i = c.loop-operator.invariant in
    record {
      reads = λ g a. i.goes_on.reads g a _ _ (stayed c.in_default.ensures gives);
      fits = omega (arith, i.fits, c.loop-operator.joined.in_step);
      tokens = omega (arith, i.tokens, c.args.front.in_step, c.loop-operator.joined.in_step, c.in_default.ensures.at);
    }

pub levels::operand-returns-in-Logic-clause-read : goal.levels::operand-returns-in-Logic-clause-read
unfolding grammar
levels::operand-returns-in-Logic-clause-read t c =
    if_ok (λ n. IsRead c.args.place.names (chain c.args.place.inside Relation) c.args.room c.args.tokens.now c.relation.new.tokens (root n.tree)) (λ n. IsReadBy c.args.place.names Sort.expr (λ g. grammar g (operand c.args.place.inside c.args.level)) c.args.room 0 c.args.tokens.now c.relation.new.tokens (root n.tree)) c.relation.result c.relation.ensures.read
    (λ n v. record {
      reads = λ g a. rw c.in-Logic.is (reads (v.reads g a) gives);
      fits = omega (arith, v.fits);
      tokens = omega (arith, v.tokens);
    })

pub levels::operand-returns-in-Logic-clause-failed : goal.levels::operand-returns-in-Logic-clause-failed
unfolding grammar
levels::operand-returns-in-Logic-clause-failed t c =
    if_err (λ f. HasFailed c.args.place.names (chain c.args.place.inside Relation) c.args.room c.args.tokens.now c.relation.new.tokens f) (λ f. HasFailedBy c.args.place.names true Sort.expr (λ g. grammar g (operand c.args.place.inside c.args.level)) c.args.room 0 c.args.tokens.now c.relation.new.tokens f) c.relation.result c.relation.ensures.failed
    (λ f w. record {
      fails = λ g b. rw c.in-Logic.is (phrase_fails (w.fails g b));
      stands = w.stands;
      deep = λ h g ok. rw c.in-Logic.is (phrase_deepens (w.deep h g ok) (λ a g. g));
      long = λ h. let l = w.long h in omega (arith, l);
    })

pub levels::operand-returns-in-Relation-clause-read : goal.levels::operand-returns-in-Relation-clause-read
unfolding grammar
levels::operand-returns-in-Relation-clause-read t c =
    if_ok (λ n. IsRead c.args.place.names (chain c.args.place.inside Sum) c.args.room c.args.tokens.now c.sum.new.tokens (root n.tree)) (λ n. IsReadBy c.args.place.names Sort.expr (λ g. grammar g (operand c.args.place.inside c.args.level)) c.args.room 0 c.args.tokens.now c.sum.new.tokens (root n.tree)) c.sum.result c.sum.ensures.read
    (λ n v. record {
      reads = λ g a. rw c.in-Relation.is (reads (v.reads g a) gives);
      fits = omega (arith, v.fits);
      tokens = omega (arith, v.tokens);
    })

pub levels::operand-returns-in-Relation-clause-failed : goal.levels::operand-returns-in-Relation-clause-failed
unfolding grammar
levels::operand-returns-in-Relation-clause-failed t c =
    if_err (λ f. HasFailed c.args.place.names (chain c.args.place.inside Sum) c.args.room c.args.tokens.now c.sum.new.tokens f) (λ f. HasFailedBy c.args.place.names true Sort.expr (λ g. grammar g (operand c.args.place.inside c.args.level)) c.args.room 0 c.args.tokens.now c.sum.new.tokens f) c.sum.result c.sum.ensures.failed
    (λ f w. record {
      fails = λ g b. rw c.in-Relation.is (phrase_fails (w.fails g b));
      stands = w.stands;
      deep = λ h g ok. rw c.in-Relation.is (phrase_deepens (w.deep h g ok) (λ a g. g));
      long = λ h. let l = w.long h in omega (arith, l);
    })

pub levels::operand-returns-in-Sum-clause-read : goal.levels::operand-returns-in-Sum-clause-read
unfolding grammar
levels::operand-returns-in-Sum-clause-read t c =
    if_ok (λ n. IsRead c.args.place.names (chain c.args.place.inside Product) c.args.room c.args.tokens.now c.product.new.tokens (root n.tree)) (λ n. IsReadBy c.args.place.names Sort.expr (λ g. grammar g (operand c.args.place.inside c.args.level)) c.args.room 0 c.args.tokens.now c.product.new.tokens (root n.tree)) c.product.result c.product.ensures.read
    (λ n v. record {
      reads = λ g a. rw c.in-Sum.is (reads (v.reads g a) gives);
      fits = omega (arith, v.fits);
      tokens = omega (arith, v.tokens);
    })

pub levels::operand-returns-in-Sum-clause-failed : goal.levels::operand-returns-in-Sum-clause-failed
unfolding grammar
levels::operand-returns-in-Sum-clause-failed t c =
    if_err (λ f. HasFailed c.args.place.names (chain c.args.place.inside Product) c.args.room c.args.tokens.now c.product.new.tokens f) (λ f. HasFailedBy c.args.place.names true Sort.expr (λ g. grammar g (operand c.args.place.inside c.args.level)) c.args.room 0 c.args.tokens.now c.product.new.tokens f) c.product.result c.product.ensures.failed
    (λ f w. record {
      fails = λ g b. rw c.in-Sum.is (phrase_fails (w.fails g b));
      stands = w.stands;
      deep = λ h g ok. rw c.in-Sum.is (phrase_deepens (w.deep h g ok) (λ a g. g));
      long = λ h. let l = w.long h in omega (arith, l);
    })

pub levels::operand-returns-in-Product-clause-read : goal.levels::operand-returns-in-Product-clause-read
unfolding grammar
levels::operand-returns-in-Product-clause-read t c =
    if_ok (λ n. IsRead c.args.place.names (power c.args.place.inside) c.args.room c.args.tokens.now c.power.new.tokens (root n.tree)) (λ n. IsReadBy c.args.place.names Sort.expr (λ g. grammar g (operand c.args.place.inside c.args.level)) c.args.room 0 c.args.tokens.now c.power.new.tokens (root n.tree)) c.power.result c.power.ensures.read
    (λ n v. record {
      reads = λ g a. rw c.in-Product.is (reads (v.reads g a) gives);
      fits = omega (arith, v.fits);
      tokens = omega (arith, v.tokens);
    })

pub levels::operand-returns-in-Product-clause-failed : goal.levels::operand-returns-in-Product-clause-failed
unfolding grammar
levels::operand-returns-in-Product-clause-failed t c =
    if_err (λ f. HasFailed c.args.place.names (power c.args.place.inside) c.args.room c.args.tokens.now c.power.new.tokens f) (λ f. HasFailedBy c.args.place.names true Sort.expr (λ g. grammar g (operand c.args.place.inside c.args.level)) c.args.room 0 c.args.tokens.now c.power.new.tokens f) c.power.result c.power.ensures.failed
    (λ f w. record {
      fails = λ g b. rw c.in-Product.is (phrase_fails (w.fails g b));
      stands = w.stands;
      deep = λ h g ok. rw c.in-Product.is (phrase_deepens (w.deep h g ok) (λ a g. g));
      long = λ h. let l = w.long h in omega (arith, l);
    })

pub levels::power-returns-in_err-base-clause-failed : goal.levels::power-returns-in_err-base-clause-failed
unfolding grammar
levels::power-returns-in_err-base-clause-failed t c =
    let p = err_from_is_err_and c.from_residual.result c.from_residual.ensures.1 in
    passed _ p.1 p.2 (record {
      fails = λ g b. phrase_fails (c.in_err-base.ensures.failed.fails g b);
      stands = c.in_err-base.ensures.failed.stands;
      deep = λ h g ok. phrase_deepens (c.in_err-base.ensures.failed.deep h g ok) (λ a g. ((λ x b _. omega (arith, g)), g));
      long = λ h. let l = c.in_err-base.ensures.failed.long h in omega (arith, l);
    })

pub levels::power-returns-then-not-take-clause-read : goal.levels::power-returns-then-not-take-clause-read
unfolding grammar
levels::power-returns-then-not-take-clause-read t c =
    (record {
      reads = λ g a. reads (c.in_ok-base.ensures.read.reads g a) (stayed c.if-not-take.ensures gives);
      fits = omega (arith, c.in_ok-base.ensures.read.fits);
      tokens = omega (arith, c.in_ok-base.ensures.read.tokens, c.if-not-take.ensures.at, c.in_ok-base.ensures.read.fits);
    })

pub levels::power-returns-clause-read : goal.levels::power-returns-clause-read
unfolding grammar
levels::power-returns-clause-read t c =
    let r = c.in_ok-base.ensures.read in
    if_ok (λ n. IsReadBy c.args.place.names Sort.expr (λ g. raising c.args.place.inside (root c.in_ok-base.base.tree)) c.args.room (c.in_ok-base.base.height + 1) c.take.new.self c.raised.new.tokens (root n.tree)) (λ n. IsReadBy c.args.place.names Sort.expr (λ g. grammar g (power c.args.place.inside)) c.args.room 0 c.args.tokens.now c.raised.new.tokens (root n.tree)) c.raised.result c.raised.ensures.read
    (λ n v. record {
      reads = λ g a. reads (r.reads g a) (took c.if-not-take.ensures refl (v.reads g a));
      fits = v.fits;
      tokens = omega (arith, v.tokens, r.tokens, c.if-not-take.ensures.at, c.in_ok-base.base.in_step);
    })

pub levels::power-returns-clause-failed : goal.levels::power-returns-clause-failed
unfolding grammar
levels::power-returns-clause-failed t c =
    let r = c.in_ok-base.ensures.read in
    if_err (λ f. HasFailedBy c.args.place.names false Sort.expr (λ g. raising c.args.place.inside (root c.in_ok-base.base.tree)) c.args.room (c.in_ok-base.base.height + 1) c.take.new.self c.raised.new.tokens f) (λ f. HasFailedBy c.args.place.names true Sort.expr (λ g. grammar g (power c.args.place.inside)) c.args.room 0 c.args.tokens.now c.raised.new.tokens f) c.raised.result c.raised.ensures.failed
    (λ f w. record {
      fails = λ g b. then_fails (r.reads g (told_admits f c.args.place.names g b)) (took_fails c.if-not-take.ensures refl (w.fails g b));
      stands = w.stands;
      deep = λ h g ok. then_deepens (r.reads g ok) (took_deepens {b = false} c.if-not-take.ensures refl (w.deep h g ok));
      long = λ h. let l = w.long h in omega (arith, l, r.tokens, c.if-not-take.ensures.at, c.in_ok-base.base.in_step);
    })

pub levels::raised-returns-in_err-room_beside-clause-failed : goal.levels::raised-returns-in_err-room_beside-clause-failed
levels::raised-returns-in_err-room_beside-clause-failed t c =
    let p = err_from_is_err_and c.from_residual.result c.from_residual.ensures.1 in
    passed _ p.1 p.2 (too_high c.in_err-room_beside.ensures.0 (λ g ok. meets_at_once can_read (λ b _. omega (arith, c.in_err-room_beside.ensures.1, c.args.base.in_step))) (omega (arith, c.args.base.in_step, c.in_err-room_beside.ensures.1)))

pub levels::raised-returns-in_err-exponent-clause-failed : goal.levels::raised-returns-in_err-exponent-clause-failed
levels::raised-returns-in_err-exponent-clause-failed t c =
    let p = err_from_is_err_and c.from_residual-in_err-exponent.result c.from_residual-in_err-exponent.ensures.1 in
    passed _ p.1 p.2 (record {
      fails = λ g b. phrase_fails (c.in_err-exponent.ensures.failed.fails g b);
      stands = c.in_err-exponent.ensures.failed.stands;
      deep = λ h g ok. at_any (phrase_deepens (c.in_err-exponent.ensures.failed.deep h g ok) (λ b g. omega (arith, g, c.in_ok-room_beside.ensures.0)));
      long = λ h. let l = c.in_err-exponent.ensures.failed.long h in omega (arith, l, c.in_ok-room_beside.ensures.0);
    })

pub levels::raised-returns-clause-read : goal.levels::raised-returns-clause-read
levels::raised-returns-clause-read t c =
    made c.args.place.names (λ g. raising c.args.place.inside (root c.args.base.tree)) c.args.room (c.args.base.height + 1) c.args.tokens.now c.power.new.tokens (tree.binary Power (root c.args.base.tree) (root c.in_ok-exponent.exponent.tree)) c.node_over.result c.node_over.ensures (λ g a. reads (c.in_ok-exponent.ensures.read.reads g a) gives) (omega (arith, c.in_ok-exponent.ensures.read.tokens, c.args.base.in_step))

pub levels::raised-returns-clause-failed : goal.levels::raised-returns-clause-failed
levels::raised-returns-clause-failed t c =
    unmade c.args.place.names false (λ g. raising c.args.place.inside (root c.args.base.tree)) c.args.room (c.args.base.height + 1) c.args.tokens.now c.power.new.tokens (tree.binary Power (root c.args.base.tree) (root c.in_ok-exponent.exponent.tree)) c.node_over.result c.node_over.ensures (omega (arith, c.in_ok-room_beside.ensures.0, c.in_ok-room_beside.ensures.1, c.args.base.in_step, c.in_ok-exponent.ensures.read.fits))

pub levels::unary-returns-in_err-operand-clause-failed : goal.levels::unary-returns-in_err-operand-clause-failed
levels::unary-returns-in_err-operand-clause-failed t c =
    let p = err_from_is_err_and c.from_residual.result c.from_residual.ensures.1 in
    let w = c.in_err-operand.ensures.failed in
    let m = c.take_minuses-minuses.ensures in
    passed _ p.1 p.2 (record {
      fails = λ g b. fails_from m.tokens (minuses_fail g c.args.place.inside c.take_minuses-minuses.result (w.fails g b));
      stands = w.stands;
      deep = λ h g ok. deepens_from m.tokens (minuses_deepens c.args.place.inside c.take_minuses-minuses.result c.args.room (rw c.after_minuses.ensures at (w.deep h g ok)));
      long = λ h. let l = w.long h in omega (arith, l, m.at, c.after_minuses.ensures);
    })

pub levels::unary-returns-clause-read : goal.levels::unary-returns-clause-read
unfolding grammar
levels::unary-returns-clause-read t c =
    made c.args.place.names (λ g. grammar g (unary c.args.place.inside)) c.args.room 0 c.args.tokens.now c.unsigned-2.new.tokens (negations c.take_minuses-minuses.result (root c.in_ok-operand.operand.tree)) c.negate_times.result c.negate_times.ensures (λ g a. reads_from c.take_minuses-minuses.ensures.tokens (minuses_read g c.args.place.inside c.take_minuses-minuses.result (c.in_ok-operand.ensures.read.reads g a))) (omega (arith, c.in_ok-operand.ensures.read.tokens, c.take_minuses-minuses.ensures.at, negations_lower c.take_minuses-minuses.result (root c.in_ok-operand.operand.tree)))

pub levels::unary-returns-clause-failed : goal.levels::unary-returns-clause-failed
unfolding grammar
levels::unary-returns-clause-failed t c =
    no_leaf c.args.place.names true (λ g. grammar g (unary c.args.place.inside)) c.args.room 0 c.args.tokens.now c.unsigned-2.new.tokens (negations c.take_minuses-minuses.result (root c.in_ok-operand.operand.tree)) c.negate_times.result c.negate_times.ensures
    (λ high g ok. deepens_from c.take_minuses-minuses.ensures.tokens (minuses_late c.args.place.inside c.take_minuses-minuses.result c.args.room (root c.in_ok-operand.operand.tree) (c.in_ok-operand.ensures.read.reads g ok) (omega (arith, c.in_ok-operand.ensures.read.fits, c.after_minuses.ensures)) high))
    (λ high. omega (arith, high, c.in_ok-operand.ensures.read.tokens, c.take_minuses-minuses.ensures.at, negations_lower c.take_minuses-minuses.result (root c.in_ok-operand.operand.tree)))

pub levels::unsigned-returns-in_err-below-clause-failed : goal.levels::unsigned-returns-in_err-below-clause-failed
unfolding grammar
levels::unsigned-returns-in_err-below-clause-failed t c =
    let p = err_from_is_err_and c.from_residual.result c.from_residual.ensures.1 in
    passed _ p.1 p.2 (too_high c.in_err-below.ensures.0 (λ g ok. took_deepens c.if-take.ensures refl (meets_at_once can_read (λ a _. omega (arith, c.in_err-below.ensures.1)))) (omega (arith, c.in_err-below.ensures.1, c.if-take.ensures.at)))

pub levels::unsigned-returns-in_err-operand-clause-failed : goal.levels::unsigned-returns-in_err-operand-clause-failed
unfolding grammar
levels::unsigned-returns-in_err-operand-clause-failed t c =
    let p = err_from_is_err_and c.from_residual-in_err-operand.result c.from_residual-in_err-operand.ensures.1 in
    passed _ p.1 p.2 (record {
      fails = λ g b. took_fails c.if-take.ensures refl (phrase_fails (c.in_err-operand.ensures.failed.fails g b));
      stands = c.in_err-operand.ensures.failed.stands;
      deep = λ h g ok. took_deepens c.if-take.ensures refl (phrase_deepens (c.in_err-operand.ensures.failed.deep h g ok) (λ a g. omega (arith, g, c.in_ok-below.ensures)));
      long = λ h. let l = c.in_err-operand.ensures.failed.long h in omega (arith, l, c.if-take.ensures.at, c.in_ok-below.ensures);
    })

pub levels::unsigned-returns-then-take-clause-read : goal.levels::unsigned-returns-then-take-clause-read
unfolding grammar
levels::unsigned-returns-then-take-clause-read t c =
    made c.args.place.names (λ g. grammar g (unary c.args.place.inside)) c.args.room 0 c.args.tokens.now c.unary.new.tokens (tree.unary Not (root c.in_ok-operand.operand.tree)) c.node_over.result c.node_over.ensures (λ g a. took c.if-take.ensures refl (reads (c.in_ok-operand.ensures.read.reads g a) gives)) (omega (arith, c.if-take.ensures.at, c.in_ok-operand.ensures.read.tokens))

pub levels::unsigned-returns-then-take-clause-failed : goal.levels::unsigned-returns-then-take-clause-failed
unfolding grammar
levels::unsigned-returns-then-take-clause-failed t c =
    unmade c.args.place.names true (λ g. grammar g (unary c.args.place.inside)) c.args.room 0 c.args.tokens.now c.unary.new.tokens (tree.unary Not (root c.in_ok-operand.operand.tree)) c.node_over.result c.node_over.ensures (omega (arith, c.in_ok-below.ensures, c.in_ok-operand.ensures.read.fits))

pub levels::unsigned-returns-clause-read : goal.levels::unsigned-returns-clause-read
unfolding grammar
levels::unsigned-returns-clause-read t c =
    if_ok (λ n. IsRead c.args.place.names (postfix c.args.place.inside) c.args.room c.take.new.self c.postfix.new.tokens (root n.tree)) (λ n. IsReadBy c.args.place.names Sort.expr (λ g. grammar g (unary c.args.place.inside)) c.args.room 0 c.args.tokens.now c.postfix.new.tokens (root n.tree)) c.postfix.result c.postfix.ensures.read
    (λ n v. record {
      reads = λ g a. stayed c.if-take.ensures (misses (ap (next_passes (is_sign Minus)) c.if-take.ensures.rest ∙ c.requires) (reads (v.reads g a) gives));
      fits = omega (arith, v.fits);
      tokens = omega (arith, v.tokens, c.if-take.ensures.at);
    })

pub levels::unsigned-returns-clause-failed : goal.levels::unsigned-returns-clause-failed
unfolding grammar
levels::unsigned-returns-clause-failed t c =
    if_err (λ f. HasFailed c.args.place.names (postfix c.args.place.inside) c.args.room c.take.new.self c.postfix.new.tokens f) (λ f. HasFailedBy c.args.place.names true Sort.expr (λ g. grammar g (unary c.args.place.inside)) c.args.room 0 c.args.tokens.now c.postfix.new.tokens f) c.postfix.result c.postfix.ensures.failed
    (λ f w. record {
      fails = λ g b. stayed_fails c.if-take.ensures (misses_fails (ap (next_passes (is_sign Minus)) c.if-take.ensures.rest ∙ c.requires) (phrase_fails (w.fails g b)));
      stands = w.stands;
      deep = λ h g ok. stayed_deepens c.if-take.ensures (misses_deepens (ap (next_passes (is_sign Minus)) c.if-take.ensures.rest ∙ c.requires) (phrase_deepens (w.deep h g ok) (λ a g. g)));
      long = λ h. let l = w.long h in omega (arith, l, c.if-take.ensures.at);
    })

pub postfix::postfix-returns-in_err-base-clause-failed : goal.postfix::postfix-returns-in_err-base-clause-failed
unfolding grammar
postfix::postfix-returns-in_err-base-clause-failed t c =
    let p = err_from_is_err_and c.from_residual.result c.from_residual.ensures.1 in
    passed _ p.1 p.2 (record {
      fails = λ g b. phrase_fails (c.in_err-base.ensures.failed.fails g b);
      stands = c.in_err-base.ensures.failed.stands;
      deep = λ h g ok. phrase_deepens (c.in_err-base.ensures.failed.deep h g ok) (λ a g e h. omega (arith, g, h));
      long = λ h. let l = c.in_err-base.ensures.failed.long h in omega (arith, l);
    })

pub postfix::postfix-returns-clause-read : goal.postfix::postfix-returns-clause-read
unfolding grammar
postfix::postfix-returns-clause-read t c =
    if_ok (λ n. IsReadBy c.args.place.names Sort.expr (λ g. grammar g (suffixes c.args.place.inside (root c.in_ok-base.base.tree))) c.args.room (height (root c.in_ok-base.base.tree)) c.primary.new.tokens c.suffixes.new.tokens (root n.tree)) (λ n. IsReadBy c.args.place.names Sort.expr (λ g. grammar g (postfix c.args.place.inside)) c.args.room 0 c.args.tokens.now c.suffixes.new.tokens (root n.tree)) c.suffixes.result c.suffixes.ensures.read
    (λ n v. record {
      reads = λ g a. reads (c.in_ok-base.ensures.read.reads g a) (reads (v.reads g a) gives);
      fits = omega (arith, v.fits);
      tokens = omega (arith, v.tokens, c.in_ok-base.ensures.read.tokens);
    })

pub postfix::postfix-returns-clause-failed : goal.postfix::postfix-returns-clause-failed
unfolding grammar
postfix::postfix-returns-clause-failed t c =
    if_err (λ f. HasFailedBy c.args.place.names true Sort.expr (λ g. grammar g (suffixes c.args.place.inside (root c.in_ok-base.base.tree))) c.args.room (height (root c.in_ok-base.base.tree)) c.primary.new.tokens c.suffixes.new.tokens f) (λ f. HasFailedBy c.args.place.names true Sort.expr (λ g. grammar g (postfix c.args.place.inside)) c.args.room 0 c.args.tokens.now c.suffixes.new.tokens f) c.suffixes.result c.suffixes.ensures.failed
    (λ f w. record {
      fails = λ g b. then_fails (c.in_ok-base.ensures.read.reads g (told_admits _ c.args.place.names g b)) (phrase_fails (w.fails g b));
      stands = w.stands;
      deep = λ h g ok. then_deepens (c.in_ok-base.ensures.read.reads g ok) (phrase_deepens (w.deep h g ok) (λ e g. g));
      long = λ h. let l = w.long h in omega (arith, l, c.in_ok-base.ensures.read.tokens);
    })

pub postfix::suffixes-returns-then-take-clause-read : goal.postfix::suffixes-returns-then-take-clause-read
unfolding grammar
postfix::suffixes-returns-then-take-clause-read t c =
    if_ok (λ n. IsReadBy c.args.place.names Sort.expr (λ g. after_dot c.args.place.inside (root c.args.base.tree)) c.args.room (height (root c.args.base.tree) + 1) c.take.new.self c.after_dot.new.tokens (root n.tree)) (λ n. IsReadBy c.args.place.names Sort.expr (λ g. grammar g (suffixes c.args.place.inside (root c.args.base.tree))) c.args.room (height (root c.args.base.tree)) c.args.tokens.now c.after_dot.new.tokens (root n.tree)) c.after_dot.result c.after_dot.ensures.read
    (λ n v. record {
      reads = λ g a. took c.if-take.ensures refl (v.reads g a);
      fits = omega (arith, v.fits);
      tokens = omega (arith, v.tokens, c.if-take.ensures.at);
    })

pub postfix::suffixes-returns-then-take-clause-failed : goal.postfix::suffixes-returns-then-take-clause-failed
unfolding grammar
postfix::suffixes-returns-then-take-clause-failed t c =
    if_err (λ f. HasFailedBy c.args.place.names false Sort.expr (λ g. after_dot c.args.place.inside (root c.args.base.tree)) c.args.room (height (root c.args.base.tree) + 1) c.take.new.self c.after_dot.new.tokens f) (λ f. HasFailedBy c.args.place.names true Sort.expr (λ g. grammar g (suffixes c.args.place.inside (root c.args.base.tree))) c.args.room (height (root c.args.base.tree)) c.args.tokens.now c.after_dot.new.tokens f) c.after_dot.result c.after_dot.ensures.failed
    (λ f w. record {
      fails = λ g b. took_fails c.if-take.ensures refl (w.fails g b);
      stands = w.stands;
      deep = λ h g ok. took_deepens c.if-take.ensures refl (w.deep h g ok);
      long = λ h. let l = w.long h in omega (arith, l, c.if-take.ensures.at);
    })

pub postfix::suffixes-returns-then-take-2-clause-read : goal.postfix::suffixes-returns-then-take-2-clause-read
unfolding grammar
postfix::suffixes-returns-then-take-2-clause-read t c =
    if_ok (λ n. IsReadBy c.args.place.names Sort.expr (λ g. after_colon c.args.place.inside (root c.args.base.tree)) c.args.room (height (root c.args.base.tree) + 1) c.take-2.new.self c.after_colon.new.tokens (root n.tree)) (λ n. IsReadBy c.args.place.names Sort.expr (λ g. grammar g (suffixes c.args.place.inside (root c.args.base.tree))) c.args.room (height (root c.args.base.tree)) c.args.tokens.now c.after_colon.new.tokens (root n.tree)) c.after_colon.result c.after_colon.ensures.read
    (λ n v. record {
      reads = λ g a. stayed c.if-take.ensures (took c.if-take-2.ensures refl (v.reads g a));
      fits = omega (arith, v.fits);
      tokens = omega (arith, v.tokens, c.if-take.ensures.at, c.if-take-2.ensures.at);
    })

pub postfix::suffixes-returns-then-take-2-clause-failed : goal.postfix::suffixes-returns-then-take-2-clause-failed
unfolding grammar
postfix::suffixes-returns-then-take-2-clause-failed t c =
    if_err (λ f. HasFailedBy c.args.place.names false Sort.expr (λ g. after_colon c.args.place.inside (root c.args.base.tree)) c.args.room (height (root c.args.base.tree) + 1) c.take-2.new.self c.after_colon.new.tokens f) (λ f. HasFailedBy c.args.place.names true Sort.expr (λ g. grammar g (suffixes c.args.place.inside (root c.args.base.tree))) c.args.room (height (root c.args.base.tree)) c.args.tokens.now c.after_colon.new.tokens f) c.after_colon.result c.after_colon.ensures.failed
    (λ f w. record {
      fails = λ g b. stayed_fails c.if-take.ensures (took_fails c.if-take-2.ensures refl (w.fails g b));
      stands = w.stands;
      deep = λ h g ok. stayed_deepens c.if-take.ensures (took_deepens c.if-take-2.ensures refl (w.deep h g ok));
      long = λ h. let l = w.long h in omega (arith, l, c.if-take.ensures.at, c.if-take-2.ensures.at);
    })

pub postfix::suffixes-returns-then-take-3-clause-read : goal.postfix::suffixes-returns-then-take-3-clause-read
unfolding grammar
postfix::suffixes-returns-then-take-3-clause-read t c =
    if_ok (λ n. IsReadBy c.args.place.names Sort.expr (λ g. after_bracket c.args.place.inside (root c.args.base.tree)) c.args.room (height (root c.args.base.tree) + 1) c.take-3.new.self c.after_bracket.new.tokens (root n.tree)) (λ n. IsReadBy c.args.place.names Sort.expr (λ g. grammar g (suffixes c.args.place.inside (root c.args.base.tree))) c.args.room (height (root c.args.base.tree)) c.args.tokens.now c.after_bracket.new.tokens (root n.tree)) c.after_bracket.result c.after_bracket.ensures.read
    (λ n v. record {
      reads = λ g a. stayed c.if-take.ensures (stayed c.if-take-2.ensures (took c.if-take-3.ensures refl (v.reads g a)));
      fits = omega (arith, v.fits);
      tokens = omega (arith, v.tokens, c.if-take.ensures.at, c.if-take-2.ensures.at, c.if-take-3.ensures.at);
    })

pub postfix::suffixes-returns-then-take-3-clause-failed : goal.postfix::suffixes-returns-then-take-3-clause-failed
unfolding grammar
postfix::suffixes-returns-then-take-3-clause-failed t c =
    if_err (λ f. HasFailedBy c.args.place.names false Sort.expr (λ g. after_bracket c.args.place.inside (root c.args.base.tree)) c.args.room (height (root c.args.base.tree) + 1) c.take-3.new.self c.after_bracket.new.tokens f) (λ f. HasFailedBy c.args.place.names true Sort.expr (λ g. grammar g (suffixes c.args.place.inside (root c.args.base.tree))) c.args.room (height (root c.args.base.tree)) c.args.tokens.now c.after_bracket.new.tokens f) c.after_bracket.result c.after_bracket.ensures.failed
    (λ f w. record {
      fails = λ g b. stayed_fails c.if-take.ensures (stayed_fails c.if-take-2.ensures (took_fails c.if-take-3.ensures refl (w.fails g b)));
      stands = w.stands;
      deep = λ h g ok. stayed_deepens c.if-take.ensures (stayed_deepens c.if-take-2.ensures (took_deepens c.if-take-3.ensures refl (w.deep h g ok)));
      long = λ h. let l = w.long h in omega (arith, l, c.if-take.ensures.at, c.if-take-2.ensures.at, c.if-take-3.ensures.at);
    })

pub postfix::suffixes-returns-clause-read : goal.postfix::suffixes-returns-clause-read
unfolding grammar
postfix::suffixes-returns-clause-read t c =
    (record {
      reads = λ g a. stayed c.if-take.ensures (stayed c.if-take-2.ensures (stayed c.if-take-3.ensures gives));
      fits = omega (arith, c.args.base.in_step, c.requires);
      tokens = omega (arith, c.if-take.ensures.at, c.if-take-2.ensures.at, c.if-take-3.ensures.at, c.args.base.in_step, c.requires);
    })

pub postfix::after_dot-returns-in_err-room_beside-clause-failed : goal.postfix::after_dot-returns-in_err-room_beside-clause-failed
unfolding grammar
postfix::after_dot-returns-in_err-room_beside-clause-failed t c =
    let p = err_from_is_err_and c.from_residual.result c.from_residual.ensures.1 in
    passed _ p.1 p.2 (too_high c.in_err-room_beside.ensures.0 (λ g ok. meets_at_once (can_take (Name []) refl can_read) ((λ y e h. omega (arith, h, c.in_err-room_beside.ensures.1, c.args.base.in_step)), ((λ y b _. ((λ z e h. omega (arith, h, c.in_err-room_beside.ensures.1, c.args.base.in_step)), tt)), tt))) (omega (arith, c.in_err-room_beside.ensures.1, c.args.base.in_step, height_positive (root c.args.base.tree), c.requires)))

pub postfix::after_dot-returns-in_err-name-clause-failed : goal.postfix::after_dot-returns-in_err-name-clause-failed
unfolding grammar
postfix::after_dot-returns-in_err-name-clause-failed t c =
    let p = err_from_is_err_and c.from_residual-in_err-name.result c.from_residual-in_err-name.ensures.1 in
    passed _ p.1 p.2 (record {
      fails = c.in_err-name.ensures.failed.fails (λ b. phrase (suffixes c.args.place.inside (property (root c.args.base.tree) b)) λ e. give e);
      stands = c.in_err-name.ensures.failed.stands;
      deep = λ h g ok. at_any (c.in_err-name.ensures.failed.deep h g ok _ (λ b. phrase (suffixes c.args.place.inside (property (root c.args.base.tree) b)) λ e. give e) (λ b q us. meets_deep (λ e h. omega (arith, q, h, c.in_ok-room_beside.ensures.0))));
      long = λ h. let l = c.in_err-name.ensures.failed.long h in omega (arith, l, c.in_ok-room_beside.ensures.0, c.args.base.in_step, height_positive (root c.args.base.tree));
    })

pub postfix::after_dot-returns-in_err-base-clause-failed : goal.postfix::after_dot-returns-in_err-base-clause-failed
postfix::after_dot-returns-in_err-base-clause-failed t c =
    let p = err_from_is_err_and c.from_residual-in_err-base.result c.from_residual-in_err-base.ensures.1 in
    passed _ p.1 p.2 (not_made (property (root c.args.base.tree) (root c.in_ok-name.name.tree)) c.in_err-base.ensures (omega (arith, c.in_ok-room_beside.ensures.0, c.in_ok-room_beside.ensures.1, c.args.base.in_step, height_positive (root c.args.base.tree), c.in_ok-name.ensures.read.fits)))

pub postfix::after_dot-returns-clause-read : goal.postfix::after_dot-returns-clause-read
unfolding grammar
postfix::after_dot-returns-clause-read t c =
    if_ok (λ n. IsReadBy c.args.place.names Sort.expr (λ g. grammar g (suffixes c.args.place.inside (root c.in_ok-base.base.tree))) c.args.room (height (root c.in_ok-base.base.tree)) c.member_name.new.tokens c.suffixes.new.tokens (root n.tree)) (λ n. IsReadBy c.args.place.names Sort.expr (λ g. after_dot c.args.place.inside (root c.args.base.tree)) c.args.room (height (root c.args.base.tree) + 1) c.args.tokens.now c.suffixes.new.tokens (root n.tree)) c.suffixes.result c.suffixes.ensures.read
    (λ n v. record {
      reads = λ g a. (c.in_ok-name.ensures.read.leads (λ b. phrase (suffixes c.args.place.inside (property (root c.args.base.tree) b)) λ e. give e)).reads g a _ _ (reads (rw c.in_ok-base.ensures.0 at (v.reads g a)) gives);
      fits = v.fits;
      tokens = omega (arith, v.tokens, c.in_ok-name.ensures.read.tokens, height_positive (root c.in_ok-name.name.tree), c.in_ok-base.ensures.2, c.in_ok-base.base.in_step, c.args.base.in_step, height_positive (root c.args.base.tree));
    })

pub postfix::after_dot-returns-clause-failed : goal.postfix::after_dot-returns-clause-failed
unfolding grammar
postfix::after_dot-returns-clause-failed t c =
    if_err (λ f. HasFailedBy c.args.place.names true Sort.expr (λ g. grammar g (suffixes c.args.place.inside (root c.in_ok-base.base.tree))) c.args.room (height (root c.in_ok-base.base.tree)) c.member_name.new.tokens c.suffixes.new.tokens f) (λ f. HasFailedBy c.args.place.names false Sort.expr (λ g. after_dot c.args.place.inside (root c.args.base.tree)) c.args.room (height (root c.args.base.tree) + 1) c.args.tokens.now c.suffixes.new.tokens f) c.suffixes.result c.suffixes.ensures.failed
    (λ f w. record {
      fails = λ g b. (c.in_ok-name.ensures.read.leads (λ b. phrase (suffixes c.args.place.inside (property (root c.args.base.tree) b)) λ e. give e)).fails g (told_admits _ c.args.place.names g b) _ (phrase_fails (rw c.in_ok-base.ensures.0 at (w.fails g b)));
      stands = w.stands;
      deep = λ h g ok. at_any ((c.in_ok-name.ensures.read.leads (λ b. phrase (suffixes c.args.place.inside (property (root c.args.base.tree) b)) λ e. give e)).deep g ok _ _ (phrase_deepens (rw c.in_ok-base.ensures.0 at (w.deep h g ok)) (λ e g. g)));
      long = λ h. let l = w.long h in omega (arith, l, c.in_ok-name.ensures.read.tokens, height_positive (root c.in_ok-name.name.tree), c.in_ok-base.ensures.2, c.in_ok-base.base.in_step, c.args.base.in_step, height_positive (root c.args.base.tree));
    })

pub postfix::after_colon-returns-in_err-room_beside-clause-failed : goal.postfix::after_colon-returns-in_err-room_beside-clause-failed
unfolding grammar
postfix::after_colon-returns-in_err-room_beside-clause-failed t c =
    let p = err_from_is_err_and c.from_residual.result c.from_residual.ensures.1 in
    passed _ p.1 p.2 (too_high c.in_err-room_beside.ensures.0 (λ g ok. meets_at_once (can_take (Name []) refl (can_take (Sign LeftParen) refl can_read)) ((λ y. ((λ z xs _. ((λ w e h. omega (arith, h, c.in_err-room_beside.ensures.1, c.args.base.in_step)), tt)), tt)), ((λ y b _. ((λ z. ((λ w xs _. ((λ v e h. omega (arith, h, c.in_err-room_beside.ensures.1, c.args.base.in_step)), tt)), tt)), tt)), tt))) (omega (arith, c.in_err-room_beside.ensures.1, c.args.base.in_step, height_positive (root c.args.base.tree), c.requires)))

pub postfix::after_colon-returns-in_err-name-clause-failed : goal.postfix::after_colon-returns-in_err-name-clause-failed
unfolding grammar
postfix::after_colon-returns-in_err-name-clause-failed t c =
    let p = err_from_is_err_and c.from_residual-in_err-name.result c.from_residual-in_err-name.ensures.1 in
    passed _ p.1 p.2 (record {
      fails = c.in_err-name.ensures.failed.fails (λ b. verb_arguments c.args.place.inside (root c.args.base.tree) b);
      stands = c.in_err-name.ensures.failed.stands;
      deep = λ h g ok. at_any (c.in_err-name.ensures.failed.deep h g ok _ (λ b. verb_arguments c.args.place.inside (root c.args.base.tree) b) (λ b q us. meets_deep (((λ x xs _. ((λ y e h. omega (arith, q, h, c.in_ok-room_beside.ensures.0)), tt)), tt))));
      long = λ h. let l = c.in_err-name.ensures.failed.long h in omega (arith, l, c.in_ok-room_beside.ensures.0, c.args.base.in_step, height_positive (root c.args.base.tree));
    })

pub postfix::after_colon-returns-in_err-expect-clause-failed : goal.postfix::after_colon-returns-in_err-expect-clause-failed
unfolding grammar
postfix::after_colon-returns-in_err-expect-clause-failed t c =
    let p = err_from_is_err_and c.from_residual-in_err-expect.result c.from_residual-in_err-expect.ensures.1 in
    passed _ p.1 p.2 (refused c.in_err-expect.ensures.0 (λ g a. (c.in_ok-name.ensures.read.leads (λ b. verb_arguments c.args.place.inside (root c.args.base.tree) b)).fails g a _ (stayed_fails c.in_err-expect.ensures.1 refuses)))

pub postfix::after_colon-returns-in_err-members-clause-failed : goal.postfix::after_colon-returns-in_err-members-clause-failed
unfolding grammar
postfix::after_colon-returns-in_err-members-clause-failed t c =
    let p = err_from_is_err_and c.from_residual-in_err-members.result c.from_residual-in_err-members.ensures.1 in
    passed _ p.1 p.2 (record {
      fails = λ g b. (c.in_ok-name.ensures.read.leads (λ b. verb_arguments c.args.place.inside (root c.args.base.tree) b)).fails g (told_admits _ c.args.place.names g b) _ (took_fails c.in_ok-expect.ensures refl (phrase_fails (c.in_err-members.ensures.failed.fails g b)));
      stands = c.in_err-members.ensures.failed.stands;
      deep = λ h g ok. at_any ((c.in_ok-name.ensures.read.leads (λ b. verb_arguments c.args.place.inside (root c.args.base.tree) b)).deep g ok _ _ (took_deepens c.in_ok-expect.ensures refl (phrase_deepens (c.in_err-members.ensures.failed.deep h g ok) (λ xs q. ((λ y e h. omega (arith, q, h, c.in_ok-room_beside.ensures.0)), tt)))));
      long = λ h. let l = c.in_err-members.ensures.failed.long h in omega (arith, l, c.in_ok-name.ensures.read.tokens, height_positive (root c.in_ok-name.name.tree), c.in_ok-expect.ensures.at, c.in_ok-room_beside.ensures.0, c.args.base.in_step, height_positive (root c.args.base.tree));
    })

pub postfix::after_colon-returns-in_err-expect-2-clause-failed : goal.postfix::after_colon-returns-in_err-expect-2-clause-failed
unfolding grammar
postfix::after_colon-returns-in_err-expect-2-clause-failed t c =
    let p = err_from_is_err_and c.from_residual-in_err-expect-2.result c.from_residual-in_err-expect-2.ensures.1 in
    passed _ p.1 p.2 (refused c.in_err-expect-2.ensures.0 (λ g a. (c.in_ok-name.ensures.read.leads (λ b. verb_arguments c.args.place.inside (root c.args.base.tree) b)).fails g a _ (took_fails c.in_ok-expect.ensures refl (then_fails (c.in_ok-members.ensures.read.reads g a) (stayed_fails c.in_err-expect-2.ensures.1 refuses)))))

pub postfix::after_colon-returns-in_err-base-clause-failed : goal.postfix::after_colon-returns-in_err-base-clause-failed
postfix::after_colon-returns-in_err-base-clause-failed t c =
    let p = err_from_is_err_and c.from_residual-in_err-base.result c.from_residual-in_err-base.ensures.1 in
    passed _ p.1 p.2 (not_made (tree.verb_call (root c.args.base.tree) (root c.in_ok-name.name.tree) (row_of c.in_ok-items.items.value)) c.in_err-base.ensures (omega (arith, c.in_ok-room_beside.ensures.0, c.in_ok-room_beside.ensures.1, c.args.base.in_step, height_positive (root c.args.base.tree), c.in_ok-name.ensures.read.fits, c.in_ok-members.ensures.read.fits, ap items_height (row_items c.in_ok-items.items.value ∙ ap (λ v. items_of v.items) c.in_ok-items.ensures.ok))))

pub postfix::after_colon-returns-clause-read : goal.postfix::after_colon-returns-clause-read
unfolding grammar
postfix::after_colon-returns-clause-read t c =
    if_ok (λ n. IsReadBy c.args.place.names Sort.expr (λ g. grammar g (suffixes c.args.place.inside (root c.in_ok-base.base.tree))) c.args.room (height (root c.in_ok-base.base.tree)) c.expect-2.new.self c.suffixes.new.tokens (root n.tree)) (λ n. IsReadBy c.args.place.names Sort.expr (λ g. after_colon c.args.place.inside (root c.args.base.tree)) c.args.room (height (root c.args.base.tree) + 1) c.args.tokens.now c.suffixes.new.tokens (root n.tree)) c.suffixes.result c.suffixes.ensures.read
    (λ n v. record {
      reads = λ g a. (c.in_ok-name.ensures.read.leads (λ b. verb_arguments c.args.place.inside (root c.args.base.tree) b)).reads g a _ _ (took c.in_ok-expect.ensures refl (reads (c.in_ok-members.ensures.read.reads g a) (took c.in_ok-expect-2.ensures refl (reads (rw (c.in_ok-base.ensures.0, row_items c.in_ok-items.items.value, c.in_ok-items.ensures.ok) at (v.reads g a)) gives))));
      fits = v.fits;
      tokens = omega (arith, v.tokens, c.in_ok-name.ensures.read.tokens, height_positive (root c.in_ok-name.name.tree), c.in_ok-expect.ensures.at, c.in_ok-members.ensures.read.tokens, c.in_ok-expect-2.ensures.at, c.in_ok-base.ensures.2, c.in_ok-base.base.in_step, c.args.base.in_step, height_positive (root c.args.base.tree), ap items_height (row_items c.in_ok-items.items.value ∙ ap (λ v. items_of v.items) c.in_ok-items.ensures.ok));
    })

pub postfix::after_colon-returns-clause-failed : goal.postfix::after_colon-returns-clause-failed
unfolding grammar
postfix::after_colon-returns-clause-failed t c =
    if_err (λ f. HasFailedBy c.args.place.names true Sort.expr (λ g. grammar g (suffixes c.args.place.inside (root c.in_ok-base.base.tree))) c.args.room (height (root c.in_ok-base.base.tree)) c.expect-2.new.self c.suffixes.new.tokens f) (λ f. HasFailedBy c.args.place.names false Sort.expr (λ g. after_colon c.args.place.inside (root c.args.base.tree)) c.args.room (height (root c.args.base.tree) + 1) c.args.tokens.now c.suffixes.new.tokens f) c.suffixes.result c.suffixes.ensures.failed
    (λ f w. record {
      fails = λ g b. (c.in_ok-name.ensures.read.leads (λ b. verb_arguments c.args.place.inside (root c.args.base.tree) b)).fails g (told_admits _ c.args.place.names g b) _ (took_fails c.in_ok-expect.ensures refl (then_fails (c.in_ok-members.ensures.read.reads g (told_admits _ c.args.place.names g b)) (took_fails c.in_ok-expect-2.ensures refl (phrase_fails (rw (c.in_ok-base.ensures.0, row_items c.in_ok-items.items.value, c.in_ok-items.ensures.ok) at (w.fails g b))))));
      stands = w.stands;
      deep = λ h g ok. at_any ((c.in_ok-name.ensures.read.leads (λ b. verb_arguments c.args.place.inside (root c.args.base.tree) b)).deep g ok _ _ (took_deepens c.in_ok-expect.ensures refl (then_deepens (c.in_ok-members.ensures.read.reads g ok) (took_deepens c.in_ok-expect-2.ensures refl (phrase_deepens (rw (c.in_ok-base.ensures.0, row_items c.in_ok-items.items.value, c.in_ok-items.ensures.ok) at (w.deep h g ok)) (λ e g. g))))));
      long = λ h. let l = w.long h in omega (arith, l, c.in_ok-name.ensures.read.tokens, height_positive (root c.in_ok-name.name.tree), c.in_ok-expect.ensures.at, c.in_ok-members.ensures.read.tokens, c.in_ok-expect-2.ensures.at, c.in_ok-base.ensures.2, c.in_ok-base.base.in_step, c.args.base.in_step, height_positive (root c.args.base.tree), ap items_height (row_items c.in_ok-items.items.value ∙ ap (λ v. items_of v.items) c.in_ok-items.ensures.ok));
    })

pub postfix::after_colon-node_over-requires : goal.postfix::after_colon-node_over-requires
postfix::after_colon-node_over-requires t c =
    omega (arith, ap items_height (row_items c.in_ok-items.items.value ∙ ap (λ v. items_of v.items) c.in_ok-items.ensures.ok), c.in_ok-members.members.in_step, c.args.base.in_step, c.in_ok-name.name.in_step)

pub postfix::member_name-returns-in_err-name-clause-failed : goal.postfix::member_name-returns-in_err-name-clause-failed
postfix::member_name-returns-in_err-name-clause-failed t c =
    let p = err_from_is_err_and c.from_residual.result c.from_residual.ensures.1 in
    passed _ p.1 p.2 (unnamed_memory c.in_err-name.ensures.0)

pub postfix::member_name-returns-in-Some-clause-failed : goal.postfix::member_name-returns-in-Some-clause-failed
postfix::member_name-returns-in-Some-clause-failed t c =
    unmade_constant c.args.place.names c.args.place.inside c.args.room c.args.tokens.now c.take_name.new.self (literal.Str c.in-Some.name) c.name_constant.result c.name_constant.ensures

pub postfix::member_name-returns-in-Some-clause-read : goal.postfix::member_name-returns-in-Some-clause-read
unfolding grammar
postfix::member_name-returns-in-Some-clause-read t c =
    let k = rw c.in-Some.is at c.in_ok-name.ensures in
    if_constant (λ e. IsNamed c.args.place.names c.args.place.inside c.args.room c.args.tokens.now c.take_name.new.self e) (literal.Str c.in-Some.name) c.name_constant.result c.name_constant.ensures (record {
      leads = λ m. record {
        reads = λ g a e u d. took k refl d;
        fails = λ g a u d. took_fails k refl d;
        deep = λ g ok n r d. took_deepens k refl d;
      };
      fits = omega arith;
      tokens = omega (arith, k.at);
    })

pub postfix::member_name-returns-in_err-expect-clause-failed : goal.postfix::member_name-returns-in_err-expect-clause-failed
postfix::member_name-returns-in_err-expect-clause-failed t c =
    let p = err_from_is_err_and c.from_residual-in_err-expect.result c.from_residual-in_err-expect.ensures.1 in
    let nn = none_of (Stays (λ x. is_some (name_at x)) c.args.tokens.now c.take_name.new.self) (λ s. Takes (Name s) c.args.tokens.now c.take_name.new.self) _ c.in_default.not-Some c.in_ok-name.ensures in
    let e = c.in_err-expect.ensures in
    passed _ p.1 p.2 (unnamed_refused e.0 (λ k g a. stayed_fails nn (stayed_fails e.1 refuses)))

pub postfix::member_name-returns-in_err-name-2-clause-failed : goal.postfix::member_name-returns-in_err-name-2-clause-failed
postfix::member_name-returns-in_err-name-2-clause-failed t c =
    let p = err_from_is_err_and c.from_residual-in_err-name-2.result c.from_residual-in_err-name-2.ensures.1 in
    let nn = none_of (Stays (λ x. is_some (name_at x)) c.args.tokens.now c.take_name.new.self) (λ s. Takes (Name s) c.args.tokens.now c.take_name.new.self) _ c.in_default.not-Some c.in_ok-name.ensures in
    let w = c.in_err-name-2.ensures.failed in
    passed _ p.1 p.2 (record {
      fails = λ k g b. stayed_fails nn (took_fails c.in_ok-expect.ensures refl (phrase_fails (w.fails g b)));
      stands = w.stands;
      deep = λ h g ok n k keeps. stayed_deepens nn (took_deepens c.in_ok-expect.ensures refl (inner_deepens (w.deep h g ok) (λ b q us. expect_deep (keeps b q) us)));
      long = λ h. let l = w.long h in omega (arith, l, nn.at, c.in_ok-expect.ensures.at);
    })

pub postfix::member_name-returns-in_err-expect-2-clause-failed : goal.postfix::member_name-returns-in_err-expect-2-clause-failed
postfix::member_name-returns-in_err-expect-2-clause-failed t c =
    let p = err_from_is_err_and c.from_residual-in_err-expect-2.result c.from_residual-in_err-expect-2.ensures.1 in
    let nn = none_of (Stays (λ x. is_some (name_at x)) c.args.tokens.now c.take_name.new.self) (λ s. Takes (Name s) c.args.tokens.now c.take_name.new.self) _ c.in_default.not-Some c.in_ok-name.ensures in
    let e = c.in_err-expect-2.ensures in
    passed _ p.1 p.2 (unnamed_refused e.0 (λ k g a. stayed_fails nn (took_fails c.in_ok-expect.ensures refl (then_fails (c.in_ok-name-2.ensures.read.reads g a) (stayed_fails e.1 refuses)))))

pub postfix::member_name-returns-clause-read : goal.postfix::member_name-returns-clause-read
postfix::member_name-returns-clause-read t c =
    let nn = none_of (Stays (λ x. is_some (name_at x)) c.args.tokens.now c.take_name.new.self) (λ s. Takes (Name s) c.args.tokens.now c.take_name.new.self) _ c.in_default.not-Some c.in_ok-name.ensures in
    let v = c.in_ok-name-2.ensures.read in
    record {
      leads = λ k. record {
        reads = λ g a e u d. stayed nn (took c.in_ok-expect.ensures refl (reads (v.reads g a) (took c.in_ok-expect-2.ensures refl d)));
        fails = λ g a u d. stayed_fails nn (took_fails c.in_ok-expect.ensures refl (then_fails (v.reads g a) (took_fails c.in_ok-expect-2.ensures refl d)));
        deep = λ g ok n r d. stayed_deepens nn (took_deepens c.in_ok-expect.ensures refl (then_deepens (v.reads g ok) (took_deepens c.in_ok-expect-2.ensures refl d)));
      };
      fits = omega (arith, v.fits);
      tokens = omega (arith, v.tokens, nn.at, c.in_ok-expect.ensures.at, c.in_ok-expect-2.ensures.at);
    }

pub postfix::after_bracket-returns-in_err-room_beside-clause-failed : goal.postfix::after_bracket-returns-in_err-room_beside-clause-failed
unfolding grammar
postfix::after_bracket-returns-in_err-room_beside-clause-failed t c =
    let p = err_from_is_err_and c.from_residual.result c.from_residual.ensures.1 in
    passed _ p.1 p.2 (too_high c.in_err-room_beside.ensures.0 (λ g ok. meets_at_once can_read (λ b _. ((λ y d _. ((λ z e h. omega (arith, h, c.in_err-room_beside.ensures.1, c.args.base.in_step)), tt)), ((λ z e h. omega (arith, h, c.in_err-room_beside.ensures.1, c.args.base.in_step)), tt)))) (omega (arith, c.in_err-room_beside.ensures.1, c.args.base.in_step, height_positive (root c.args.base.tree), c.requires)))

pub postfix::after_bracket-returns-in_err-low-clause-failed : goal.postfix::after_bracket-returns-in_err-low-clause-failed
unfolding grammar
postfix::after_bracket-returns-in_err-low-clause-failed t c =
    let p = err_from_is_err_and c.from_residual-in_err-low.result c.from_residual-in_err-low.ensures.1 in
    passed _ p.1 p.2 (record {
      fails = λ g b. phrase_fails (c.in_err-low.ensures.failed.fails g b);
      stands = c.in_err-low.ensures.failed.stands;
      deep = λ h g ok. at_any (phrase_deepens (c.in_err-low.ensures.failed.deep h g ok) (λ b g. ((λ x d _. ((λ y e h. omega (arith, g, h, c.in_ok-room_beside.ensures.0)), tt)), ((λ y e h. omega (arith, g, h, c.in_ok-room_beside.ensures.0)), tt))));
      long = λ h. let l = c.in_err-low.ensures.failed.long h in omega (arith, l, c.in_ok-room_beside.ensures.0, c.args.base.in_step, height_positive (root c.args.base.tree));
    })

pub postfix::after_bracket-returns-in_err-high-clause-failed : goal.postfix::after_bracket-returns-in_err-high-clause-failed
unfolding grammar
postfix::after_bracket-returns-in_err-high-clause-failed t c =
    let p = err_from_is_err_and c.from_residual-in_err-high.result c.from_residual-in_err-high.ensures.1 in
    passed _ p.1 p.2 (record {
      fails = λ g b. then_fails (c.in_ok-low.ensures.read.reads g (told_admits _ c.args.place.names g b)) (took_fails c.if-take.ensures refl (phrase_fails (c.in_err-high.ensures.failed.fails g b)));
      stands = c.in_err-high.ensures.failed.stands;
      deep = λ h g ok. at_any (then_deepens (c.in_ok-low.ensures.read.reads g ok) (took_deepens c.if-take.ensures refl (phrase_deepens (c.in_err-high.ensures.failed.deep h g ok) (λ d g. ((λ y e h. omega (arith, g, h, c.in_ok-room_beside.ensures.0)), tt)))));
      long = λ h. let l = c.in_err-high.ensures.failed.long h in omega (arith, l, c.in_ok-low.ensures.read.tokens, c.if-take.ensures.at, c.in_ok-room_beside.ensures.0, c.args.base.in_step, height_positive (root c.args.base.tree));
    })

pub postfix::after_bracket-returns-in_err-expect-clause-failed : goal.postfix::after_bracket-returns-in_err-expect-clause-failed
unfolding grammar
postfix::after_bracket-returns-in_err-expect-clause-failed t c =
    let p = err_from_is_err_and c.from_residual-in_err-expect.result c.from_residual-in_err-expect.ensures.1 in
    passed _ p.1 p.2 (refused c.in_err-expect.ensures.0 (λ g a. then_fails (c.in_ok-low.ensures.read.reads g a) (took_fails c.if-take.ensures refl (then_fails (c.in_ok-high.ensures.read.reads g a) (stayed_fails c.in_err-expect.ensures.1 refuses)))))

pub postfix::after_bracket-returns-in_err-base-clause-failed : goal.postfix::after_bracket-returns-in_err-base-clause-failed
postfix::after_bracket-returns-in_err-base-clause-failed t c =
    let p = err_from_is_err_and c.from_residual-in_err-base.result c.from_residual-in_err-base.ensures.1 in
    passed _ p.1 p.2 (not_made (tree.range (root c.args.base.tree) (root c.in_ok-low.low.tree) (root c.in_ok-high.high.tree)) c.in_err-base.ensures (omega (arith, c.in_ok-room_beside.ensures.0, c.in_ok-room_beside.ensures.1, c.args.base.in_step, c.in_ok-low.ensures.read.fits, c.in_ok-high.ensures.read.fits)))

pub postfix::after_bracket-returns-then-take-clause-read : goal.postfix::after_bracket-returns-then-take-clause-read
unfolding grammar
postfix::after_bracket-returns-then-take-clause-read t c =
    if_ok (λ n. IsReadBy c.args.place.names Sort.expr (λ g. grammar g (suffixes c.args.place.inside (root c.in_ok-base.base.tree))) c.args.room (height (root c.in_ok-base.base.tree)) c.expect.new.self c.suffixes.new.tokens (root n.tree)) (λ n. IsReadBy c.args.place.names Sort.expr (λ g. after_bracket c.args.place.inside (root c.args.base.tree)) c.args.room (height (root c.args.base.tree) + 1) c.args.tokens.now c.suffixes.new.tokens (root n.tree)) c.suffixes.result c.suffixes.ensures.read
    (λ n v. record {
      reads = λ g a. reads (c.in_ok-low.ensures.read.reads g a) (took c.if-take.ensures refl (reads (c.in_ok-high.ensures.read.reads g a) (took c.in_ok-expect.ensures refl (reads (rw c.in_ok-base.ensures.0 at (v.reads g a)) gives))));
      fits = v.fits;
      tokens = omega (arith, v.tokens, c.in_ok-low.ensures.read.tokens, c.if-take.ensures.at, c.in_ok-high.ensures.read.tokens, c.in_ok-expect.ensures.at, c.in_ok-base.ensures.2, c.in_ok-base.base.in_step, c.args.base.in_step, height_positive (root c.args.base.tree));
    })

pub postfix::after_bracket-returns-then-take-clause-failed : goal.postfix::after_bracket-returns-then-take-clause-failed
unfolding grammar
postfix::after_bracket-returns-then-take-clause-failed t c =
    if_err (λ f. HasFailedBy c.args.place.names true Sort.expr (λ g. grammar g (suffixes c.args.place.inside (root c.in_ok-base.base.tree))) c.args.room (height (root c.in_ok-base.base.tree)) c.expect.new.self c.suffixes.new.tokens f) (λ f. HasFailedBy c.args.place.names false Sort.expr (λ g. after_bracket c.args.place.inside (root c.args.base.tree)) c.args.room (height (root c.args.base.tree) + 1) c.args.tokens.now c.suffixes.new.tokens f) c.suffixes.result c.suffixes.ensures.failed
    (λ f w. record {
      fails = λ g b. then_fails (c.in_ok-low.ensures.read.reads g (told_admits _ c.args.place.names g b)) (took_fails c.if-take.ensures refl (then_fails (c.in_ok-high.ensures.read.reads g (told_admits _ c.args.place.names g b)) (took_fails c.in_ok-expect.ensures refl (phrase_fails (rw c.in_ok-base.ensures.0 at (w.fails g b))))));
      stands = w.stands;
      deep = λ h g ok. at_any (then_deepens (c.in_ok-low.ensures.read.reads g ok) (took_deepens c.if-take.ensures refl (then_deepens (c.in_ok-high.ensures.read.reads g ok) (took_deepens c.in_ok-expect.ensures refl (phrase_deepens (rw c.in_ok-base.ensures.0 at (w.deep h g ok)) (λ e g. g))))));
      long = λ h. let l = w.long h in omega (arith, l, c.in_ok-low.ensures.read.tokens, c.if-take.ensures.at, c.in_ok-high.ensures.read.tokens, c.in_ok-expect.ensures.at, c.in_ok-base.ensures.2, c.in_ok-base.base.in_step, c.args.base.in_step, height_positive (root c.args.base.tree));
    })

pub postfix::after_bracket-returns-in_err-expect-2-clause-failed : goal.postfix::after_bracket-returns-in_err-expect-2-clause-failed
unfolding grammar
postfix::after_bracket-returns-in_err-expect-2-clause-failed t c =
    let p = err_from_is_err_and c.from_residual-in_err-expect-2.result c.from_residual-in_err-expect-2.ensures.1 in
    passed _ p.1 p.2 (refused c.in_err-expect-2.ensures.0 (λ g a. then_fails (c.in_ok-low.ensures.read.reads g a) (stayed_fails c.if-take.ensures (stayed_fails c.in_err-expect-2.ensures.1 refuses))))

pub postfix::after_bracket-returns-in_err-base-2-clause-failed : goal.postfix::after_bracket-returns-in_err-base-2-clause-failed
postfix::after_bracket-returns-in_err-base-2-clause-failed t c =
    let p = err_from_is_err_and c.from_residual-in_err-base-2.result c.from_residual-in_err-base-2.ensures.1 in
    passed _ p.1 p.2 (not_made (tree.index (root c.args.base.tree) (root c.in_ok-low.low.tree)) c.in_err-base-2.ensures (omega (arith, c.in_ok-room_beside.ensures.0, c.in_ok-room_beside.ensures.1, c.args.base.in_step, c.in_ok-low.ensures.read.fits)))

pub postfix::after_bracket-returns-clause-read : goal.postfix::after_bracket-returns-clause-read
unfolding grammar
postfix::after_bracket-returns-clause-read t c =
    if_ok (λ n. IsReadBy c.args.place.names Sort.expr (λ g. grammar g (suffixes c.args.place.inside (root c.in_ok-base-2.base.tree))) c.args.room (height (root c.in_ok-base-2.base.tree)) c.expect-2.new.self c.suffixes-2.new.tokens (root n.tree)) (λ n. IsReadBy c.args.place.names Sort.expr (λ g. after_bracket c.args.place.inside (root c.args.base.tree)) c.args.room (height (root c.args.base.tree) + 1) c.args.tokens.now c.suffixes-2.new.tokens (root n.tree)) c.suffixes-2.result c.suffixes-2.ensures.read
    (λ n v. record {
      reads = λ g a. reads (c.in_ok-low.ensures.read.reads g a) (stayed c.if-take.ensures (took c.in_ok-expect-2.ensures refl (reads (rw c.in_ok-base-2.ensures.0 at (v.reads g a)) gives)));
      fits = v.fits;
      tokens = omega (arith, v.tokens, c.in_ok-low.ensures.read.tokens, c.if-take.ensures.at, c.in_ok-expect-2.ensures.at, c.in_ok-base-2.ensures.2, c.in_ok-base-2.base.in_step, c.args.base.in_step, height_positive (root c.args.base.tree));
    })

pub postfix::after_bracket-returns-clause-failed : goal.postfix::after_bracket-returns-clause-failed
unfolding grammar
postfix::after_bracket-returns-clause-failed t c =
    if_err (λ f. HasFailedBy c.args.place.names true Sort.expr (λ g. grammar g (suffixes c.args.place.inside (root c.in_ok-base-2.base.tree))) c.args.room (height (root c.in_ok-base-2.base.tree)) c.expect-2.new.self c.suffixes-2.new.tokens f) (λ f. HasFailedBy c.args.place.names false Sort.expr (λ g. after_bracket c.args.place.inside (root c.args.base.tree)) c.args.room (height (root c.args.base.tree) + 1) c.args.tokens.now c.suffixes-2.new.tokens f) c.suffixes-2.result c.suffixes-2.ensures.failed
    (λ f w. record {
      fails = λ g b. then_fails (c.in_ok-low.ensures.read.reads g (told_admits _ c.args.place.names g b)) (stayed_fails c.if-take.ensures (took_fails c.in_ok-expect-2.ensures refl (phrase_fails (rw c.in_ok-base-2.ensures.0 at (w.fails g b)))));
      stands = w.stands;
      deep = λ h g ok. at_any (then_deepens (c.in_ok-low.ensures.read.reads g ok) (stayed_deepens c.if-take.ensures (took_deepens c.in_ok-expect-2.ensures refl (phrase_deepens (rw c.in_ok-base-2.ensures.0 at (w.deep h g ok)) (λ e g. g)))));
      long = λ h. let l = w.long h in omega (arith, l, c.in_ok-low.ensures.read.tokens, c.if-take.ensures.at, c.in_ok-expect-2.ensures.at, c.in_ok-base-2.ensures.2, c.in_ok-base-2.base.in_step, c.args.base.in_step, height_positive (root c.args.base.tree));
    })

pub primary::primary-returns-in_err-literal-clause-failed : goal.primary::primary-returns-in_err-literal-clause-failed
unfolding grammar
primary::primary-returns-in_err-literal-clause-failed t c =
    let p = err_from_is_err_and c.from_residual.result c.from_residual.ensures.1 in
    passed _ p.1 p.2 (no_memory c.in_err-literal.ensures.0)

pub primary::primary-returns-in-Some-clause-read : goal.primary::primary-returns-in-Some-clause-read
unfolding grammar
primary::primary-returns-in-Some-clause-read t c =
    let k = rw c.in-Some.is at c.in_ok-literal.ensures in
    made c.args.place.names (λ g. grammar g (primary c.args.place.inside)) c.args.room 0 c.args.tokens.now c.take_literal.new.self (tree.literal c.in-Some.literal) c.node_over.result c.node_over.ensures (λ g a. took k.2 (ap is_some k.1) (rw k.1 gives)) (omega (arith, k.2.at))

pub primary::primary-returns-in-Some-clause-failed : goal.primary::primary-returns-in-Some-clause-failed
unfolding grammar
primary::primary-returns-in-Some-clause-failed t c =
    let k = rw c.in-Some.is at c.in_ok-literal.ensures in
    no_leaf c.args.place.names true (λ g. grammar g (primary c.args.place.inside)) c.args.room 0 c.args.tokens.now c.take_literal.new.self (tree.literal c.in-Some.literal) c.node_over.result c.node_over.ensures
    (λ high g ok. took_deepens {b = false} k.2 (ap is_some k.1) (rw k.1 (meets_at_once can_give high)))
    (λ high. omega (arith, high, k.2.at))

pub primary::primary-returns-in_err-name-clause-failed : goal.primary::primary-returns-in_err-name-clause-failed
unfolding grammar
primary::primary-returns-in_err-name-clause-failed t c =
    let p = err_from_is_err_and c.from_residual-in_err-name.result c.from_residual-in_err-name.ensures.1 in
    passed _ p.1 p.2 (no_memory c.in_err-name.ensures.0)

pub primary::primary-returns-in-Some-2-clause-read : goal.primary::primary-returns-in-Some-2-clause-read
unfolding grammar
primary::primary-returns-in-Some-2-clause-read t c =
    let no_literal = none_of (Stays (λ x. is_some (literal_at x)) c.args.tokens.now c.take_literal.new.self) (λ l. TakesLiteral l c.args.tokens.now c.take_literal.new.self) _ c.in_default.not-Some c.in_ok-literal.ensures in
    let k = rw c.in-Some-2.is at c.in_ok-name.ensures in
    if_ok (λ n. IsReadBy c.args.place.names Sort.expr (λ g. named g c.args.place.inside c.in-Some-2.name) c.args.room 1 c.take_name.new.self c.named.new.tokens (root n.tree)) (λ n. IsReadBy c.args.place.names Sort.expr (λ g. grammar g (primary c.args.place.inside)) c.args.room 0 c.args.tokens.now c.named.new.tokens (root n.tree)) c.named.result c.named.ensures.read
    (λ n v. record {
      reads = λ g a. stayed no_literal (took k refl (v.reads g a));
      fits = omega (arith, v.fits);
      tokens = omega (arith, v.tokens, no_literal.at, k.at);
    })

pub primary::primary-returns-in-Some-2-clause-failed : goal.primary::primary-returns-in-Some-2-clause-failed
unfolding grammar
primary::primary-returns-in-Some-2-clause-failed t c =
    let no_literal = none_of (Stays (λ x. is_some (literal_at x)) c.args.tokens.now c.take_literal.new.self) (λ l. TakesLiteral l c.args.tokens.now c.take_literal.new.self) _ c.in_default.not-Some c.in_ok-literal.ensures in
    let k = rw c.in-Some-2.is at c.in_ok-name.ensures in
    if_err (λ f. HasFailedBy c.args.place.names false Sort.expr (λ g. named g c.args.place.inside c.in-Some-2.name) c.args.room 1 c.take_name.new.self c.named.new.tokens f) (λ f. HasFailedBy c.args.place.names true Sort.expr (λ g. grammar g (primary c.args.place.inside)) c.args.room 0 c.args.tokens.now c.named.new.tokens f) c.named.result c.named.ensures.failed
    (λ f w. record {
      fails = λ g b. stayed_fails no_literal (took_fails k refl (w.fails g b));
      stands = w.stands;
      deep = λ h g ok. stayed_deepens no_literal (took_deepens k refl (w.deep h g ok));
      long = λ h. let l = w.long h in omega (arith, l, no_literal.at, k.at);
    })

pub primary::primary-named-requires : goal.primary::primary-named-requires
primary::primary-named-requires t c =
    (search rules, (c.take_literal.new.self, rw c.in-Some-2.is at c.in_ok-name.ensures))

pub primary::primary-returns-in_err-inner-clause-failed : goal.primary::primary-returns-in_err-inner-clause-failed
unfolding grammar
primary::primary-returns-in_err-inner-clause-failed t c =
    let p = err_from_is_err_and c.from_residual-in_err-inner.result c.from_residual-in_err-inner.ensures.1 in
    let no_literal = none_of (Stays (λ x. is_some (literal_at x)) c.args.tokens.now c.take_literal.new.self) (λ l. TakesLiteral l c.args.tokens.now c.take_literal.new.self) _ c.in_default.not-Some c.in_ok-literal.ensures in
    let no_name = none_of (Stays (λ x. is_some (name_at x)) c.take_literal.new.self c.take_name.new.self) (λ s. Takes (Name s) c.take_literal.new.self c.take_name.new.self) _ c.in_default-2.not-Some c.in_ok-name.ensures in
    passed _ p.1 p.2 (record {
      fails = λ g b. stayed_fails no_literal (stayed_fails no_name (took_fails c.if-take.ensures refl (phrase_fails (c.in_err-inner.ensures.failed.fails g b))));
      stands = c.in_err-inner.ensures.failed.stands;
      deep = λ h g ok. stayed_deepens no_literal (stayed_deepens no_name (took_deepens c.if-take.ensures refl (phrase_deepens (c.in_err-inner.ensures.failed.deep h g ok) (λ a g. ((λ y. g), tt)))));
      long = λ h. let l = c.in_err-inner.ensures.failed.long h in omega (arith, l, no_literal.at, no_name.at, c.if-take.ensures.at);
    })

pub primary::primary-returns-in_err-expect-clause-failed : goal.primary::primary-returns-in_err-expect-clause-failed
unfolding grammar
primary::primary-returns-in_err-expect-clause-failed t c =
    let p = err_from_is_err_and c.from_residual-in_err-expect.result c.from_residual-in_err-expect.ensures.1 in
    let no_literal = none_of (Stays (λ x. is_some (literal_at x)) c.args.tokens.now c.take_literal.new.self) (λ l. TakesLiteral l c.args.tokens.now c.take_literal.new.self) _ c.in_default.not-Some c.in_ok-literal.ensures in
    let no_name = none_of (Stays (λ x. is_some (name_at x)) c.take_literal.new.self c.take_name.new.self) (λ s. Takes (Name s) c.take_literal.new.self c.take_name.new.self) _ c.in_default-2.not-Some c.in_ok-name.ensures in
    passed _ p.1 p.2 (refused c.in_err-expect.ensures.0 (λ g a. stayed_fails no_literal (stayed_fails no_name (took_fails c.if-take.ensures refl (then_fails (c.in_ok-inner.ensures.read.reads g a) (stayed_fails c.in_err-expect.ensures.1 refuses))))))

pub primary::primary-returns-then-take-clause-read : goal.primary::primary-returns-then-take-clause-read
unfolding grammar
primary::primary-returns-then-take-clause-read t c =
    let no_literal = none_of (Stays (λ x. is_some (literal_at x)) c.args.tokens.now c.take_literal.new.self) (λ l. TakesLiteral l c.args.tokens.now c.take_literal.new.self) _ c.in_default.not-Some c.in_ok-literal.ensures in
    let no_name = none_of (Stays (λ x. is_some (name_at x)) c.take_literal.new.self c.take_name.new.self) (λ s. Takes (Name s) c.take_literal.new.self c.take_name.new.self) _ c.in_default-2.not-Some c.in_ok-name.ensures in
    (record {
      reads = λ g a. stayed no_literal (stayed no_name (took c.if-take.ensures refl (reads (c.in_ok-inner.ensures.read.reads g a) (took c.in_ok-expect.ensures refl gives))));
      fits = omega (arith, c.in_ok-inner.ensures.read.fits);
      tokens = omega (arith, no_literal.at, no_name.at, c.if-take.ensures.at, c.in_ok-inner.ensures.read.tokens, c.in_ok-expect.ensures.at, c.in_ok-inner.ensures.read.fits);
    })

pub primary::primary-returns-clause-read : goal.primary::primary-returns-clause-read
unfolding grammar
primary::primary-returns-clause-read t c =
    let no_literal = none_of (Stays (λ x. is_some (literal_at x)) c.args.tokens.now c.take_literal.new.self) (λ l. TakesLiteral l c.args.tokens.now c.take_literal.new.self) _ c.in_default.not-Some c.in_ok-literal.ensures in
    let no_name = none_of (Stays (λ x. is_some (name_at x)) c.take_literal.new.self c.take_name.new.self) (λ s. Takes (Name s) c.take_literal.new.self c.take_name.new.self) _ c.in_default-2.not-Some c.in_ok-name.ensures in
    if_ok (λ n. IsReadBy c.args.place.names Sort.expr (λ g. braced c.args.place.inside) c.args.room 0 c.take.new.self c.braced.new.tokens (root n.tree)) (λ n. IsReadBy c.args.place.names Sort.expr (λ g. grammar g (primary c.args.place.inside)) c.args.room 0 c.args.tokens.now c.braced.new.tokens (root n.tree)) c.braced.result c.braced.ensures.read
    (λ n v. record {
      reads = λ g a. stayed no_literal (stayed no_name (stayed c.if-take.ensures (v.reads g a)));
      fits = omega (arith, v.fits);
      tokens = omega (arith, v.tokens, no_literal.at, no_name.at, c.if-take.ensures.at);
    })

pub primary::primary-returns-clause-failed : goal.primary::primary-returns-clause-failed
unfolding grammar
primary::primary-returns-clause-failed t c =
    let no_literal = none_of (Stays (λ x. is_some (literal_at x)) c.args.tokens.now c.take_literal.new.self) (λ l. TakesLiteral l c.args.tokens.now c.take_literal.new.self) _ c.in_default.not-Some c.in_ok-literal.ensures in
    let no_name = none_of (Stays (λ x. is_some (name_at x)) c.take_literal.new.self c.take_name.new.self) (λ s. Takes (Name s) c.take_literal.new.self c.take_name.new.self) _ c.in_default-2.not-Some c.in_ok-name.ensures in
    if_err (λ f. HasFailedBy c.args.place.names true Sort.expr (λ g. braced c.args.place.inside) c.args.room 0 c.take.new.self c.braced.new.tokens f) (λ f. HasFailedBy c.args.place.names true Sort.expr (λ g. grammar g (primary c.args.place.inside)) c.args.room 0 c.args.tokens.now c.braced.new.tokens f) c.braced.result c.braced.ensures.failed
    (λ f w. record {
      fails = λ g b. stayed_fails no_literal (stayed_fails no_name (stayed_fails c.if-take.ensures (w.fails g b)));
      stands = w.stands;
      deep = λ h g ok. stayed_deepens no_literal (stayed_deepens no_name (stayed_deepens c.if-take.ensures (w.deep h g ok)));
      long = λ h. let l = w.long h in omega (arith, l, no_literal.at, no_name.at, c.if-take.ensures.at);
    })

pub primary::named-returns-then-not-is_at-clause-read : goal.primary::named-returns-then-not-is_at-clause-read
unfolding grammar
primary::named-returns-then-not-is_at-clause-read t c =
    made c.args.place.names (λ g. named g c.args.place.inside c.args.name) c.args.room 1 c.args.tokens.now c.args.tokens.now (tree.variable c.args.name) c.node_over.result (rw c.new-variable.ensures at c.node_over.ensures) (λ g a. misses (sym c.is_at.ensures ∙ c.if-not-is_at.true) gives) (omega arith)

pub primary::named-returns-then-not-is_at-clause-failed : goal.primary::named-returns-then-not-is_at-clause-failed
unfolding grammar
primary::named-returns-then-not-is_at-clause-failed t c =
    no_leaf c.args.place.names false (λ g. named g c.args.place.inside c.args.name) c.args.room 1 c.args.tokens.now c.args.tokens.now (tree.variable c.args.name) c.node_over.result (rw c.new-variable.ensures at c.node_over.ensures)
    (λ high g ok. meets_at_once (can_rule (λ _. phrase (arguments c.args.place.inside false) λ xs. expect RightParen (give (call c.args.name xs))) (g.functions c.args.name) (Sign LeftParen) refl can_read) (allowed_meets (g.functions c.args.name) (take λ _. phrase (arguments c.args.place.inside false) λ xs. expect RightParen (give (call c.args.name xs))) _ (λ x xs _. ((λ y. omega (arith, high)), tt)), high))
    (λ high. omega (arith, high))

pub primary::named-returns-in_err-expect_callable-clause-failed : goal.primary::named-returns-in_err-expect_callable-clause-failed
unfolding grammar
primary::named-returns-in_err-expect_callable-clause-failed t c =
    let p = err_from_is_err_and c.from_residual.result c.from_residual.ensures.1 in
    let e = c.in_err-expect_callable.ensures in
    let seen : next_passes (is_sign LeftParen) (left c.args.tokens.now) ≡ true = sym c.is_at.ensures ∙ c.if-not-is_at.false in
    passed _ p.1 p.2 (same_fault e.0 (record {
      fails = λ g b. sees_fails seen (refused_fails _ (not_called (b.1 c.args.name) e.1));
      stands = (c.args.name, e.1, called c.requires.1 seen);
      deep = λ h. absurd cc;
      long = λ h. absurd cc;
    }))

pub primary::named-returns-in_err-expect-clause-failed : goal.primary::named-returns-in_err-expect-clause-failed
unfolding grammar
primary::named-returns-in_err-expect-clause-failed t c =
    let p = err_from_is_err_and c.from_residual-in_err-expect.result c.from_residual-in_err-expect.ensures.1 in
    let seen : next_passes (is_sign LeftParen) (left c.args.tokens.now) ≡ true = sym c.is_at.ensures ∙ c.if-not-is_at.false in
    let other = c.in_err-expect.ensures.1.other in
    passed _ p.1 p.2 (absurd cc)

pub primary::named-returns-in_err-below-clause-failed : goal.primary::named-returns-in_err-below-clause-failed
unfolding grammar
primary::named-returns-in_err-below-clause-failed t c =
    let p = err_from_is_err_and c.from_residual-in_err-below.result c.from_residual-in_err-below.ensures.1 in
    let known = c.in_ok-expect_callable.ensures in
    passed _ p.1 p.2 (too_high c.in_err-below.ensures.0 (λ g ok. at_any (admitted_deepens (λ _. phrase (arguments c.args.place.inside false) λ xs. expect RightParen (give (call c.args.name xs))) c.in_ok-expect.ensures refl (name_may_be_called g c.args.place.names c.args.name ok known) (meets_at_once can_read (λ xs _. ((λ x. omega (arith, c.in_err-below.ensures.1)), tt))))) (omega (arith, c.in_err-below.ensures.1, c.in_ok-expect.ensures.at)))

pub primary::named-returns-in_err-members-clause-failed : goal.primary::named-returns-in_err-members-clause-failed
unfolding grammar
primary::named-returns-in_err-members-clause-failed t c =
    let p = err_from_is_err_and c.from_residual-in_err-members.result c.from_residual-in_err-members.ensures.1 in
    let known = c.in_ok-expect_callable.ensures in
    passed _ p.1 p.2 (record {
      fails = λ g b. admitted_fails (λ _. phrase (arguments c.args.place.inside false) λ xs. expect RightParen (give (call c.args.name xs))) c.in_ok-expect.ensures refl (name_may_be_called g c.args.place.names c.args.name (told_admits _ c.args.place.names g b) known) (phrase_fails (c.in_err-members.ensures.failed.fails g b));
      stands = c.in_err-members.ensures.failed.stands;
      deep = λ h g ok. at_any (admitted_deepens (λ _. phrase (arguments c.args.place.inside false) λ xs. expect RightParen (give (call c.args.name xs))) c.in_ok-expect.ensures refl (name_may_be_called g c.args.place.names c.args.name ok known) (phrase_deepens (c.in_err-members.ensures.failed.deep h g ok) (λ xs q. ((λ x. omega (arith, q, c.in_ok-below.ensures)), tt))));
      long = λ h. let l = c.in_err-members.ensures.failed.long h in omega (arith, l, c.in_ok-expect.ensures.at, c.in_ok-below.ensures);
    })

pub primary::named-returns-in_err-expect-2-clause-failed : goal.primary::named-returns-in_err-expect-2-clause-failed
unfolding grammar
primary::named-returns-in_err-expect-2-clause-failed t c =
    let p = err_from_is_err_and c.from_residual-in_err-expect-2.result c.from_residual-in_err-expect-2.ensures.1 in
    let known = c.in_ok-expect_callable.ensures in
    passed _ p.1 p.2 (refused c.in_err-expect-2.ensures.0 (λ g a. admitted_fails (λ _. phrase (arguments c.args.place.inside false) λ xs. expect RightParen (give (call c.args.name xs))) c.in_ok-expect.ensures refl (name_may_be_called g c.args.place.names c.args.name a known) (then_fails (c.in_ok-members.ensures.read.reads g a) (stayed_fails c.in_err-expect-2.ensures.1 refuses))))

pub primary::named-returns-clause-read : goal.primary::named-returns-clause-read
unfolding grammar
primary::named-returns-clause-read t c =
    let known = c.in_ok-expect_callable.ensures in
    made c.args.place.names (λ g. named g c.args.place.inside c.args.name) c.args.room 1 c.args.tokens.now c.expect-2.new.self (tree.call c.args.name (row_of c.in_ok-members.members.items)) c.node_over-2.result c.node_over-2.ensures (λ g a. rw (row_items c.in_ok-members.members.items) (admitted (λ _. phrase (arguments c.args.place.inside false) λ xs. expect RightParen (give (call c.args.name xs))) c.in_ok-expect.ensures refl (name_may_be_called g c.args.place.names c.args.name a known) (reads (c.in_ok-members.ensures.read.reads g a) (took c.in_ok-expect-2.ensures refl gives)))) (omega (arith, c.in_ok-expect.ensures.at, c.in_ok-members.ensures.read.tokens, c.in_ok-expect-2.ensures.at, ap items_height (row_items c.in_ok-members.members.items)))

pub primary::named-returns-clause-failed : goal.primary::named-returns-clause-failed
unfolding grammar
primary::named-returns-clause-failed t c =
    let known = c.in_ok-expect_callable.ensures in
    unmade c.args.place.names false (λ g. named g c.args.place.inside c.args.name) c.args.room 1 c.args.tokens.now c.expect-2.new.self (tree.call c.args.name (row_of c.in_ok-members.members.items)) c.node_over-2.result c.node_over-2.ensures (omega (arith, c.in_ok-below.ensures, c.in_ok-members.ensures.read.fits, ap items_height (row_items c.in_ok-members.members.items)))

pub primary::named-node_over-requires-2 : goal.primary::named-node_over-requires-2
primary::named-node_over-requires-2 t c =
    omega (arith, ap items_height (row_items c.in_ok-members.members.items), c.in_ok-members.members.in_step)

pub primary::braced-returns-then-not-take-clause-read : goal.primary::braced-returns-then-not-take-clause-read
unfolding grammar
primary::braced-returns-then-not-take-clause-read t c =
    if_ok (λ n. IsReadBy c.args.place.names Sort.expr (λ g. dollar c.args.place.inside) c.args.room 0 c.take.new.self c.dollar.new.tokens (root n.tree)) (λ n. IsReadBy c.args.place.names Sort.expr (λ g. braced c.args.place.inside) c.args.room 0 c.args.tokens.now c.dollar.new.tokens (root n.tree)) c.dollar.result c.dollar.ensures.read
    (λ n v. record {
      reads = λ g a. stayed c.if-not-take.ensures (v.reads g a);
      fits = omega (arith, v.fits);
      tokens = omega (arith, v.tokens, c.if-not-take.ensures.at);
    })

pub primary::braced-returns-then-not-take-clause-failed : goal.primary::braced-returns-then-not-take-clause-failed
unfolding grammar
primary::braced-returns-then-not-take-clause-failed t c =
    if_err (λ f. HasFailedBy c.args.place.names true Sort.expr (λ g. dollar c.args.place.inside) c.args.room 0 c.take.new.self c.dollar.new.tokens f) (λ f. HasFailedBy c.args.place.names true Sort.expr (λ g. braced c.args.place.inside) c.args.room 0 c.args.tokens.now c.dollar.new.tokens f) c.dollar.result c.dollar.ensures.failed
    (λ f w. record {
      fails = λ g b. stayed_fails c.if-not-take.ensures (w.fails g b);
      stands = w.stands;
      deep = λ h g ok. stayed_deepens c.if-not-take.ensures (w.deep h g ok);
      long = λ h. let l = w.long h in omega (arith, l, c.if-not-take.ensures.at);
    })

pub primary::braced-returns-in_err-below-clause-failed : goal.primary::braced-returns-in_err-below-clause-failed
unfolding grammar
primary::braced-returns-in_err-below-clause-failed t c =
    let p = err_from_is_err_and c.from_residual.result c.from_residual.ensures.1 in
    passed _ p.1 p.2 (too_high c.in_err-below.ensures.0 (λ g ok. took_deepens c.if-not-take.ensures refl (meets_at_once can_read (λ xs _. ((λ x. brace_keeps (has_optional xs) _ _ (omega (arith, c.in_err-below.ensures.1))), tt)))) (omega (arith, c.in_err-below.ensures.1, c.if-not-take.ensures.at)))

pub primary::braced-returns-in_err-members-clause-failed : goal.primary::braced-returns-in_err-members-clause-failed
unfolding grammar
primary::braced-returns-in_err-members-clause-failed t c =
    let p = err_from_is_err_and c.from_residual-in_err-members.result c.from_residual-in_err-members.ensures.1 in
    passed _ p.1 p.2 (record {
      fails = λ g b. took_fails c.if-not-take.ensures refl (phrase_fails (c.in_err-members.ensures.failed.fails g b));
      stands = c.in_err-members.ensures.failed.stands;
      deep = λ h g ok. took_deepens c.if-not-take.ensures refl (phrase_deepens (c.in_err-members.ensures.failed.deep h g ok) (λ xs q. ((λ x. brace_keeps (has_optional xs) _ _ (omega (arith, q, c.in_ok-below.ensures))), tt)));
      long = λ h. let l = c.in_err-members.ensures.failed.long h in omega (arith, l, c.if-not-take.ensures.at, c.in_ok-below.ensures);
    })

pub primary::braced-returns-in_err-expect-clause-failed : goal.primary::braced-returns-in_err-expect-clause-failed
unfolding grammar
primary::braced-returns-in_err-expect-clause-failed t c =
    let p = err_from_is_err_and c.from_residual-in_err-expect.result c.from_residual-in_err-expect.ensures.1 in
    passed _ p.1 p.2 (refused c.in_err-expect.ensures.0 (λ g a. took_fails c.if-not-take.ensures refl (then_fails (c.in_ok-members.ensures.read.reads g a) (stayed_fails c.in_err-expect.ensures.1 refuses))))

pub primary::braced-returns-in_err-require-clause-failed : goal.primary::braced-returns-in_err-require-clause-failed
unfolding grammar
primary::braced-returns-in_err-require-clause-failed t c =
    let p = err_from_is_err_and c.from_residual-in_err-require.result c.from_residual-in_err-require.ensures.1 in
    let e = c.in_err-require.ensures in
    passed _ p.1 p.2 (refused e.0 (λ g a. took_fails c.if-not-take.ensures refl (then_fails (c.in_ok-members.ensures.read.reads g a) (took_fails c.in_ok-expect.ensures refl (brace_fails _ _ (sym c.in_ok-members.members.told ∙ e.1) e.2)))))

pub primary::braced-returns-clause-read : goal.primary::braced-returns-clause-read
unfolding grammar
primary::braced-returns-clause-read t c =
    made c.args.place.names (λ g. braced c.args.place.inside) c.args.room 0 c.args.tokens.now c.expect.new.self (tree.list (row_of c.in_ok-members.members.items)) c.node_over.result c.node_over.ensures (λ g a. rw (row_items c.in_ok-members.members.items) (took c.if-not-take.ensures refl (reads (c.in_ok-members.ensures.read.reads g a) (took c.in_ok-expect.ensures refl (brace_ends _ (λ h. c.in_ok-require.ensures (c.in_ok-members.members.told ∙ h))))))) (omega (arith, c.if-not-take.ensures.at, c.in_ok-members.ensures.read.tokens, c.in_ok-expect.ensures.at, ap items_height (row_items c.in_ok-members.members.items)))

pub primary::braced-returns-clause-failed : goal.primary::braced-returns-clause-failed
unfolding grammar
primary::braced-returns-clause-failed t c =
    unmade c.args.place.names true (λ g. braced c.args.place.inside) c.args.room 0 c.args.tokens.now c.expect.new.self (tree.list (row_of c.in_ok-members.members.items)) c.node_over.result c.node_over.ensures (omega (arith, c.in_ok-below.ensures, c.in_ok-members.ensures.read.fits, ap items_height (row_items c.in_ok-members.members.items)))

pub primary::braced-node_over-requires : goal.primary::braced-node_over-requires
primary::braced-node_over-requires t c =
    omega (arith, ap items_height (row_items c.in_ok-members.members.items), c.in_ok-members.members.in_step)

pub primary::dollar-returns-then-take-clause-read : goal.primary::dollar-returns-then-take-clause-read
unfolding grammar
primary::dollar-returns-then-take-clause-read t c =
    if_ok (λ n. IsReadBy c.args.place.names Sort.expr (λ g. after_dollar c.args.place.inside) c.args.room 1 c.take.new.self c.after_dollar.new.tokens (root n.tree)) (λ n. IsReadBy c.args.place.names Sort.expr (λ g. dollar c.args.place.inside) c.args.room 0 c.args.tokens.now c.after_dollar.new.tokens (root n.tree)) c.after_dollar.result c.after_dollar.ensures.read
    (λ n v. record {
      reads = λ g a. took c.if-take.ensures refl (v.reads g a);
      fits = omega (arith, v.fits);
      tokens = omega (arith, v.tokens, c.if-take.ensures.at);
    })

pub primary::dollar-returns-then-take-clause-failed : goal.primary::dollar-returns-then-take-clause-failed
unfolding grammar
primary::dollar-returns-then-take-clause-failed t c =
    if_err (λ f. HasFailedBy c.args.place.names false Sort.expr (λ g. after_dollar c.args.place.inside) c.args.room 1 c.take.new.self c.after_dollar.new.tokens f) (λ f. HasFailedBy c.args.place.names true Sort.expr (λ g. dollar c.args.place.inside) c.args.room 0 c.args.tokens.now c.after_dollar.new.tokens f) c.after_dollar.result c.after_dollar.ensures.failed
    (λ f w. record {
      fails = λ g b. took_fails c.if-take.ensures refl (w.fails g b);
      stands = w.stands;
      deep = λ h g ok. took_deepens c.if-take.ensures refl (w.deep h g ok);
      long = λ h. let l = w.long h in omega (arith, l, c.if-take.ensures.at);
    })

pub primary::dollar-returns-clause-read : goal.primary::dollar-returns-clause-read
unfolding grammar
primary::dollar-returns-clause-read t c =
    if_ok (λ n. IsReadBy c.args.place.names Sort.expr (λ g. guarded c.args.place.inside) c.args.room 0 c.take.new.self c.guarded.new.tokens (root n.tree)) (λ n. IsReadBy c.args.place.names Sort.expr (λ g. dollar c.args.place.inside) c.args.room 0 c.args.tokens.now c.guarded.new.tokens (root n.tree)) c.guarded.result c.guarded.ensures.read
    (λ n v. record {
      reads = λ g a. stayed c.if-take.ensures (v.reads g a);
      fits = omega (arith, v.fits);
      tokens = omega (arith, v.tokens, c.if-take.ensures.at);
    })

pub primary::dollar-returns-clause-failed : goal.primary::dollar-returns-clause-failed
unfolding grammar
primary::dollar-returns-clause-failed t c =
    if_err (λ f. HasFailedBy c.args.place.names true Sort.expr (λ g. guarded c.args.place.inside) c.args.room 0 c.take.new.self c.guarded.new.tokens f) (λ f. HasFailedBy c.args.place.names true Sort.expr (λ g. dollar c.args.place.inside) c.args.room 0 c.args.tokens.now c.guarded.new.tokens f) c.guarded.result c.guarded.ensures.failed
    (λ f w. record {
      fails = λ g b. stayed_fails c.if-take.ensures (w.fails g b);
      stands = w.stands;
      deep = λ h g ok. stayed_deepens c.if-take.ensures (w.deep h g ok);
      long = λ h. let l = w.long h in omega (arith, l, c.if-take.ensures.at);
    })

pub primary::after_dollar-returns-in_err-name-clause-failed : goal.primary::after_dollar-returns-in_err-name-clause-failed
unfolding grammar
primary::after_dollar-returns-in_err-name-clause-failed t c =
    let p = err_from_is_err_and c.from_residual.result c.from_residual.ensures.1 in
    passed _ p.1 p.2 (no_memory c.in_err-name.ensures.0)

pub primary::after_dollar-returns-then-not-place-clause-failed : goal.primary::after_dollar-returns-then-not-place-clause-failed
unfolding grammar
primary::after_dollar-returns-then-not-place-clause-failed t c =
    let no_name = none_of (Stays (λ x. is_some (name_at x)) c.args.tokens.now c.take_name.new.self) (λ s. Takes (Name s) c.args.tokens.now c.take_name.new.self) _ c.in_default.not-Some c.in_ok-name.ensures in
    let outside : c.args.place.inside ≡ false = c.if-not-place.true in
    refused refl (λ g a. rw outside (stayed_fails no_name refuses))

pub primary::after_dollar-returns-in_default-clause-read : goal.primary::after_dollar-returns-in_default-clause-read
unfolding grammar
primary::after_dollar-returns-in_default-clause-read t c =
    let no_name = none_of (Stays (λ x. is_some (name_at x)) c.args.tokens.now c.take_name.new.self) (λ s. Takes (Name s) c.args.tokens.now c.take_name.new.self) _ c.in_default.not-Some c.in_ok-name.ensures in
    let inside : c.args.place.inside ≡ true = c.if-not-place.false in
    made c.args.place.names (λ g. after_dollar c.args.place.inside) c.args.room 1 c.args.tokens.now c.take_name.new.self (tree.length_mark) c.node_over.result c.node_over.ensures (λ g a. rw inside (stayed no_name gives)) (omega (arith, no_name.at))

pub primary::after_dollar-returns-in_default-clause-failed : goal.primary::after_dollar-returns-in_default-clause-failed
unfolding grammar
primary::after_dollar-returns-in_default-clause-failed t c =
    let no_name = none_of (Stays (λ x. is_some (name_at x)) c.args.tokens.now c.take_name.new.self) (λ s. Takes (Name s) c.args.tokens.now c.take_name.new.self) _ c.in_default.not-Some c.in_ok-name.ensures in
    let inside : c.args.place.inside ≡ true = c.if-not-place.false in
    no_leaf c.args.place.names false (λ g. after_dollar c.args.place.inside) c.args.room 1 c.args.tokens.now c.take_name.new.self (tree.length_mark) c.node_over.result c.node_over.ensures
    (λ high g ok. subst (λ v. Deepens g false Sort.expr c.args.room (after_dollar c.args.place.inside) (left c.args.tokens.now) v) (sym no_name.rest) (rw inside (meets_at_once (can_take (Name []) refl (can_take (Sign LeftParen) refl can_read)) ((λ x. ((λ y xs _. ((λ z. omega (arith, high)), tt)), omega (arith, high))), high))))
    (λ high. omega (arith, high, no_name.at))

pub primary::after_dollar-returns-in_err-object-clause-failed : goal.primary::after_dollar-returns-in_err-object-clause-failed
unfolding grammar
primary::after_dollar-returns-in_err-object-clause-failed t c =
    let p = err_from_is_err_and c.from_residual-in_err-object.result c.from_residual-in_err-object.ensures.1 in
    passed _ p.1 p.2 (no_memory c.in_err-object.ensures)

pub primary::after_dollar-returns-in_err-name-2-clause-failed : goal.primary::after_dollar-returns-in_err-name-2-clause-failed
unfolding grammar
primary::after_dollar-returns-in_err-name-2-clause-failed t c =
    let p = err_from_is_err_and c.from_residual-in_err-name-2.result c.from_residual-in_err-name-2.ensures.1 in
    passed _ p.1 p.2 (no_memory c.in_err-name-2.ensures)

pub primary::after_dollar-returns-then-not-take-clause-read : goal.primary::after_dollar-returns-then-not-take-clause-read
unfolding grammar
primary::after_dollar-returns-then-not-take-clause-read t c =
    let k = rw c.in-Some.is at c.in_ok-name.ensures in
    made c.args.place.names (λ g. after_dollar c.args.place.inside) c.args.room 1 c.args.tokens.now c.take.new.self (tree.property (root c.in_ok-object.object.tree) (root c.in_ok-name-2.name.tree)) c.node_over-then-not-take.result c.node_over-then-not-take.ensures (λ g a. rw (c.in_ok-object.ensures, c.in_ok-name-2.ensures) (took k refl (stayed c.if-not-take.ensures gives))) (omega (arith, k.at, c.if-not-take.ensures.at, ap height c.in_ok-object.ensures, ap height c.in_ok-name-2.ensures))

pub primary::after_dollar-returns-then-not-take-clause-failed : goal.primary::after_dollar-returns-then-not-take-clause-failed
unfolding grammar
primary::after_dollar-returns-then-not-take-clause-failed t c =
    let k = rw c.in-Some.is at c.in_ok-name.ensures in
    no_leaf c.args.place.names false (λ g. after_dollar c.args.place.inside) c.args.room 1 c.args.tokens.now c.take.new.self (tree.property (root c.in_ok-object.object.tree) (root c.in_ok-name-2.name.tree)) c.node_over-then-not-take.result c.node_over-then-not-take.ensures
    (λ high g ok. at_any (took_deepens k refl (subst (λ v. Deepens g false Sort.expr c.args.room (system_part c.args.place.inside c.in-Some.name) (left c.take_name.new.self) v) (sym c.if-not-take.ensures.rest) (meets_at_once (can_take (Sign LeftParen) refl can_read) ((λ y xs _. ((λ z. omega (arith, high, ap height c.in_ok-object.ensures, ap height c.in_ok-name-2.ensures)), tt)), omega (arith, high, ap height c.in_ok-object.ensures, ap height c.in_ok-name-2.ensures))))))
    (λ high. omega (arith, high, k.at, c.if-not-take.ensures.at, ap height c.in_ok-object.ensures, ap height c.in_ok-name-2.ensures))

pub primary::after_dollar-returns-in_err-beside-clause-failed : goal.primary::after_dollar-returns-in_err-beside-clause-failed
unfolding grammar
primary::after_dollar-returns-in_err-beside-clause-failed t c =
    let p = err_from_is_err_and c.from_residual-in_err-beside.result c.from_residual-in_err-beside.ensures.1 in
    let k = rw c.in-Some.is at c.in_ok-name.ensures in
    passed _ p.1 p.2 (too_high c.in_err-beside.ensures.0 (λ g ok. at_any (took_deepens k refl (took_deepens c.if-not-take.ensures refl (meets_at_once can_read (λ xs _. ((λ x. omega (arith, c.in_err-beside.ensures.1)), tt)))))) (omega (arith, c.in_err-beside.ensures.1, k.at, c.if-not-take.ensures.at)))

pub primary::after_dollar-returns-in_err-members-clause-failed : goal.primary::after_dollar-returns-in_err-members-clause-failed
unfolding grammar
primary::after_dollar-returns-in_err-members-clause-failed t c =
    let p = err_from_is_err_and c.from_residual-in_err-members.result c.from_residual-in_err-members.ensures.1 in
    let k = rw c.in-Some.is at c.in_ok-name.ensures in
    passed _ p.1 p.2 (record {
      fails = λ g b. took_fails k refl (took_fails c.if-not-take.ensures refl (phrase_fails (c.in_err-members.ensures.failed.fails g b)));
      stands = c.in_err-members.ensures.failed.stands;
      deep = λ h g ok. at_any (took_deepens k refl (took_deepens c.if-not-take.ensures refl (phrase_deepens (c.in_err-members.ensures.failed.deep h g ok) (λ xs q. ((λ x. omega (arith, q, c.in_ok-beside.ensures.0)), tt)))));
      long = λ h. let l = c.in_err-members.ensures.failed.long h in omega (arith, l, k.at, c.if-not-take.ensures.at, c.in_ok-beside.ensures.0);
    })

pub primary::after_dollar-returns-in_err-expect-clause-failed : goal.primary::after_dollar-returns-in_err-expect-clause-failed
unfolding grammar
primary::after_dollar-returns-in_err-expect-clause-failed t c =
    let p = err_from_is_err_and c.from_residual-in_err-expect.result c.from_residual-in_err-expect.ensures.1 in
    let k = rw c.in-Some.is at c.in_ok-name.ensures in
    passed _ p.1 p.2 (refused c.in_err-expect.ensures.0 (λ g a. took_fails k refl (took_fails c.if-not-take.ensures refl (then_fails (c.in_ok-members.ensures.read.reads g a) (stayed_fails c.in_err-expect.ensures.1 refuses)))))

pub primary::after_dollar-returns-clause-read : goal.primary::after_dollar-returns-clause-read
unfolding grammar
primary::after_dollar-returns-clause-read t c =
    let k = rw c.in-Some.is at c.in_ok-name.ensures in
    made c.args.place.names (λ g. after_dollar c.args.place.inside) c.args.room 1 c.args.tokens.now c.expect.new.self (tree.verb_call (root c.in_ok-object.object.tree) (root c.in_ok-name-2.name.tree) (row_of c.in_ok-items.items.value)) c.node_over-2.result c.node_over-2.ensures (λ g a. rw (c.in_ok-object.ensures, c.in_ok-name-2.ensures, row_items c.in_ok-items.items.value, c.in_ok-items.ensures.ok) (took k refl (took c.if-not-take.ensures refl (reads (c.in_ok-members.ensures.read.reads g a) (took c.in_ok-expect.ensures refl gives))))) (omega (arith, k.at, c.if-not-take.ensures.at, c.in_ok-members.ensures.read.tokens, c.in_ok-expect.ensures.at, ap height c.in_ok-object.ensures, ap height c.in_ok-name-2.ensures, ap items_height (row_items c.in_ok-items.items.value ∙ ap (λ v. items_of v.items) c.in_ok-items.ensures.ok)))

pub primary::after_dollar-returns-clause-failed : goal.primary::after_dollar-returns-clause-failed
unfolding grammar
primary::after_dollar-returns-clause-failed t c =
    let k = rw c.in-Some.is at c.in_ok-name.ensures in
    unmade c.args.place.names false (λ g. after_dollar c.args.place.inside) c.args.room 1 c.args.tokens.now c.expect.new.self (tree.verb_call (root c.in_ok-object.object.tree) (root c.in_ok-name-2.name.tree) (row_of c.in_ok-items.items.value)) c.node_over-2.result c.node_over-2.ensures (omega (arith, c.in_ok-beside.ensures.0, c.in_ok-beside.ensures.1, c.in_ok-members.ensures.read.fits, ap height c.in_ok-object.ensures, ap height c.in_ok-name-2.ensures, ap items_height (row_items c.in_ok-items.items.value ∙ ap (λ v. items_of v.items) c.in_ok-items.ensures.ok)))

pub primary::after_dollar-node_over-requires-then-not-take : goal.primary::after_dollar-node_over-requires-then-not-take
primary::after_dollar-node_over-requires-then-not-take t c =
    omega (arith, ap height c.in_ok-object.ensures, ap height c.in_ok-name-2.ensures)

pub primary::after_dollar-node_over-requires-2 : goal.primary::after_dollar-node_over-requires-2
primary::after_dollar-node_over-requires-2 t c =
    omega (arith, ap height c.in_ok-object.ensures, ap height c.in_ok-name-2.ensures, ap items_height (row_items c.in_ok-items.items.value ∙ ap (λ v. items_of v.items) c.in_ok-items.ensures.ok), c.in_ok-members.members.in_step)

pub primary::guarded-returns-in_err-expect-clause-failed : goal.primary::guarded-returns-in_err-expect-clause-failed
unfolding grammar
primary::guarded-returns-in_err-expect-clause-failed t c =
    let p = err_from_is_err_and c.from_residual.result c.from_residual.ensures.1 in
    passed _ p.1 p.2 (refused c.in_err-expect.ensures.0 (λ g a. stayed_fails c.in_err-expect.ensures.1 refuses))

pub primary::guarded-returns-in_err-room_below-clause-failed : goal.primary::guarded-returns-in_err-room_below-clause-failed
unfolding grammar
primary::guarded-returns-in_err-room_below-clause-failed t c =
    let p = err_from_is_err_and c.from_residual-in_err-room_below.result c.from_residual-in_err-room_below.ensures.1 in
    passed _ p.1 p.2 (too_high c.in_err-room_below.ensures.0 (λ g ok. took_deepens c.in_ok-expect.ensures refl (meets_at_once can_read (λ a _. ((λ x e _. ((λ y b _. ((λ z. omega (arith, c.in_err-room_below.ensures.1)), tt)), ((λ z. omega (arith, c.in_err-room_below.ensures.1)), tt))), tt)))) (omega (arith, c.in_err-room_below.ensures.1, c.in_ok-expect.ensures.at)))

pub primary::guarded-returns-in_err-tried-clause-failed : goal.primary::guarded-returns-in_err-tried-clause-failed
unfolding grammar
primary::guarded-returns-in_err-tried-clause-failed t c =
    let p = err_from_is_err_and c.from_residual-in_err-tried.result c.from_residual-in_err-tried.ensures.1 in
    passed _ p.1 p.2 (record {
      fails = λ g b. took_fails c.in_ok-expect.ensures refl (phrase_fails (c.in_err-tried.ensures.failed.fails g b));
      stands = c.in_err-tried.ensures.failed.stands;
      deep = λ h g ok. took_deepens c.in_ok-expect.ensures refl (phrase_deepens (c.in_err-tried.ensures.failed.deep h g ok) (λ a q. ((λ x e _. ((λ y b _. ((λ z. omega (arith, q, c.in_ok-room_below.ensures)), tt)), ((λ z. omega (arith, q, c.in_ok-room_below.ensures)), tt))), tt)));
      long = λ h. let l = c.in_err-tried.ensures.failed.long h in omega (arith, l, c.in_ok-expect.ensures.at, c.in_ok-room_below.ensures);
    })

pub primary::guarded-returns-in_err-expect-2-clause-failed : goal.primary::guarded-returns-in_err-expect-2-clause-failed
unfolding grammar
primary::guarded-returns-in_err-expect-2-clause-failed t c =
    let p = err_from_is_err_and c.from_residual-in_err-expect-2.result c.from_residual-in_err-expect-2.ensures.1 in
    passed _ p.1 p.2 (refused c.in_err-expect-2.ensures.0 (λ g a. took_fails c.in_ok-expect.ensures refl (then_fails (c.in_ok-tried.ensures.read.reads g a) (stayed_fails c.in_err-expect-2.ensures.1 refuses))))

pub primary::guarded-returns-in_err-caught-clause-failed : goal.primary::guarded-returns-in_err-caught-clause-failed
unfolding grammar
primary::guarded-returns-in_err-caught-clause-failed t c =
    let p = err_from_is_err_and c.from_residual-in_err-caught.result c.from_residual-in_err-caught.ensures.1 in
    passed _ p.1 p.2 (record {
      fails = λ g b. took_fails c.in_ok-expect.ensures refl (then_fails (c.in_ok-tried.ensures.read.reads g (told_admits _ c.args.place.names g b)) (took_fails c.in_ok-expect-2.ensures refl (phrase_fails (c.in_err-caught.ensures.failed.fails g b))));
      stands = c.in_err-caught.ensures.failed.stands;
      deep = λ h g ok. took_deepens c.in_ok-expect.ensures refl (then_deepens (c.in_ok-tried.ensures.read.reads g ok) (took_deepens c.in_ok-expect-2.ensures refl (phrase_deepens (c.in_err-caught.ensures.failed.deep h g ok) (λ e q. ((λ y b _. ((λ z. omega (arith, q, c.in_ok-room_below.ensures)), tt)), ((λ z. omega (arith, q, c.in_ok-room_below.ensures)), tt))))));
      long = λ h. let l = c.in_err-caught.ensures.failed.long h in omega (arith, l, c.in_ok-expect.ensures.at, c.in_ok-tried.ensures.read.tokens, c.in_ok-expect-2.ensures.at, c.in_ok-room_below.ensures);
    })

pub primary::guarded-returns-in_err-expect-3-clause-failed : goal.primary::guarded-returns-in_err-expect-3-clause-failed
unfolding grammar
primary::guarded-returns-in_err-expect-3-clause-failed t c =
    let p = err_from_is_err_and c.from_residual-in_err-expect-3.result c.from_residual-in_err-expect-3.ensures.1 in
    passed _ p.1 p.2 (refused c.in_err-expect-3.ensures.0 (λ g a. took_fails c.in_ok-expect.ensures refl (then_fails (c.in_ok-tried.ensures.read.reads g a) (took_fails c.in_ok-expect-2.ensures refl (then_fails (c.in_ok-caught.ensures.read.reads g a) (stayed_fails c.if-not-take.ensures (stayed_fails c.in_err-expect-3.ensures.1 refuses)))))))

pub primary::guarded-returns-then-not-take-clause-read : goal.primary::guarded-returns-then-not-take-clause-read
unfolding grammar
primary::guarded-returns-then-not-take-clause-read t c =
    made c.args.place.names (λ g. guarded c.args.place.inside) c.args.room 0 c.args.tokens.now c.expect-then-not-take.new.self (tree.catch (root c.in_ok-tried.tried.tree) (codes_of c.in_ok-codes.codes.value)) c.node_over.result c.node_over.ensures (λ g a. rw c.in_ok-codes.ensures.ok (took c.in_ok-expect.ensures refl (reads (c.in_ok-tried.ensures.read.reads g a) (took c.in_ok-expect-2.ensures refl (reads (c.in_ok-caught.ensures.read.reads g a) (stayed c.if-not-take.ensures (took c.in_ok-expect-3.ensures refl gives))))))) (omega (arith, ap (λ x. codes_height (codes_of x)) c.in_ok-codes.ensures.ok, c.in_ok-expect.ensures.at, c.in_ok-tried.ensures.read.tokens, c.in_ok-expect-2.ensures.at, c.in_ok-caught.ensures.read.tokens, c.if-not-take.ensures.at, c.in_ok-expect-3.ensures.at))

pub primary::guarded-returns-then-not-take-clause-failed : goal.primary::guarded-returns-then-not-take-clause-failed
unfolding grammar
primary::guarded-returns-then-not-take-clause-failed t c =
    unmade c.args.place.names true (λ g. guarded c.args.place.inside) c.args.room 0 c.args.tokens.now c.expect-then-not-take.new.self (tree.catch (root c.in_ok-tried.tried.tree) (codes_of c.in_ok-codes.codes.value)) c.node_over.result c.node_over.ensures (omega (arith, ap (λ x. codes_height (codes_of x)) c.in_ok-codes.ensures.ok, c.in_ok-room_below.ensures, c.in_ok-tried.ensures.read.fits, c.in_ok-caught.ensures.read.fits))

pub primary::guarded-returns-in_err-instead-clause-failed : goal.primary::guarded-returns-in_err-instead-clause-failed
unfolding grammar
primary::guarded-returns-in_err-instead-clause-failed t c =
    let p = err_from_is_err_and c.from_residual-in_err-instead.result c.from_residual-in_err-instead.ensures.1 in
    passed _ p.1 p.2 (record {
      fails = λ g b. took_fails c.in_ok-expect.ensures refl (then_fails (c.in_ok-tried.ensures.read.reads g (told_admits _ c.args.place.names g b)) (took_fails c.in_ok-expect-2.ensures refl (then_fails (c.in_ok-caught.ensures.read.reads g (told_admits _ c.args.place.names g b)) (took_fails c.if-not-take.ensures refl (phrase_fails (c.in_err-instead.ensures.failed.fails g b))))));
      stands = c.in_err-instead.ensures.failed.stands;
      deep = λ h g ok. took_deepens c.in_ok-expect.ensures refl (then_deepens (c.in_ok-tried.ensures.read.reads g ok) (took_deepens c.in_ok-expect-2.ensures refl (then_deepens (c.in_ok-caught.ensures.read.reads g ok) (took_deepens c.if-not-take.ensures refl (phrase_deepens (c.in_err-instead.ensures.failed.deep h g ok) (λ b q. ((λ z. omega (arith, q, c.in_ok-room_below.ensures)), tt)))))));
      long = λ h. let l = c.in_err-instead.ensures.failed.long h in omega (arith, l, c.in_ok-expect.ensures.at, c.in_ok-tried.ensures.read.tokens, c.in_ok-expect-2.ensures.at, c.in_ok-caught.ensures.read.tokens, c.if-not-take.ensures.at, c.in_ok-room_below.ensures);
    })

pub primary::guarded-returns-in_err-expect-4-clause-failed : goal.primary::guarded-returns-in_err-expect-4-clause-failed
unfolding grammar
primary::guarded-returns-in_err-expect-4-clause-failed t c =
    let p = err_from_is_err_and c.from_residual-in_err-expect-4.result c.from_residual-in_err-expect-4.ensures.1 in
    passed _ p.1 p.2 (refused c.in_err-expect-4.ensures.0 (λ g a. took_fails c.in_ok-expect.ensures refl (then_fails (c.in_ok-tried.ensures.read.reads g a) (took_fails c.in_ok-expect-2.ensures refl (then_fails (c.in_ok-caught.ensures.read.reads g a) (took_fails c.if-not-take.ensures refl (then_fails (c.in_ok-instead.ensures.read.reads g a) (stayed_fails c.in_err-expect-4.ensures.1 refuses))))))))

pub primary::guarded-returns-clause-read : goal.primary::guarded-returns-clause-read
unfolding grammar
primary::guarded-returns-clause-read t c =
    made c.args.place.names (λ g. guarded c.args.place.inside) c.args.room 0 c.args.tokens.now c.expect-3.new.self (tree.catch_or (root c.in_ok-tried.tried.tree) (codes_of c.in_ok-codes.codes.value) (root c.in_ok-instead.instead.tree)) c.node_over-2.result c.node_over-2.ensures (λ g a. rw c.in_ok-codes.ensures.ok (took c.in_ok-expect.ensures refl (reads (c.in_ok-tried.ensures.read.reads g a) (took c.in_ok-expect-2.ensures refl (reads (c.in_ok-caught.ensures.read.reads g a) (took c.if-not-take.ensures refl (reads (c.in_ok-instead.ensures.read.reads g a) (took c.in_ok-expect-4.ensures refl gives)))))))) (omega (arith, ap (λ x. codes_height (codes_of x)) c.in_ok-codes.ensures.ok, c.in_ok-expect.ensures.at, c.in_ok-tried.ensures.read.tokens, c.in_ok-expect-2.ensures.at, c.in_ok-caught.ensures.read.tokens, c.if-not-take.ensures.at, c.in_ok-instead.ensures.read.tokens, c.in_ok-expect-4.ensures.at))

pub primary::guarded-returns-clause-failed : goal.primary::guarded-returns-clause-failed
unfolding grammar
primary::guarded-returns-clause-failed t c =
    unmade c.args.place.names true (λ g. guarded c.args.place.inside) c.args.room 0 c.args.tokens.now c.expect-3.new.self (tree.catch_or (root c.in_ok-tried.tried.tree) (codes_of c.in_ok-codes.codes.value) (root c.in_ok-instead.instead.tree)) c.node_over-2.result c.node_over-2.ensures (omega (arith, ap (λ x. codes_height (codes_of x)) c.in_ok-codes.ensures.ok, c.in_ok-room_below.ensures, c.in_ok-tried.ensures.read.fits, c.in_ok-caught.ensures.read.fits, c.in_ok-instead.ensures.read.fits))

pub primary::codes-returns-then-take_keyword-clause-read : goal.primary::codes-returns-then-take_keyword-clause-read
unfolding grammar
primary::codes-returns-then-take_keyword-clause-read t c =
    record {
      reads = λ g a. took c.if-take_keyword.ensures refl gives;
      fits = omega arith;
      tokens = omega (arith, c.if-take_keyword.ensures.at);
    }

pub primary::codes-returns-in_err-members-clause-failed : goal.primary::codes-returns-in_err-members-clause-failed
unfolding grammar
primary::codes-returns-in_err-members-clause-failed t c =
    let p = err_from_is_err_and c.from_residual.result c.from_residual.ensures.1 in
    passed _ p.1 p.2 (record {
      fails = λ g b. stayed_fails c.if-take_keyword.ensures (phrase_fails (c.in_err-members.ensures.failed.fails g b));
      stands = c.in_err-members.ensures.failed.stands;
      deep = λ h g ok. stayed_deepens c.if-take_keyword.ensures (phrase_deepens (c.in_err-members.ensures.failed.deep h g ok) (λ xs q. q));
      long = λ h. let l = c.in_err-members.ensures.failed.long h in omega (arith, l, c.if-take_keyword.ensures.at);
    })

pub primary::codes-returns-clause-read : goal.primary::codes-returns-clause-read
unfolding grammar
primary::codes-returns-clause-read t c =
    record {
      reads = λ g a. rw (row_items c.in_ok-members.members.items) (stayed c.if-take_keyword.ensures (reads (c.in_ok-members.ensures.read.reads g a) gives));
      fits = omega (arith, c.in_ok-members.ensures.read.fits, ap items_height (row_items c.in_ok-members.members.items));
      tokens = omega (arith, c.in_ok-members.ensures.read.tokens, c.if-take_keyword.ensures.at, ap items_height (row_items c.in_ok-members.members.items));
    }

pub primary::codes-invariant_of-result-2 : goal.primary::codes-invariant_of-result-2
primary::codes-invariant_of-result-2 t c =
    record { in_step = c.in_ok-members.members.in_step ∙ sym (ap items_height (row_items c.in_ok-members.members.items)) }

pub members::arguments-returns-then-is_at_closer-clause-read : goal.members::arguments-returns-then-is_at_closer-clause-read
unfolding grammar
members::arguments-returns-then-is_at_closer-clause-read t c =
    rw c.new.ensures (record {
      reads = λ g a. sees (sym c.is_at_closer.ensures ∙ c.if-is_at_closer.true) gives;
      fits = omega arith;
      tokens = omega arith;
    })

pub members::arguments-returns-clause-read : goal.members::arguments-returns-clause-read
unfolding grammar
members::arguments-returns-clause-read t c =
    if_ok (λ v. IsRead c.args.place.names (members c.args.place.inside c.args.optional) c.args.room c.args.tokens.now c.members.new.tokens (items_of v.items.items)) (λ v. IsRead c.args.place.names (arguments c.args.place.inside c.args.optional) c.args.room c.args.tokens.now c.members.new.tokens (items_of v.items.items)) c.members.result c.members.ensures.read
    (λ n v. record { reads = λ g a. misses (sym c.is_at_closer.ensures ∙ c.if-is_at_closer.false) (reads (v.reads g a) gives); fits = v.fits; tokens = v.tokens })

pub members::arguments-returns-clause-failed : goal.members::arguments-returns-clause-failed
unfolding grammar
members::arguments-returns-clause-failed t c =
    if_err (λ f. HasFailed c.args.place.names (members c.args.place.inside c.args.optional) c.args.room c.args.tokens.now c.members.new.tokens f) (λ f. HasFailedBy c.args.place.names true Sort.items (λ g. grammar g (arguments c.args.place.inside c.args.optional)) c.args.room 0 c.args.tokens.now c.members.new.tokens f) c.members.result c.members.ensures.failed
    (λ f w. record {
      fails = λ g b. misses_fails (sym c.is_at_closer.ensures ∙ c.if-is_at_closer.false) (phrase_fails (w.fails g b));
      stands = w.stands;
      deep = λ h g ok. misses_deepens (sym c.is_at_closer.ensures ∙ c.if-is_at_closer.false) (phrase_deepens (w.deep h g ok) (λ xs q. q));
      long = w.long;
    })

pub members::members-returns-in_err-found-clause-failed : goal.members::members-returns-in_err-found-clause-failed
members::members-returns-in_err-found-clause-failed t c =
    let p = err_from_is_err_and c.from_residual.result c.from_residual.ensures.1 in
    passed _ p.1 p.2 (no_memory c.in_err-found.ensures.err)

pub members::members-returns-in_err-next-clause-failed : goal.members::members-returns-in_err-next-clause-failed
members::members-returns-in_err-next-clause-failed t c =
    let p = err_from_is_err_and c.from_residual-in_err-next.result c.from_residual-in_err-next.ensures.1 in
    let w = c.in_err-next.ensures.failed in
    let i = c.loop-found.invariant in
    passed _ p.1 p.2 (record {
      fails = λ g b. i.goes_on.fails g (told_admits _ c.args.place.names g b) _ (w.fails g b);
      stands = w.stands;
      deep = λ h g ok. i.goes_on.deep g ok _ _ (w.deep h g ok);
      long = λ h. let l = w.long h in omega (arith, l, i.moves.at);
    })

pub members::members-returns-then-not-take-clause-read : goal.members::members-returns-then-not-take-clause-read
members::members-returns-then-not-take-clause-read t c =
    record {
      reads = rw (c.in_ok-push.ensures.items, in_front_push) (ended _ _ _ _ _ _ _ _ c.loop-found.invariant.goes_on c.in_ok-next.next.item c.in_ok-next.ensures.read c.if-not-take.ensures);
      fits = omega (arith, c.push.new.self.in_step, c.in_ok-push.ensures.height, c.in_ok-next.next.in_step, c.loop-found.invariant.fits, c.in_ok-next.ensures.read.fits);
      tokens = omega (arith, c.push.new.self.in_step, c.in_ok-push.ensures.height, c.in_ok-next.next.in_step, c.loop-found.invariant.tokens, c.in_ok-next.ensures.read.tokens, c.in_ok-next.ensures.moves.at, c.loop-found.invariant.moves.at, c.if-not-take.ensures.at);
    }

pub members::members-loop-found-preserved : goal.members::members-loop-found-preserved
members::members-loop-found-preserved t c =
    record {
      moves = search rules;
      goes_on = rw c.in_ok-push.ensures.items (goes_on_member _ _ _ _ _ _ _ _ c.loop-found.invariant.goes_on c.in_ok-next.next.item c.in_ok-next.ensures.read c.if-not-take.ensures);
      fits = omega (arith, c.in_ok-push.ensures.height, c.in_ok-next.next.in_step, c.loop-found.invariant.fits, c.in_ok-next.ensures.read.fits);
      tokens = omega (arith, c.in_ok-push.ensures.height, c.in_ok-next.next.in_step, c.loop-found.invariant.tokens, c.in_ok-next.ensures.read.tokens, c.in_ok-next.ensures.moves.at, c.loop-found.invariant.moves.at, c.if-not-take.ensures.at);
    }

pub members::members-returns-in_err-push-clause-failed : goal.members::members-returns-in_err-push-clause-failed
members::members-returns-in_err-push-clause-failed t c =
    let p = err_from_is_err_and c.from_residual-in_err-push.result c.from_residual-in_err-push.ensures.1 in
    passed _ p.1 p.2 (no_memory c.in_err-push.ensures.err)

pub members::member-returns-in_err-tree-clause-failed : goal.members::member-returns-in_err-tree-clause-failed
unfolding grammar
members::member-returns-in_err-tree-clause-failed t c =
    let p = err_from_is_err_and c.from_residual.result c.from_residual.ensures.1 in
    passed _ p.1 p.2 (record {
      fails = λ g b. took_fails c.if-take.ensures refl (phrase_fails (c.in_err-tree.ensures.failed.fails g b));
      stands = c.in_err-tree.ensures.failed.stands;
      deep = λ h g ok. took_deepens c.if-take.ensures refl (phrase_deepens (c.in_err-tree.ensures.failed.deep h g ok) (λ a q. ((λ x xs _. omega (arith, q)), omega (arith, q))));
      long = λ h. let l = c.in_err-tree.ensures.failed.long h in omega (arith, l, c.if-take.ensures.at);
    })

pub members::member-returns-then-take-clause-read : goal.members::member-returns-then-take-clause-read
unfolding grammar
members::member-returns-then-take-clause-read t c =
    record {
      leads = record {
        reads = λ g a e u d. took c.if-take.ensures refl (reads (c.in_ok-tree.ensures.read.reads g a) (d));
        fails = λ g a u d. took_fails c.if-take.ensures refl (then_fails (c.in_ok-tree.ensures.read.reads g a) (d));
        deep = λ g ok n r d. took_deepens c.if-take.ensures refl (then_deepens (c.in_ok-tree.ensures.read.reads g ok) (d));
      };
      fits = omega (arith, c.in_ok-tree.ensures.read.fits);
      tokens = omega (arith, c.in_ok-tree.ensures.read.tokens, c.if-take.ensures.at);
    }

pub members::member-returns-then-take_where-clause-read : goal.members::member-returns-then-take_where-clause-read
unfolding grammar
members::member-returns-then-take_where-clause-read t c =
    let asked_for = c.if-take_where.ensures in
    if_ok (λ m. IsPiece c.args.place.names c.args.place.inside c.args.room c.take_where.new.self c.after_question.new.tokens m.item) (λ m. IsMember c.args.place.names c.args.place.inside c.args.optional c.args.room c.args.tokens.now c.after_question.new.tokens m.item) c.after_question.result c.after_question.ensures.read
    (λ m v. record {
      leads = record {
        reads = λ g a e u d. stayed c.if-take.ensures (asked c.args.optional (after_question c.args.place.inside) (phrase (expression c.args.place.inside) λ a. after_member c.args.place.inside c.args.optional (element a)) c.if-take_where.ensures (v.leads.reads g a _ _ (piece_reads asked_for.0 d)));
        fails = λ g a u d. stayed_fails c.if-take.ensures (asked_fails c.args.optional (after_question c.args.place.inside) (phrase (expression c.args.place.inside) λ a. after_member c.args.place.inside c.args.optional (element a)) c.if-take_where.ensures (v.leads.fails g a _ (piece_fails asked_for.0 d)));
        deep = λ g ok n r d. stayed_deepens c.if-take.ensures (asked_deepens c.args.optional (after_question c.args.place.inside) (phrase (expression c.args.place.inside) λ a. after_member c.args.place.inside c.args.optional (element a)) c.if-take_where.ensures (v.leads.deep g ok n r (piece_deepens asked_for.0 d)));
      };
      fits = v.fits;
      tokens = omega (arith, v.tokens, c.if-take.ensures.at, c.if-take_where.ensures.1.at);
    })

pub members::member-returns-then-take_where-clause-failed : goal.members::member-returns-then-take_where-clause-failed
unfolding grammar
members::member-returns-then-take_where-clause-failed t c =
    if_err (λ f. HasFailedBy c.args.place.names true Sort.items (λ g. after_question c.args.place.inside) c.args.room 0 c.take_where.new.self c.after_question.new.tokens f) (λ f. HasFailedBy c.args.place.names true Sort.items (λ g. grammar g (members c.args.place.inside c.args.optional)) c.args.room 0 c.args.tokens.now c.after_question.new.tokens f) c.after_question.result c.after_question.ensures.failed
    (λ f w. record {
      fails = λ g b. stayed_fails c.if-take.ensures (asked_fails c.args.optional (after_question c.args.place.inside) (phrase (expression c.args.place.inside) λ a. after_member c.args.place.inside c.args.optional (element a)) c.if-take_where.ensures (w.fails g b));
      stands = w.stands;
      deep = λ h g ok. stayed_deepens c.if-take.ensures (asked_deepens c.args.optional (after_question c.args.place.inside) (phrase (expression c.args.place.inside) λ a. after_member c.args.place.inside c.args.optional (element a)) c.if-take_where.ensures (w.deep h g ok));
      long = λ h. let l = w.long h in omega (arith, l, c.if-take.ensures.at, c.if-take_where.ensures.1.at);
    })

pub members::member-returns-in_err-tree-2-clause-failed : goal.members::member-returns-in_err-tree-2-clause-failed
unfolding grammar
members::member-returns-in_err-tree-2-clause-failed t c =
    let p = err_from_is_err_and c.from_residual-in_err-tree-2.result c.from_residual-in_err-tree-2.ensures.1 in
    passed _ p.1 p.2 (record {
      fails = λ g b. stayed_fails c.if-take.ensures (unasked_fails c.args.optional (after_question c.args.place.inside) (phrase (expression c.args.place.inside) λ a. after_member c.args.place.inside c.args.optional (element a)) c.if-take_where.ensures (phrase_fails (c.in_err-tree-2.ensures.failed.fails g b)));
      stands = c.in_err-tree-2.ensures.failed.stands;
      deep = λ h g ok. stayed_deepens c.if-take.ensures (unasked_deepens c.args.optional (after_question c.args.place.inside) (phrase (expression c.args.place.inside) λ a. after_member c.args.place.inside c.args.optional (element a)) c.if-take_where.ensures (phrase_deepens (c.in_err-tree-2.ensures.failed.deep h g ok) (λ a q. ((λ x xs _. omega (arith, q)), omega (arith, q)))));
      long = λ h. let l = c.in_err-tree-2.ensures.failed.long h in omega (arith, l, c.if-take.ensures.at, c.if-take_where.ensures.at);
    })

pub members::member-returns-clause-read : goal.members::member-returns-clause-read
unfolding grammar
members::member-returns-clause-read t c =
    record {
      leads = record {
        reads = λ g a e u d. stayed c.if-take.ensures (unasked c.args.optional (after_question c.args.place.inside) (phrase (expression c.args.place.inside) λ a. after_member c.args.place.inside c.args.optional (element a)) c.if-take_where.ensures (reads (c.in_ok-tree-2.ensures.read.reads g a) (d)));
        fails = λ g a u d. stayed_fails c.if-take.ensures (unasked_fails c.args.optional (after_question c.args.place.inside) (phrase (expression c.args.place.inside) λ a. after_member c.args.place.inside c.args.optional (element a)) c.if-take_where.ensures (then_fails (c.in_ok-tree-2.ensures.read.reads g a) (d)));
        deep = λ g ok n r d. stayed_deepens c.if-take.ensures (unasked_deepens c.args.optional (after_question c.args.place.inside) (phrase (expression c.args.place.inside) λ a. after_member c.args.place.inside c.args.optional (element a)) c.if-take_where.ensures (then_deepens (c.in_ok-tree-2.ensures.read.reads g ok) (d)));
      };
      fits = omega (arith, c.in_ok-tree-2.ensures.read.fits);
      tokens = omega (arith, c.in_ok-tree-2.ensures.read.tokens, c.if-take.ensures.at, c.if-take_where.ensures.at);
    }

pub members::after_question-returns-in_err-name-clause-failed : goal.members::after_question-returns-in_err-name-clause-failed
unfolding grammar
members::after_question-returns-in_err-name-clause-failed t c =
    let p = err_from_is_err_and c.from_residual.result c.from_residual.ensures.1 in
    passed _ p.1 p.2 (no_memory c.in_err-name.ensures.0)

pub members::after_question-returns-in_default-clause-failed : goal.members::after_question-returns-in_default-clause-failed
unfolding grammar
members::after_question-returns-in_default-clause-failed t c =
    let no_name = none_of (Stays (λ x. is_some (name_at x)) c.args.tokens.now c.take_name.new.self) (λ s. Takes (Name s) c.args.tokens.now c.take_name.new.self) _ c.in_default.not-Some c.in_ok-name.ensures in
    refused refl (λ g a. stayed_fails no_name refuses)

pub members::after_question-returns-in_err-below-clause-failed : goal.members::after_question-returns-in_err-below-clause-failed
unfolding grammar
members::after_question-returns-in_err-below-clause-failed t c =
    let p = err_from_is_err_and c.from_residual-in_err-below.result c.from_residual-in_err-below.ensures.1 in
    let k = rw c.in-Some.is at c.in_ok-name.ensures in
    let none = c.in_err-below.ensures.1 in
    passed _ p.1 p.2 (too_high c.in_err-below.ensures.0 (λ g ok. took_deepens k refl (meets_at_once (can_take (Sign Assign) refl can_read) ((λ y a _. ((λ z xs _. omega (arith, none, height_positive a)), omega (arith, none, height_positive a))), ((λ z xs _. omega (arith, none)), omega (arith, none))))) (omega (arith, none, k.at)))

pub members::after_question-returns-then-not-take-clause-read : goal.members::after_question-returns-then-not-take-clause-read
unfolding grammar
members::after_question-returns-then-not-take-clause-read t c =
    let k = rw c.in-Some.is at c.in_ok-name.ensures in
    record {
      leads = rw (c.in_ok-variable.ensures.ok, c.new.ensures) (record {
        reads = λ g a e u d. took k refl (stayed c.if-not-take.ensures (d));
        fails = λ g a u d. took_fails k refl (stayed_fails c.if-not-take.ensures (d));
        deep = λ g ok n r d. took_deepens k refl (stayed_deepens c.if-not-take.ensures (d));
      });
      fits = omega (arith, c.in_ok-below.ensures);
      tokens = omega (arith, k.at, c.if-not-take.ensures.at);
    }

pub members::after_question-returns-in_err-tree-clause-failed : goal.members::after_question-returns-in_err-tree-clause-failed
unfolding grammar
members::after_question-returns-in_err-tree-clause-failed t c =
    let p = err_from_is_err_and c.from_residual-in_err-tree.result c.from_residual-in_err-tree.ensures.1 in
    let k = rw c.in-Some.is at c.in_ok-name.ensures in
    passed _ p.1 p.2 (record {
      fails = λ g b. took_fails k refl (took_fails c.if-not-take.ensures refl (phrase_fails (c.in_err-tree.ensures.failed.fails g b)));
      stands = c.in_err-tree.ensures.failed.stands;
      deep = λ h g ok. took_deepens k refl (took_deepens c.if-not-take.ensures refl (phrase_deepens (c.in_err-tree.ensures.failed.deep h g ok) (λ a q. ((λ x xs _. omega (arith, q)), omega (arith, q)))));
      long = λ h. let l = c.in_err-tree.ensures.failed.long h in omega (arith, l, k.at, c.if-not-take.ensures.at);
    })

pub members::after_question-returns-clause-read : goal.members::after_question-returns-clause-read
unfolding grammar
members::after_question-returns-clause-read t c =
    let k = rw c.in-Some.is at c.in_ok-name.ensures in
    record {
      leads = rw (c.in_ok-variable.ensures.ok, c.new.ensures) (record {
        reads = λ g a e u d. took k refl (took c.if-not-take.ensures refl (reads (c.in_ok-tree.ensures.read.reads g a) (d)));
        fails = λ g a u d. took_fails k refl (took_fails c.if-not-take.ensures refl (then_fails (c.in_ok-tree.ensures.read.reads g a) (d)));
        deep = λ g ok n r d. took_deepens k refl (took_deepens c.if-not-take.ensures refl (then_deepens (c.in_ok-tree.ensures.read.reads g ok) (d)));
      });
      fits = omega (arith, c.in_ok-tree.ensures.read.fits);
      tokens = omega (arith, k.at, c.in_ok-tree.ensures.read.tokens, c.if-not-take.ensures.at);
    }
