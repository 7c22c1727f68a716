-- Each phrase of the grammar is read as it is, if no token after it continues it.
use Rattle.std.proofs.Common.{List, ◌≡◌, Bool, true, false, refl, ap, is_some, arith}
use Rattle.moo_syntax_token.specs.declared.sign.Sign.TheVariants.{LeftParen, LeftBracket, Comma, Dot, Colon, Assign, Question, Caret}
use Rattle.moo_syntax_token.specs.declared.keyword.Keyword.TheVariants.{If, For, While, Break, Continue, Return, Try}
use Rattle.moo_syntax_token.specs.declared.token.Token.{Token}
use Rattle.moo_syntax_grammar.specs.Rules.{Rules}
use Rattle.moo_syntax_grammar.specs.Grammar
use Rattle.moo_syntax_grammar.specs.Grammar.{Sort, Of, Kind, Derives, sort, has_optional}
use Rattle.moo_syntax_grammar.specs.Tokens.{is_sign, next_passes}
use Rattle.moo_syntax_ast.specs.Tree.{Expr, Items}
use Rattle.moo_syntax_grammar.specs.Machine.{Reading, Reads, gives, takes, sees, misses, reads}
use Rattle.moo_syntax_grammar.specs.Predictive.{grammar, allowed, if_optional, after_brace}
use Rattle.moo_syntax_grammar.proofs.Choices.{Follows, first, no_sign, no_operator, no_name, closer_is_loose, primary_is_unsigned, expression_is_no_splice, expression_is_no_optional, expression_is_no_end, member_is_no_closer, more_follows, suffix_follows, expression_is_no_keyword, at_paren, end_if, end_try, at_except, arms_end, may_jump_out}

module _ {f : (k : Kind) → Reading (sort k)} {s : Sort} {ts r : List Token} {e : Of s} where
  -- where a rule is kept
  pub allowed_reads : {b : Bool} {p : Reading s} → b ≡ true → Reads f s p ts e r → Reads f s (allowed b p) ts e r
  allowed_reads is d = rw is d

no_optional_reads : {f : (k : Kind) → Reading (sort k)} (o : Bool) (p q : Reading Sort.items) {ts r : List Token} {e : Items} → next_passes (is_sign Question) ts ≡ false → Reads f Sort.items q ts e r → Reads f Sort.items (if_optional o p q) ts e r
no_optional_reads true p q h d = misses h d
no_optional_reads false p q h d = d

after_items_reads : {f : (k : Kind) → Reading (sort k)} {b : Bool} {e : Expr} {r : List Token} → b ≡ false → Reads f Sort.expr (after_brace b e) r e r
after_items_reads is = rw is gives

after_brace_reads : {f : (k : Kind) → Reading (sort k)} (b : Bool) {e : Expr} {r : List Token} → next_passes (is_sign Assign) r ≡ true → Reads f Sort.expr (after_brace b e) r e r
after_brace_reads true h = sees h gives
after_brace_reads false h = gives

pub complete : {g : Rules} {k : Kind} {ts r : List Token} {e : Of (sort k)} → Derives g k ts e r → Follows k r → Reads (grammar g) (sort k) (grammar g k) ts e r
unfolding grammar
complete {r} (Grammar.plain d) h = reads (complete d (omega arith)) (misses (no_sign Assign r (omega arith)) gives)
complete (Grammar.assigns is c d) h = reads (complete c (omega arith)) (sees refl (allowed_reads is (takes (reads (complete d h) gives))))
complete {r} (Grammar.unconditional d) h = reads (complete d (omega arith)) (misses (no_sign Question r (omega arith)) gives)
complete (Grammar.chooses b c d) h = reads (complete b (omega arith)) (sees refl (takes (reads (complete c (omega arith)) (sees refl (takes (reads (complete d h) gives))))))
complete (Grammar.chained c d) h = reads (complete c (more_follows d h)) (reads (complete d h) gives)
complete (Grammar.no_more) h = misses (no_operator _ _ h) gives
complete (Grammar.one_more is c d) h = sees (ap is_some is) (takes (rw is (reads (complete c (more_follows d h)) (reads (complete d h) gives))))
complete (Grammar.relations d) h = reads (complete d h) gives
complete (Grammar.sums d) h = reads (complete d h) gives
complete (Grammar.products d) h = reads (complete d h) gives
complete (Grammar.powers d) h = reads (complete d h) gives
complete {r} (Grammar.unraised d) h = reads (complete d (omega arith)) (misses (no_sign Caret r (omega arith)) gives)
complete (Grammar.raised c d) h = reads (complete c (omega arith)) (sees refl (takes (reads (complete d h) gives)))
complete (Grammar.inverts d) h = sees refl (takes (reads (complete d h) gives))
complete (Grammar.negates d) h = misses refl (sees refl (takes (reads (complete d h) gives)))
complete (Grammar.unsigned d) h = let n = primary_is_unsigned _ (first d) in misses n.0 (misses n.1 (reads (complete d h) gives))
complete (Grammar.based c d) h = reads (complete c (suffix_follows d h)) (reads (complete d h) gives)
complete {r} Grammar.no_suffix h = misses (no_sign Dot r (omega arith)) (misses (no_sign Colon r (omega arith)) (misses (no_sign LeftBracket r (omega arith)) gives))
complete (Grammar.property_named d) h = sees refl (takes (sees refl (takes (reads (complete d h) gives))))
complete (Grammar.property_computed c d) h = sees refl (takes (misses refl (sees refl (takes (reads (complete c (omega arith)) (sees refl (takes (reads (complete d h) gives))))))))
complete (Grammar.verb_named c d) h = misses refl (sees refl (takes (sees refl (takes (sees refl (takes (reads (complete c refl) (sees refl (takes (reads (complete d h) gives))))))))))
complete (Grammar.verb_computed b c d) h = misses refl (sees refl (takes (misses refl (sees refl (takes (reads (complete b (omega arith)) (sees refl (takes (sees refl (takes (reads (complete c refl) (sees refl (takes (reads (complete d h) gives))))))))))))))
complete (Grammar.indexed c d) h = misses refl (misses refl (sees refl (takes (reads (complete c (omega arith)) (misses refl (sees refl (takes (reads (complete d h) gives))))))))
complete (Grammar.ranged b c d) h = misses refl (misses refl (sees refl (takes (reads (complete b (omega arith)) (sees refl (takes (reads (complete c (omega arith)) (sees refl (takes (reads (complete d h) gives))))))))))
complete (Grammar.constant is) h = sees (ap is_some is) (takes (rw is gives))
complete {r} Grammar.name h = misses refl (sees refl (takes (misses (no_sign LeftParen r (omega arith)) gives)))
complete (Grammar.called is d) h = misses refl (sees refl (takes (sees refl (allowed_reads is (takes (reads (complete d refl) (sees refl (takes gives))))))))
complete {r} Grammar.system_property h = misses refl (misses refl (misses refl (misses refl (sees refl (takes (sees refl (takes (misses (no_sign LeftParen r (omega arith)) gives))))))))
complete (Grammar.system_verb d) h = misses refl (misses refl (misses refl (misses refl (sees refl (takes (sees refl (takes (sees refl (takes (reads (complete d refl) (sees refl (takes gives))))))))))))
complete {r} Grammar.dollar h = misses refl (misses refl (misses refl (misses refl (sees refl (takes (misses (no_name r (omega arith)) gives))))))
complete (Grammar.grouped d) h = misses refl (misses refl (sees refl (takes (reads (complete d (omega arith)) (sees refl (takes gives))))))
complete (Grammar.listed is d) h = misses refl (misses refl (misses refl (sees refl (takes (reads (complete d refl) (sees refl (takes (after_items_reads is))))))))
complete (Grammar.scattered {xs = xs} d) h = misses refl (misses refl (misses refl (sees refl (takes (reads (complete d refl) (sees refl (takes (after_brace_reads (has_optional xs) refl))))))))
complete (Grammar.catches c d) h = misses refl (misses refl (misses refl (misses refl (misses refl (sees refl (takes (reads (complete c (omega arith)) (sees refl (takes (reads (complete d (omega arith)) (misses refl (sees refl (takes gives)))))))))))))
complete (Grammar.catches_or b c d) h = misses refl (misses refl (misses refl (misses refl (misses refl (sees refl (takes (reads (complete b (omega arith)) (sees refl (takes (reads (complete c (omega arith)) (sees refl (takes (reads (complete d (omega arith)) (sees refl (takes gives)))))))))))))))
complete Grammar.any_code h = sees refl (takes gives)
complete (Grammar.these_codes d) h = misses (member_is_no_closer _ (first d)).1 (reads (complete d h) gives)
complete Grammar.no_arguments h = sees h gives
complete (Grammar.some_arguments d) h = misses (member_is_no_closer _ (first d)).0 (reads (complete d (closer_is_loose _ h)) gives)
complete {r} (Grammar.one_element {o = o} d) h = misses (expression_is_no_splice _ (first d)) (no_optional_reads o _ _ (expression_is_no_optional _ (first d)) (reads (complete d (omega arith)) (misses (no_sign Comma r (omega arith)) gives)))
complete (Grammar.an_element {o = o} c d) h = misses (expression_is_no_splice _ (first c)) (no_optional_reads o _ _ (expression_is_no_optional _ (first c)) (reads (complete c (omega arith)) (sees refl (takes (reads (complete d h) gives)))))
complete {r} (Grammar.one_splice d) h = sees refl (takes (reads (complete d (omega arith)) (misses (no_sign Comma r (omega arith)) gives)))
complete (Grammar.a_splice c d) h = sees refl (takes (reads (complete c (omega arith)) (sees refl (takes (reads (complete d h) gives)))))
complete {r} Grammar.one_optional h = misses refl (sees refl (takes (sees refl (takes (misses (no_sign Assign r (omega arith)) (misses (no_sign Comma r (omega arith)) gives))))))
complete (Grammar.an_optional d) h = misses refl (sees refl (takes (sees refl (takes (misses refl (sees refl (takes (reads (complete d h) gives))))))))
complete {r} (Grammar.one_default d) h = misses refl (sees refl (takes (sees refl (takes (sees refl (takes (reads (complete d (omega arith)) (misses (no_sign Comma r (omega arith)) gives))))))))
complete (Grammar.a_default c d) h = misses refl (sees refl (takes (sees refl (takes (sees refl (takes (reads (complete c (omega arith)) (sees refl (takes (reads (complete d h) gives))))))))))
complete (Grammar.branch b c d) h = sees refl (takes (reads (complete b tt) (reads (complete c (arms_end d refl)) (reads (complete d refl) (sees refl (takes gives))))))
complete (Grammar.for_elements {ts = ts} c d) h = misses refl (sees refl (takes (sees refl (takes (sees refl (takes (misses (at_paren ts (first c)).0 (reads (complete c tt) (reads (complete d refl) (sees refl (takes gives)))))))))))
complete (Grammar.for_numbers b c d) h = misses refl (sees refl (takes (sees refl (takes (sees refl (takes (sees refl (takes (reads (complete b (omega arith)) (sees refl (takes (reads (complete c (omega arith)) (sees refl (takes (reads (complete d refl) (sees refl (takes gives)))))))))))))))))
complete (Grammar.while_true {m = m} b c d) h = misses refl (misses refl (sees refl (takes (reads (complete b (at_paren m (first c)).1) (reads (complete c tt) (reads (complete d refl) (sees refl (takes gives))))))))
complete (Grammar.breaks_loop is) h = misses refl (misses refl (misses refl (sees refl (allowed_reads is (takes (misses refl (misses refl (sees refl (takes gives)))))))))
complete {g} (Grammar.breaks_named {ls = ls} {x = x} is) h = misses refl (misses refl (misses refl (sees refl (allowed_reads (may_jump_out g ls x is) (takes (sees (rw is refl) (takes (rw is (sees refl (takes gives))))))))))
complete (Grammar.continues_loop is) h = misses refl (misses refl (misses refl (misses refl (sees refl (allowed_reads is (takes (misses refl (misses refl (sees refl (takes gives))))))))))
complete {g} (Grammar.continues_named {ls = ls} {x = x} is) h = misses refl (misses refl (misses refl (misses refl (sees refl (allowed_reads (may_jump_out g ls x is) (takes (sees (rw is refl) (takes (rw is (sees refl (takes gives)))))))))))
complete Grammar.returns_nothing h = misses refl (misses refl (misses refl (misses refl (misses refl (sees refl (takes (sees refl (takes gives))))))))
complete (Grammar.returns_value d) h = misses refl (misses refl (misses refl (misses refl (misses refl (sees refl (takes (misses (expression_is_no_end _ (first d)) (reads (complete d (omega arith)) (sees refl (takes gives))))))))))
complete (Grammar.tries {m = m} c d) h = misses refl (misses refl (misses refl (misses refl (misses refl (misses refl (sees refl (takes (reads (complete c (at_except m (first d)).0) (misses (at_except m (first d)).1 (reads (complete d refl) (sees refl (takes gives))))))))))))
complete (Grammar.cleans_up c d) h = misses refl (misses refl (misses refl (misses refl (misses refl (misses refl (sees refl (takes (reads (complete c refl) (sees refl (takes (reads (complete d refl) (sees refl (takes gives)))))))))))))
complete (Grammar.performed d) h = misses (expression_is_no_keyword If _ (first d)) (misses (expression_is_no_keyword For _ (first d)) (misses (expression_is_no_keyword While _ (first d)) (misses (expression_is_no_keyword Break _ (first d)) (misses (expression_is_no_keyword Continue _ (first d)) (misses (expression_is_no_keyword Return _ (first d)) (misses (expression_is_no_keyword Try _ (first d)) (reads (complete d (omega arith)) (sees refl (takes gives)))))))))
complete {r} Grammar.no_arms h = let e = end_if r h in misses e.1 (misses e.2 gives)
complete {r} (Grammar.last_arm d) h = misses refl (sees refl (takes (reads (complete d (end_if r h).0) gives)))
complete (Grammar.an_arm b c d) h = sees refl (takes (reads (complete b tt) (reads (complete c (arms_end d h)) (reads (complete d h) gives))))
complete {r} (Grammar.one_handler b c d) h = sees refl (takes (reads (complete b refl) (sees refl (takes (reads (complete c (omega arith)) (sees refl (takes (reads (complete d (end_try r h).0) (misses (end_try r h).1 gives)))))))))
complete (Grammar.a_handler {o = o} a b c d) h = sees refl (takes (reads (complete a refl) (sees refl (takes (reads (complete b (omega arith)) (sees refl (takes (reads (complete c (at_except o (first d)).0) (sees (first d) (reads (complete d h) gives))))))))))
complete (Grammar.parenthesized d) h = sees refl (takes (reads (complete d (omega arith)) (sees refl (takes gives))))
complete Grammar.unlabelled h = misses h gives
complete Grammar.labelled h = sees refl (takes gives)
complete Grammar.no_statements h = misses h gives
complete (Grammar.one_statement c d) h = let f = first c in sees f.0 (misses f.1 (reads (complete c tt) (reads (complete d h) gives)))
complete (Grammar.an_end d) h = sees refl (sees refl (takes (reads (complete d h) gives)))
