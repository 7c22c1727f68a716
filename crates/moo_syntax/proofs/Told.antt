-- The consequences for a place of the rule that stops the reading of a text there.
use Rattle.std.proofs.Common.{ℕ, ◌+◌, ◌≤◌, List, [], ◌∷◌, ◌≡◌, sym, ◌∙◌, ap, subst, true, false, Some, None, length, take, drop, arith, length-drop}
use Rattle.std.proofs.Math.Seq.{take-append_seam, drop-append_seam}
use Rattle.std.proofs.lemmas.List.{length-append}
use Rattle.moo_syntax_token.specs.declared.sign.Sign.TheVariants.{Assign}
use Rattle.moo_syntax_token.specs.declared.token.Token.{Token}
use Rattle.moo_syntax_token.specs.declared.token.Spot.{Spot}
use Rattle.moo_syntax_grammar.specs.declared.names.Names.{Names}
use Rattle.moo_syntax_grammar.specs.Tokens.{words, is_sign, next_passes}
use Rattle.moo_syntax_grammar.specs.Rules.{Rules, has_loop}
use Rattle.moo_syntax_grammar.specs.Grammar.{Derives, conditional, statements, block}
use Rattle.moo_syntax_grammar.specs.Machine.{by_rule, Fails}
use Rattle.moo_syntax_grammar.specs.Predictive.{grammar}
use Rattle.moo_syntax_grammar.proofs.Admitted.{admitted, loose_admits}
use Rattle.moo_syntax.specs.Places.{IsCalled, is_jump}
use Rattle.moo_syntax.specs.Ground.{of_value, outside, ground_after, ground_at}
use Rattle.moo_syntax.specs.Programs.{with_targets, with_functions, with_loops, AssignsNoTarget, IsBadJump, outside_loops, of_no_loop}
use Rattle.moo_syntax.proofs.Walks.{Place, Wrong, at_target, at_call, at_jump, at_label}
use Rattle.moo_syntax.proofs.AllWalks.{rule_stops}
use Rattle.moo_syntax.proofs.Words.{words_drop, words_length}

front_is : {all : List Token} (p : Place all) → take (length p.front) all ≡ p.front
front_is p = subst (λ v. take (length p.front) v ≡ p.front) p.whole (take-append_seam p.front p.rest)

rest_is : {all : List Token} (p : Place all) → drop (length p.front) all ≡ p.rest
rest_is p = subst (λ v. drop (length p.front) v ≡ p.rest) p.whole (drop-append_seam p.front p.rest)

length_is : {all : List Token} (p : Place all) → length p.front + length p.rest ≡ length all
length_is p = sym (length-append p.front p.rest) ∙ ap length p.whole

module _ (spots : List Spot) (at : ℕ) (within : at ≤ length spots) where
  -- where the rest is that at the place, so is the front
  at_front : (p : Place (words spots)) → p.rest ≡ words (drop at spots) → length p.front ≡ at
  at_front p is = omega (arith, length_is p, ap length is, words_length spots, words_length (drop at spots), length-drop at spots, within)

  rest_of : (p : Place (words spots)) → words (drop (length p.front) spots) ≡ p.rest
  rest_of p = words_drop (length p.front) spots ∙ rest_is p

  no_target_there : (p : Place (words spots)) → p.rest ≡ words (drop at spots) → next_passes (is_sign Assign) (words (drop at spots)) ≡ true → Wrong with_targets (words spots) p → AssignsNoTarget spots at
  no_target_there p is h (at_target b i a free d wrong) = record {
    before = length b.front;
    free = subst (λ ts. (ground_after outside ts).naming ≡ of_value) (sym (front_is b)) free;
    inside = i;
    value = a;
    read = admitted (loose_admits with_targets) (subst (λ v. Derives with_targets (conditional i) (words (drop (length b.front) spots)) a v) is (subst (λ v. Derives with_targets (conditional i) v a p.rest) (sym (rest_of b)) d));
    assigns = h;
    no_target = wrong;
  }
  no_target_there p is h (at_call b s free e wrong) = absurd cc
  no_target_there p is h (at_jump e wrong) = absurd cc
  no_target_there p is h (at_label b x s r j e i wrong) = absurd cc

  free_there : (names : Names) (s : List ℕ) (c : IsCalled spots at s) (p : Place (words spots)) → p.rest ≡ words (drop at spots) → Wrong (with_functions names) (words spots) p → (ground_at spots c.before).naming ≡ of_value
  free_there names s c p is (at_call b x free e wrong) =
      let before : length b.front ≡ c.before = omega (arith, length_is b, length_is p, at_front p is, ap length e, c.place) in
      subst (λ n. (ground_after outside (take n (words spots))).naming ≡ of_value) before (subst (λ ts. (ground_after outside ts).naming ≡ of_value) (sym (front_is b)) free)
  free_there names s c p is (at_target b i a free d wrong) = absurd cc
  free_there names s c p is (at_jump e wrong) = absurd cc
  free_there names s c p is (at_label b x t r j e i wrong) = absurd cc

  bad_jump_there : (p : Place (words spots)) → p.rest ≡ words (drop at spots) → Wrong with_loops (words spots) p → IsBadJump spots at
  bad_jump_there p is (at_jump h wrong) =
      let front : take at (words spots) ≡ p.front = subst (λ n. take n (words spots) ≡ p.front) (at_front p is) (front_is p) in
      outside_loops (subst (λ v. next_passes is_jump v ≡ true) is h) (subst (λ ts. has_loop (ground_after outside ts).loops None ≡ false) (sym front) wrong)
  bad_jump_there p is (at_label b x s r j e i wrong) =
      let front : take at (words spots) ≡ p.front = subst (λ n. take n (words spots) ≡ p.front) (at_front p is) (front_is p) in
      let before : length b.front + 1 ≡ at = omega (arith, length_is b, length_is p, at_front p is, ap length e) in
      subst (IsBadJump spots) before (of_no_loop (length b.front) {rest = r} j (rest_of b ∙ e ∙ ap (λ v. x ∷ v) i) (subst (λ n. has_loop (ground_at spots n).loops (Some s) ≡ false) (sym before) (subst (λ ts. has_loop (ground_after outside ts).loops (Some s) ≡ false) (sym front) wrong)))
  bad_jump_there p is (at_target b i a free d wrong) = absurd cc
  bad_jump_there p is (at_call b s free e wrong) = absurd cc

  module _ (g : Rules) (stops : Fails (grammar g) by_rule block (grammar g (statements [])) (words spots) (words (drop at spots))) where
    there : (p : Place (words spots)) × (p.rest ≡ words (drop at spots)) × Wrong g (words spots) p
    there = rule_stops g (words spots) (words (drop at spots)) stops

  pub told_target : next_passes (is_sign Assign) (words (drop at spots)) ≡ true → Fails (grammar with_targets) by_rule block (grammar with_targets (statements [])) (words spots) (words (drop at spots)) → AssignsNoTarget spots at
  told_target h f = let t = there with_targets f in no_target_there t.0 t.1 h t.2

  pub told_call : (names : Names) (s : List ℕ) (c : IsCalled spots at s) → Fails (grammar (with_functions names)) by_rule block (grammar (with_functions names) (statements [])) (words spots) (words (drop at spots)) → (ground_at spots c.before).naming ≡ of_value
  told_call names s c f = let t = there (with_functions names) f in free_there names s c t.0 t.1 t.2

  pub told_jump : Fails (grammar with_loops) by_rule block (grammar with_loops (statements [])) (words spots) (words (drop at spots)) → IsBadJump spots at
  told_jump f = let t = there with_loops f in bad_jump_there t.0 t.1 t.2
