use Rattle.std.proofs.Common.{arith, sym, ap, ◌∙◌}
use Rattle.moo_syntax_grammar.proofs.Heights.{items_height_push}
use Rattle.moo_syntax.specs.Items.{optional_with}
use Rattle.moo_syntax.proofs.Options.{optional_push}
use Rattle.moo_syntax.proofs.node.Members.push.Goals as goal

pub invariant_of-self-2 : goal.invariant_of-self-2
invariant_of-self-2 c =
    let old = c.args.self.now in
    record {
      in_step = rw c.in_ok-push.ensures.items (omega (arith, items_height_push old.items.items c.args.member.item, old.in_step, c.args.member.in_step, c.max-self.ensures));
      told = rw c.in_ok-push.ensures.items (c.optional_with-optional.ensures ∙ ap (λ b. optional_with b c.args.member.item) old.told ∙ sym (optional_push old.items.items c.args.member.item));
    }
