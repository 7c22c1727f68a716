use Rattle.std.proofs.Common.{◌+◌, ap, sym, ◌∙◌, drop}
use Rattle.std.proofs.lemmas.List.{drop_all}
use Rattle.moo_syntax_ast.specs.View.{items_of}
use Rattle.moo_syntax_node.proofs.Items.{errors_before, errors_last, errors_alone, item_at}
use Rattle.moo_syntax_lower.proofs.item.literal_errors.Goals as goal

pub loop-item-preserved : goal.loop-item-preserved
loop-item-preserved c =
    let xs = c.args.items.now in
    let i = c.loop-item.item-index in
    let errors = c.loop-item.errors.items in
    let rest = items_of (drop (i + 1) xs) in
    rw c.in_ok-push.ensures.items (errors_last errors c.in-Some.error rest ∙ ap (errors_before errors) (sym (c.in-Some.ensures rest) ∙ item_at xs i c.item-item.result c.loop-item-test.true c.item-item.is) ∙ c.loop-item.invariant)

pub returns : goal.returns
returns c =
    let errors = c.loop-item.errors.items in
    sym c.loop-item.invariant ∙ ap (λ xs. errors_before errors (items_of xs)) (drop_all c.loop-item.item-index c.args.items.now c.loop-item-test.false) ∙ errors_alone errors
