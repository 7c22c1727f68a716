use Rattle.std.proofs.Common.{◌+◌, List, ℕ, ap, sym, ◌∙◌, drop}
use Rattle.std.proofs.lemmas.List.{drop_all}
use Rattle.moo_syntax_ast.specs.Tree.{element, variable}
use Rattle.moo_syntax_ast.specs.View.{items_of}
use Rattle.moo_syntax_node.proofs.Items.{named_before, named_last, named_alone, item_at}
use Rattle.moo_syntax_lower.proofs.assignment.names_of.Goals as goal

pub loop-item-preserved : goal.loop-item-preserved
loop-item-preserved c =
    let xs = c.args.items.now in
    let i = c.loop-item.item-index in
    let names = c.loop-item.names.items in
    let rest = items_of (drop (i + 1) xs) in
    rw c.in_ok-push.ensures.items (named_last names c.in_ok-copied_name.field-0 rest ∙ ap (λ (v : List ℕ). named_before names (element (variable v) rest)) c.in_ok-copied_name.ensures ∙ ap (named_before names) (sym (c.in-Some.ensures rest) ∙ item_at xs i c.item-item.result c.loop-item-test.true c.item-item.is) ∙ c.loop-item.invariant)

pub returns : goal.returns
returns c =
    let names = c.loop-item.names.items in
    sym c.loop-item.invariant ∙ ap (λ xs. named_before names (items_of xs)) (drop_all c.loop-item.item-index c.args.items.now c.loop-item-test.false) ∙ named_alone names
