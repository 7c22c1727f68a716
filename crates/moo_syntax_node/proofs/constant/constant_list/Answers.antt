use Rattle.std.proofs.Common.{◌≡◌, ◌+◌, ◌∷◌, [], ◌++◌, ap, sym, ◌∙◌, drop, arith}
use Rattle.std.proofs.lemmas.List.{drop_all, map-append}
use Rattle.moo_value.specs.Tree.{elements_of}
use Rattle.moo_value.specs.View.{tree, trees}
use Rattle.moo_syntax_ast.specs.Tree.{element}
use Rattle.moo_syntax_node.specs.Source.{with_source, source_items}
use Rattle.moo_syntax_node.specs.Spelling.{spelled, spelled_items, nodes_of}
use Rattle.moo_syntax_node.proofs.Constants.{spelled_before, spelled_last, spelled_alone, nodes_last, source_at}
use Rattle.moo_syntax_node.proofs.constant.constant_list.Goals as goal

pub loop-item-preserved : goal.loop-item-preserved
loop-item-preserved c =
    let xs = c.args.items.now in
    let i = c.loop-item.item-index in
    let ts = trees c.loop-item.values.items in
    let t = tree c.in-Some.value in
    let rest = source_items (drop (i + 1) xs) in
    let here : with_source c.item-item.result rest ≡ element (spelled t) rest = (rw c.in-Some.is at c.in_ok-value.ensures.spelled) rest in
    let count : c.in-Some.count ≡ nodes_of t = rw c.in-Some.is at c.in_ok-value.ensures.nodes in
    let more : trees c.push.new.self.items ≡ ts ++ t ∷ [] = ap trees c.in_ok-push.ensures.items ∙ map-append tree c.loop-item.values.items (c.in-Some.value ∷ []) in
    rw more (
      spelled_last ts t rest ∙ ap (spelled_before ts) (sym here ∙ source_at xs i c.item-item.result c.loop-item-test.true c.item-item.is) ∙ c.loop-item.invariant.0,
      omega (arith, c.loop-item.invariant.1, count, c.in-Some-checked_add.ensures, nodes_last ts t),
    )

pub returns-in-Ok : goal.returns-in-Ok
returns-in-Ok c =
    let ts = trees c.loop-item.values.items in
    sym c.loop-item.invariant.0 ∙ ap (λ xs. spelled_before ts (source_items xs)) (drop_all c.loop-item.item-index c.args.items.now c.loop-item-test.false) ∙ spelled_alone ts ∙ ap (λ l. spelled_items (elements_of l)) (sym c.in-Ok.ensures.ok)
