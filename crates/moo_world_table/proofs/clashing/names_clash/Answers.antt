use Rattle.std.proofs.Common.{◌≡◌, sym, ◌∙◌, arith, length}
use Rattle.std.proofs.lemmas.Bool.{eqb-true}
use Rattle.moo_world_tree.specs.Walk.{met}
use Rattle.moo_world_table.proofs.NamesMet.{none_named, clash_found}
use Rattle.moo_world_table.proofs.clashing.names_clash.Goals as goal

pub returns-then-is_empty : goal.returns-then-is_empty
returns-then-is_empty c =
    let empty = eqb-true _ _ (sym c.is_empty.ensures ∙ c.if-is_empty.true) in
    let none : length c.in_ok-own.own.items ≡ 0 = omega (arith, empty, c.in_ok-own.own.ok.0) in
    none_named c.args.objects.now c.args.cells.now (met c.args.walk.now) c.in_ok-own.own.items c.in_ok-own.ensures none

pub returns : goal.returns
returns c = clash_found c.some_stands_in.result c.args.objects.now c.args.cells.now (met c.args.walk.now) c.deref.result.now c.deref-2.result.now
    (c.deref.ensures.value ∙ c.in_ok-gained.ensures) (c.deref-2.ensures.value ∙ c.in_ok-own.ensures) c.some_stands_in.ensures
