use Rattle.std.proofs.Common.{◌≡◌, [], sym, ◌∙◌, ap, arith, drop}
use Rattle.std.specs.Option.{option_map}
use Rattle.std.proofs.lemmas.List.{drop_all}
use Rattle.moo_value.specs.Compare.{folded}
use Rattle.moo_world_tree.specs.Walk.{met}
use Rattle.moo_world_table.specs.Steps.{changed_along, with_new_cell_name}
use Rattle.moo_world_table.proofs.NewNames.{name_taken, name_there, next_changed}
use Rattle.moo_world_table.proofs.renaming.rename_along.Goals as goal

pub loop-step-preserved : goal.loop-step-preserved
loop-step-preserved c =
    let walk = c.args.walk.now in
    let i = c.loop-step.step-index in
    let inside = c.requires i c.loop-step-test.true in
    record {
      left = λ n given. (name_taken n c.in-Some.new_name c.loop-step.names.items c.pop.new.self.items walk i c.loop-step-test.true (c.loop-step.invariant.left n given) c.in-Some.ensures.items).1;
      rest = λ n given.
          let name = (name_taken n c.in-Some.new_name c.loop-step.names.items c.pop.new.self.items walk i c.loop-step-test.true (c.loop-step.invariant.left n given) c.in-Some.ensures.items).0 in
          next_changed (option_map (with_new_cell_name (c.args.definer, folded c.args.name.now) (folded n))) c.loop-step.objects.items _ walk i c.index_mut.result.now c.rename_in.new.slot c.loop-step-test.true
          (omega (arith, inside, c.loop-step.invariant.many, c.loop-step.objects.ok.0)) c.index_mut.ensures.value (c.rename_in.ensures ∙ ap (λ m. option_map (with_new_cell_name (c.args.definer, folded c.args.name.now) (folded m)) c.index_mut.result.now) name) (c.loop-step.invariant.rest n given);
      many = c.loop-step.invariant.many;
    }

pub returns-in_default : goal.returns-in_default
returns-in_default c = λ n given. absurd (name_there n c.loop-step.names.items c.args.walk.now c.loop-step.step-index c.loop-step-test.true (c.loop-step.invariant.left n given) (let none = c.in_default.ensures.cases.0 in omega (arith, none, c.loop-step.names.ok.0)))

pub returns : goal.returns
returns c = λ n given.
    let none : drop c.loop-step.step-index c.args.walk.now ≡ [] = drop_all c.loop-step.step-index c.args.walk.now (omega (arith, c.loop-step-test.false)) in
    ap (λ ys. changed_along (option_map (with_new_cell_name (c.args.definer, folded c.args.name.now) (folded n))) c.loop-step.objects.items (met ys)) (sym none) ∙ c.loop-step.invariant.rest n given
