use Rattle.std.proofs.Common.{sym, ◌∙◌, ap, subst, IsSome}
use Rattle.std.proofs.lemmas.Result.{err_from_is_err_and}
use Rattle.std.specs.Option.{option_copied}
use Rattle.moo_value.specs.Compare.{folded}
use Rattle.moo_world_object.specs.Cells.{Key}
use Rattle.moo_world_table.specs.World.{World, object_of}
use Rattle.moo_world_table.specs.Properties.{definition_named}
use Rattle.moo_world.specs.InfoCalls.{rename_raises}
use Rattle.moo_world_table.proofs.ValueChanges.{definition_is}
use Rattle.moo_world.proofs.Informing.{still_err, no_info, info_named, info_unnamed, found_then}
use Rattle.moo_world.proofs.World.test_info.Goals as goal

pub returns-in_default-clause-definer : goal.returns-in_default-clause-definer
returns-in_default-clause-definer c =
    let w : World = record { objects = c.self.inside.objects.items; inheritance = c.self.inside.inheritance; containment = c.self.inside.containment; players = c.self.inside.players.items } in
    let valid = subst (λ v. IsSome (object_of v.objects c.args.x)) (sym c.self.view_is) c.requires in
    let name = folded c.args.name.now in
    let found = definition_is w c.args.x name c.index.result.now c.definer_in.result c.self.invariant.formed valid c.index.ensures c.definer_in.ensures ∙ ap (λ v. definition_named v c.args.x name) c.self.view_is in
    no_info c.args.self.now c.args.x (option_copied c.args.new_name) name c.definer_in.result _ found c.in_default.is

pub returns-in_err-test_rename-clause-definer : goal.returns-in_err-test_rename-clause-definer
returns-in_err-test_rename-clause-definer c =
    let w : World = record { objects = c.self.inside.objects.items; inheritance = c.self.inside.inheritance; containment = c.self.inside.containment; players = c.self.inside.players.items } in
    let valid = subst (λ v. IsSome (object_of v.objects c.args.x)) (sym c.self.view_is) c.requires in
    let name = folded c.args.name.now in
    let k : Key = (c.in-Some.definer, name) in
    let found = definition_is w c.args.x name c.index.result.now c.definer_in.result c.self.invariant.formed valid c.index.ensures c.definer_in.ensures ∙ ap (λ v. definition_named v c.args.x name) c.self.view_is in
    let there = found_then name c.definer_in.result c.in-Some.definer _ found c.in-Some.is in
    let same = info_named c.args.self.now c.args.x (option_copied c.args.new_name) c.in-Some-new_name.new_name.now _ k there (ap option_copied c.in-Some-new_name.is) ∙
    ap (λ s. rename_raises c.args.self.now c.args.x k (folded s)) (sym c.as_bytes.ensures.value) in
    let p = err_from_is_err_and c.from_residual.result c.from_residual.ensures.1 in
    rw (p.1, p.2) (still_err _ _ _ _ _ same c.in_err-test_rename.ensures)

pub returns-in_ok-test_rename-clause-definer : goal.returns-in_ok-test_rename-clause-definer
returns-in_ok-test_rename-clause-definer c =
    let w : World = record { objects = c.self.inside.objects.items; inheritance = c.self.inside.inheritance; containment = c.self.inside.containment; players = c.self.inside.players.items } in
    let valid = subst (λ v. IsSome (object_of v.objects c.args.x)) (sym c.self.view_is) c.requires in
    let name = folded c.args.name.now in
    let k : Key = (c.in-Some.definer, name) in
    let found = definition_is w c.args.x name c.index.result.now c.definer_in.result c.self.invariant.formed valid c.index.ensures c.definer_in.ensures ∙ ap (λ v. definition_named v c.args.x name) c.self.view_is in
    let there = found_then name c.definer_in.result c.in-Some.definer _ found c.in-Some.is in
    let same = info_named c.args.self.now c.args.x (option_copied c.args.new_name) c.in-Some-new_name.new_name.now _ k there (ap option_copied c.in-Some-new_name.is) ∙
    ap (λ s. rename_raises c.args.self.now c.args.x k (folded s)) (sym c.as_bytes.ensures.value) in
    (same ∙ c.in_ok-test_rename.ensures.0, there)

pub returns-in_default-new_name-clause-definer : goal.returns-in_default-new_name-clause-definer
returns-in_default-new_name-clause-definer c =
    let w : World = record { objects = c.self.inside.objects.items; inheritance = c.self.inside.inheritance; containment = c.self.inside.containment; players = c.self.inside.players.items } in
    let valid = subst (λ v. IsSome (object_of v.objects c.args.x)) (sym c.self.view_is) c.requires in
    let name = folded c.args.name.now in
    let k : Key = (c.in-Some.definer, name) in
    let found = definition_is w c.args.x name c.index.result.now c.definer_in.result c.self.invariant.formed valid c.index.ensures c.definer_in.ensures ∙ ap (λ v. definition_named v c.args.x name) c.self.view_is in
    let there = found_then name c.definer_in.result c.in-Some.definer _ found c.in-Some.is in
    (info_unnamed c.args.self.now c.args.x (option_copied c.args.new_name) _ k there (ap option_copied c.in_default-new_name.is), there)
