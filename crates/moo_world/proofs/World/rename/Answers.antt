use Rattle.std.proofs.Common.{ℕ, ◌<◌, sym, ◌∙◌, ap, subst, arith, length, IsSome, map, set}
use Rattle.std.specs.Option.{option_map}
use Rattle.moo_value.specs.Compare.{folded}
use Rattle.moo_world_tree.specs.Walk.{met, step_at}
use Rattle.moo_world_tree.specs.declared.walk.Step.{Step}
use Rattle.moo_world_object.specs.Cells.{Key}
use Rattle.moo_world_table.specs.World.{World, object_of}
use Rattle.moo_world_table.specs.Steps.{changed_along, with_new_cell_name, IsRenamable}
use Rattle.moo_world_table.specs.Edits.{with_respelled}
use Rattle.moo_world_table.specs.Renames.{after_rename}
use Rattle.moo_world_table.proofs.Changing.{valid_within}
use Rattle.moo_world_table.proofs.Counting.{programs_renamed}
use Rattle.moo_world_table.proofs.Joining.{walk_low}
use Rattle.moo_world_table.proofs.Single.{slot_changed}
use Rattle.moo_world_table.proofs.Renamed.{along_renamed, renamed_well_formed, renamed_valid}
use Rattle.moo_world.proofs.World.rename.Goals as goal

pub rename_along-requires : goal.rename_along-requires
rename_along-requires c =
    let w : World = record { objects = c.self.inside.objects.items; inheritance = c.self.inside.inheritance; containment = c.self.inside.containment; players = c.self.inside.players.items } in
    let valid = subst (λ v. IsSome (object_of v.objects c.args.x)) (sym c.self.view_is) c.requires.object in
    let each = subst (λ ys. (k : ℕ) → k < length ys → (step_at ys k).node < length w.objects) (sym c.deref-2.ensures.value) (walk_low w.objects w.inheritance c.self.invariant.formed.parents c.args.x valid c.in_ok-walk.walk.items c.in_ok-walk.ensures) in
    λ k h. (let low = each k h in omega (arith, low, c.self.inside.objects.ok.0))

pub invariant_of-self : goal.invariant_of-self
invariant_of-self c =
    let w : World = record { objects = c.self.inside.objects.items; inheritance = c.self.inside.inheritance; containment = c.self.inside.containment; players = c.self.inside.players.items } in
    let valid = subst (λ v. IsSome (object_of v.objects c.args.x)) (sym c.self.view_is) c.requires.object in
    let name = folded c.args.name.now in
    let n = c.args.new_name.now in
    let k : Key = (c.args.x, name) in
    let walk = c.in_ok-walk.walk.items in
    let allowed = subst (λ v. IsRenamable v c.args.x name n) (sym c.self.view_is) c.requires.allowed in
    let wrote = c.respell_in.ensures ∙ ap (λ s. option_map (with_respelled name s) c.index_mut.result.now) c.in_ok-spelling.ensures in
    let start = slot_changed w.objects c.args.x (with_respelled name n) c.index_mut.result.now c.respell_in.new.slot valid c.index_mut.ensures.value wrote in
    let names = c.in_ok-names.ensures ∙ ap (map (λ (s : Step). n)) (c.deref.ensures.value ∙ sym c.deref-2.ensures.value) in
    let fit = c.rename_along.ensures n names ∙ ap (λ ys. changed_along (option_map (with_new_cell_name k (folded n))) (set w.objects c.args.x c.respell_in.new.slot) (met ys)) c.deref-2.ensures.value ∙
    ap (λ os. changed_along (option_map (with_new_cell_name k (folded n))) os (met walk)) start ∙
    along_renamed w c.args.x name n c.self.invariant.formed valid walk c.in_ok-walk.ensures in
    rw fit (record { formed = (renamed_well_formed w c.args.x name n c.self.invariant.formed valid allowed); counted = c.self.invariant.counted ∙ sym (programs_renamed w.objects c.args.x k name (folded n) n (valid_within w.objects c.args.x valid)) })

pub returns-clause-ok : goal.returns-clause-ok
returns-clause-ok c =
    let w : World = record { objects = c.self.inside.objects.items; inheritance = c.self.inside.inheritance; containment = c.self.inside.containment; players = c.self.inside.players.items } in
    let valid = subst (λ v. IsSome (object_of v.objects c.args.x)) (sym c.self.view_is) c.requires.object in
    let name = folded c.args.name.now in
    let n = c.args.new_name.now in
    let k : Key = (c.args.x, name) in
    let walk = c.in_ok-walk.walk.items in
    let wrote = c.respell_in.ensures ∙ ap (λ s. option_map (with_respelled name s) c.index_mut.result.now) c.in_ok-spelling.ensures in
    let start = slot_changed w.objects c.args.x (with_respelled name n) c.index_mut.result.now c.respell_in.new.slot valid c.index_mut.ensures.value wrote in
    let names = c.in_ok-names.ensures ∙ ap (map (λ (s : Step). n)) (c.deref.ensures.value ∙ sym c.deref-2.ensures.value) in
    let fit = c.rename_along.ensures n names ∙ ap (λ ys. changed_along (option_map (with_new_cell_name k (folded n))) (set w.objects c.args.x c.respell_in.new.slot) (met ys)) c.deref-2.ensures.value ∙
    ap (λ os. changed_along (option_map (with_new_cell_name k (folded n))) os (met walk)) start ∙
    along_renamed w c.args.x name n c.self.invariant.formed valid walk c.in_ok-walk.ensures in
    rw fit (ap (λ v. after_rename v c.args.x name n) c.self.view_is)

pub returns-clause-valid : goal.returns-clause-valid
returns-clause-valid c =
    let w : World = record { objects = c.self.inside.objects.items; inheritance = c.self.inside.inheritance; containment = c.self.inside.containment; players = c.self.inside.players.items } in
    let valid = subst (λ v. IsSome (object_of v.objects c.args.x)) (sym c.self.view_is) c.requires.object in
    let name = folded c.args.name.now in
    let n = c.args.new_name.now in
    let k : Key = (c.args.x, name) in
    let walk = c.in_ok-walk.walk.items in
    let wrote = c.respell_in.ensures ∙ ap (λ s. option_map (with_respelled name s) c.index_mut.result.now) c.in_ok-spelling.ensures in
    let start = slot_changed w.objects c.args.x (with_respelled name n) c.index_mut.result.now c.respell_in.new.slot valid c.index_mut.ensures.value wrote in
    let names = c.in_ok-names.ensures ∙ ap (map (λ (s : Step). n)) (c.deref.ensures.value ∙ sym c.deref-2.ensures.value) in
    let fit = c.rename_along.ensures n names ∙ ap (λ ys. changed_along (option_map (with_new_cell_name k (folded n))) (set w.objects c.args.x c.respell_in.new.slot) (met ys)) c.deref-2.ensures.value ∙
    ap (λ os. changed_along (option_map (with_new_cell_name k (folded n))) os (met walk)) start ∙
    along_renamed w c.args.x name n c.self.invariant.formed valid walk c.in_ok-walk.ensures in
    rw fit (renamed_valid w c.args.x name n c.self.invariant.formed valid)
