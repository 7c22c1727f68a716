use Rattle.std.proofs.Common.{◌≡◌, Some, sym, ◌∙◌, ap, subst, arith, length, IsSome, w32, refl}
use Rattle.std.proofs.lemmas.Int.{to_z-of_z}
use Rattle.std.specs.Option.{option_map}
use Rattle.moo_world_object.specs.Patterns.{has_word}
use Rattle.moo_world_object.specs.Verbs.{with_verb_info}
use Rattle.moo_world_table.specs.World.{World, object_of, thing_of}
use Rattle.moo_world_table.specs.Changes.{with_object, with_changed_verb}
use Rattle.moo_world.specs.VerbCalls.{verb_info_raises}
use Rattle.moo_world_table.proofs.Counting.{programs_as_before}
use Rattle.moo_world_table.proofs.Single.{slot_changed, object_kept}
use Rattle.moo_world_table.proofs.VerbChanges.{verb_changed, thing_read, info_free}
use Rattle.moo_world.proofs.World.change_verb_info.Goals as goal

pub set_verb_info_in-requires : goal.set_verb_info_in-requires
set_verb_info_in-requires c =
    let w : World = record { objects = c.self.inside.objects.items; inheritance = c.self.inside.inheritance; containment = c.self.inside.containment; players = c.self.inside.players.items } in
    let valid = subst (λ v. IsSome (object_of v.objects c.args.x)) (sym c.self.view_is) c.requires in
    let here = thing_read w.objects c.args.x c.index_mut.result.now valid c.index_mut.ensures.value in
    let low = info_free c.args.index (length (thing_of w.objects c.args.x).verbs) (has_word c.args.names) (ap (λ v. verb_info_raises v (Some c.args.x) c.args.index c.args.names) c.self.view_is ∙ c.in_ok-test_verb_info.ensures.raises.0) in
    omega (arith, low, ap (λ o. length o.verbs) here)

pub invariant_of-self : goal.invariant_of-self
invariant_of-self c =
    let w : World = record { objects = c.self.inside.objects.items; inheritance = c.self.inside.inheritance; containment = c.self.inside.containment; players = c.self.inside.players.items } in
    let valid = subst (λ v. IsSome (object_of v.objects c.args.x)) (sym c.self.view_is) c.requires in
    let owner = to_z-of_z w32 c.args.owner c.ranges.owner in
    let wrote : c.set_verb_info_in.new.slot ≡ option_map (with_changed_verb c.args.index (with_verb_info c.args.names c.args.owner c.args.perms)) c.index_mut.result.now = c.set_verb_info_in.ensures ∙ ap (λ n. option_map (with_changed_verb c.args.index (with_verb_info c.args.names n c.args.perms)) c.index_mut.result.now) owner in
    let slot = slot_changed w.objects c.args.x (with_changed_verb c.args.index (with_verb_info c.args.names c.args.owner c.args.perms)) c.index_mut.result.now c.set_verb_info_in.new.slot valid c.index_mut.ensures.value wrote in
    rw slot (object_kept w c.args.x (with_changed_verb c.args.index (with_verb_info c.args.names c.args.owner c.args.perms)) c.self.inside.programs c.self.invariant valid (verb_changed c.args.x c.args.index (with_verb_info c.args.names c.args.owner c.args.perms) (thing_of w.objects c.args.x) (λ v h. c.in_ok-test_verb_info.ensures.string) (λ v h. c.ranges.owner)) (programs_as_before (thing_of w.objects c.args.x).verbs c.args.index (with_verb_info c.args.names c.args.owner c.args.perms) (λ v. refl)))

pub returns-clause-world : goal.returns-clause-world
returns-clause-world c =
    let w : World = record { objects = c.self.inside.objects.items; inheritance = c.self.inside.inheritance; containment = c.self.inside.containment; players = c.self.inside.players.items } in
    let valid = subst (λ v. IsSome (object_of v.objects c.args.x)) (sym c.self.view_is) c.requires in
    let owner = to_z-of_z w32 c.args.owner c.ranges.owner in
    let wrote : c.set_verb_info_in.new.slot ≡ option_map (with_changed_verb c.args.index (with_verb_info c.args.names c.args.owner c.args.perms)) c.index_mut.result.now = c.set_verb_info_in.ensures ∙ ap (λ n. option_map (with_changed_verb c.args.index (with_verb_info c.args.names n c.args.perms)) c.index_mut.result.now) owner in
    let slot = slot_changed w.objects c.args.x (with_changed_verb c.args.index (with_verb_info c.args.names c.args.owner c.args.perms)) c.index_mut.result.now c.set_verb_info_in.new.slot valid c.index_mut.ensures.value wrote in
    (c.in_ok-test_verb_info.ensures.raises.0, (rw slot (ap (λ v. with_object v c.args.x (with_changed_verb c.args.index (with_verb_info c.args.names c.args.owner c.args.perms))) c.self.view_is)))
