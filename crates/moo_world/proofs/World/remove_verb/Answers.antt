use Rattle.std.proofs.Common.{◌≡◌, Some, false, sym, ◌∙◌, ap, subst, arith, length, IsSome}
use Rattle.moo_world_table.specs.World.{World, object_of, thing_of}
use Rattle.moo_world_table.specs.Changes.{with_object, without_verb}
use Rattle.moo_world.specs.VerbCalls.{verb_raises}
use Rattle.moo_world_table.specs.Verbs.{programs_with}
use Rattle.moo_world_table.proofs.Changing.{valid_within}
use Rattle.moo_world_table.proofs.Single.{slot_changed, object_recounted}
use Rattle.moo_world_table.proofs.VerbChanges.{verb_removed, thing_read, verb_free}
use Rattle.moo_world.proofs.Recounting.{programs_left}
use Rattle.moo_world.proofs.World.remove_verb.Goals as goal

pub remove_verb_in-requires : goal.remove_verb_in-requires
remove_verb_in-requires c =
    let w : World = record { objects = c.self.inside.objects.items; inheritance = c.self.inside.inheritance; containment = c.self.inside.containment; players = c.self.inside.players.items } in
    let valid = subst (λ v. IsSome (object_of v.objects c.args.x)) (sym c.self.view_is) c.requires in
    let here = thing_read w.objects c.args.x c.index_mut.result.now valid c.index_mut.ensures.value in
    let low = verb_free c.args.index (length (thing_of w.objects c.args.x).verbs) (ap (λ v. verb_raises v (Some c.args.x) c.args.index) c.self.view_is ∙ c.in_ok-test_verb.ensures.raises.0) in
    omega (arith, low, ap (λ o. length o.verbs) here)

pub invariant_of-self : goal.invariant_of-self
invariant_of-self c =
    let w : World = record { objects = c.self.inside.objects.items; inheritance = c.self.inside.inheritance; containment = c.self.inside.containment; players = c.self.inside.players.items } in
    let valid = subst (λ v. IsSome (object_of v.objects c.args.x)) (sym c.self.view_is) c.requires in
    let low = verb_free c.args.index (length (thing_of w.objects c.args.x).verbs) (ap (λ v. verb_raises v (Some c.args.x) c.args.index) c.self.view_is ∙ c.in_ok-test_verb.ensures.raises.0) in
    let slot = slot_changed w.objects c.args.x (without_verb c.args.index) c.index_mut.result.now c.remove_verb_in.new.slot valid c.index_mut.ensures.value c.remove_verb_in.ensures in
    let many : c.programs_with-programs.result ≡ programs_with w c.args.x c.args.index false = c.programs_with-programs.ensures ∙ ap (λ v. programs_with v c.args.x c.args.index false) (sym c.self.view_is) in
    let left = programs_left w c.args.x c.args.index c.programs_with-programs.result c.self.inside.programs c.self.invariant (valid_within w.objects c.args.x valid) low many in
    rw slot (object_recounted w c.args.x (without_verb c.args.index) c.self.inside.programs c.self.invariant valid (verb_removed c.args.x c.args.index (thing_of w.objects c.args.x)) c.programs_with-programs.result left.0 left.1)

pub returns-clause-world : goal.returns-clause-world
returns-clause-world c =
    let w : World = record { objects = c.self.inside.objects.items; inheritance = c.self.inside.inheritance; containment = c.self.inside.containment; players = c.self.inside.players.items } in
    let valid = subst (λ v. IsSome (object_of v.objects c.args.x)) (sym c.self.view_is) c.requires in
    let slot = slot_changed w.objects c.args.x (without_verb c.args.index) c.index_mut.result.now c.remove_verb_in.new.slot valid c.index_mut.ensures.value c.remove_verb_in.ensures in
    (c.in_ok-test_verb.ensures.raises.0, (rw slot (ap (λ v. with_object v c.args.x (without_verb c.args.index)) c.self.view_is)))
