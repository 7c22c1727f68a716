use Rattle.std.proofs.Common.{Some, sym, ◌∙◌, ap, subst, length, IsSome}
use Rattle.moo_world_object.specs.Patterns.{has_word}
use Rattle.moo_world_table.specs.World.{World, object_of, thing_of}
use Rattle.moo_world_table.specs.Changes.{with_object, with_verb}
use Rattle.moo_world.specs.VerbCalls.{add_verb_raises}
use Rattle.moo_world_table.proofs.Counting.{programs_with_one_more}
use Rattle.moo_world_table.proofs.Single.{slot_changed, object_kept}
use Rattle.moo_world_table.proofs.VerbChanges.{verb_added, thing_read, room_free}
use Rattle.moo_world.proofs.World.put_verb.Goals as goal

pub invariant_of-self-2 : goal.invariant_of-self-2
invariant_of-self-2 c =
    let w : World = record { objects = c.self.inside.objects.items; inheritance = c.self.inside.inheritance; containment = c.self.inside.containment; players = c.self.inside.players.items } in
    let valid = subst (λ v. IsSome (object_of v.objects c.args.x)) (sym c.self.view_is) c.requires.object in
    let room = room_free (length (thing_of w.objects c.args.x).verbs) (has_word c.args.verb.names) (ap (λ v. add_verb_raises v (Some c.args.x) c.args.verb.names) c.self.view_is ∙ c.in_ok-test_new_verb.ensures.raises.0) in
    let slot = slot_changed w.objects c.args.x (with_verb c.args.verb) c.index_mut.result.now c.add_verb_in.new.slot valid c.index_mut.ensures.value c.in_ok-add_verb_in.ensures.ok in
    rw slot (object_kept w c.args.x (with_verb c.args.verb) c.self.inside.programs c.self.invariant valid (verb_added c.args.x c.args.verb (thing_of w.objects c.args.x) c.in_ok-test_new_verb.ensures.string c.requires.owner room) (programs_with_one_more (thing_of w.objects c.args.x).verbs c.args.verb c.requires.bare))

pub returns : goal.returns
returns c =
    let w : World = record { objects = c.self.inside.objects.items; inheritance = c.self.inside.inheritance; containment = c.self.inside.containment; players = c.self.inside.players.items } in
    let valid = subst (λ v. IsSome (object_of v.objects c.args.x)) (sym c.self.view_is) c.requires.object in
    let slot = slot_changed w.objects c.args.x (with_verb c.args.verb) c.index_mut.result.now c.add_verb_in.new.slot valid c.index_mut.ensures.value c.in_ok-add_verb_in.ensures.ok in
    let here = thing_read w.objects c.args.x c.index.result.now valid c.index.ensures in
    record {
      world = (c.in_ok-test_new_verb.ensures.raises.0, (rw slot (ap (λ v. with_object v c.args.x (with_verb c.args.verb)) c.self.view_is)));
      place = ap length c.verbs_of-index.ensures ∙ ap (λ o. length o.verbs) here ∙ ap (λ v. length (thing_of v.objects c.args.x).verbs) c.self.view_is;
      memory = tt;
    }
