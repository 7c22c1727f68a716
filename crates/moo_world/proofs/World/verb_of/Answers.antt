use Rattle.std.proofs.Common.{sym, ◌∙◌, ap, subst, IsSome, slice_get}
use Rattle.moo_world_table.specs.World.{World, object_of, thing_of}
use Rattle.moo_world_table.proofs.VerbChanges.{thing_read}
use Rattle.moo_world.proofs.World.verb_of.Goals as goal

pub returns : goal.returns
returns c =
    let w : World = record { objects = c.self.inside.objects.items; inheritance = c.self.inside.inheritance; containment = c.self.inside.containment; players = c.self.inside.players.items } in
    let valid = subst (λ v. IsSome (object_of v.objects c.args.x)) (sym c.self.view_is) c.requires in
    let here = thing_read w.objects c.args.x c.index.result.now valid c.index.ensures in
    c.verb_in.ensures ∙ ap (λ o. slice_get o.verbs c.args.index) here ∙ ap (λ v. slice_get (thing_of v.objects c.args.x).verbs c.args.index) c.self.view_is
