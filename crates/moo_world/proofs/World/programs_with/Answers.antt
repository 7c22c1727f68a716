use Rattle.std.proofs.Common.{◌≡◌, IsSome, sym, ◌∙◌, ap, subst, arith}
use Rattle.moo_world_table.specs.World.{World, object_of, thing_of}
use Rattle.moo_world_table.specs.Verbs.{has_program, one_for}
use Rattle.moo_world_table.proofs.Changing.{valid_within}
use Rattle.moo_world_table.proofs.Counting.{programs_with_it, programs_below}
use Rattle.moo_world_table.proofs.VerbChanges.{thing_read}
use Rattle.moo_world.proofs.Recounting.{one_from}
use Rattle.moo_world.proofs.World.programs_with.Goals as goal

pub overflow_sub-result : goal.overflow_sub-result
overflow_sub-result c =
    let w : World = record { objects = c.self.inside.objects.items; inheritance = c.self.inside.inheritance; containment = c.self.inside.containment; players = c.self.inside.players.items } in
    let valid = subst (λ v. IsSome (object_of v.objects c.args.x)) (sym c.self.view_is) c.requires in
    let here = thing_read w.objects c.args.x c.index.result.now valid c.index.ensures in
    let has : c.has_program.result ≡ has_program (thing_of w.objects c.args.x).verbs c.args.index = c.has_program.ensures ∙ ap (λ o. has_program o.verbs c.args.index) here in
    let one : c.from.result ≡ one_for (has_program (thing_of w.objects c.args.x).verbs c.args.index) = c.from.ensures ∙ one_from c.has_program.result ∙ ap one_for has in
    let with_it = programs_with_it (thing_of w.objects c.args.x).verbs c.args.index in
    let below = programs_below w.objects c.args.x (valid_within w.objects c.args.x valid) in
    let all = c.self.invariant.counted in
    omega (arith, one, with_it, below, all)
