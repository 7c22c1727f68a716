use Rattle.std.proofs.Common.{◌≡◌, Some, sym, ◌∙◌, ap, subst, arith, length, IsSome}
use Rattle.moo_world_object.specs.Verbs.{with_program}
use Rattle.moo_world_table.specs.World.{World, object_of, thing_of}
use Rattle.moo_world_table.specs.Changes.{with_object, with_changed_verb}
use Rattle.moo_world_table.specs.Verbs.{programs_with}
use Rattle.moo_world.specs.VerbCalls.{program_raises}
use Rattle.moo_world_table.proofs.Changing.{valid_within}
use Rattle.moo_world_table.proofs.Single.{slot_changed, object_recounted}
use Rattle.moo_world_table.proofs.VerbChanges.{verb_changed, thing_read}
use Rattle.moo_world.proofs.Recounting.{program_free, programs_then}
use Rattle.moo_world.proofs.World.change_program.Goals as goal

pub set_program_in-requires : goal.set_program_in-requires
set_program_in-requires c =
    let w : World = record { objects = c.self.inside.objects.items; inheritance = c.self.inside.inheritance; containment = c.self.inside.containment; players = c.self.inside.players.items } in
    let valid = subst (λ v. IsSome (object_of v.objects c.args.x)) (sym c.self.view_is) c.requires in
    let here = thing_read w.objects c.args.x c.index_mut.result.now valid c.index_mut.ensures.value in
    let on = c.is_some.result in
    let free = program_free c.args.index (length (thing_of w.objects c.args.x).verbs) (programs_with w c.args.x c.args.index on) (ap (λ v. program_raises v (Some c.args.x) c.args.index on) c.self.view_is ∙ c.in_ok-programs.ensures.programs.0) in
    let low = free.0 in
    omega (arith, low, ap (λ o. length o.verbs) here)

pub invariant_of-self : goal.invariant_of-self
invariant_of-self c =
    let w : World = record { objects = c.self.inside.objects.items; inheritance = c.self.inside.inheritance; containment = c.self.inside.containment; players = c.self.inside.players.items } in
    let valid = subst (λ v. IsSome (object_of v.objects c.args.x)) (sym c.self.view_is) c.requires in
    let f = with_changed_verb c.args.index (with_program c.args.program) in
    let on = c.is_some.result in
    let free = program_free c.args.index (length (thing_of w.objects c.args.x).verbs) (programs_with w c.args.x c.args.index on) (ap (λ v. program_raises v (Some c.args.x) c.args.index on) c.self.view_is ∙ c.in_ok-programs.ensures.programs.0) in
    let slot = slot_changed w.objects c.args.x f c.index_mut.result.now c.set_program_in.new.slot valid c.index_mut.ensures.value c.set_program_in.ensures in
    let many : c.in_ok-programs.programs ≡ programs_with w c.args.x c.args.index on = c.in_ok-programs.ensures.programs.1 ∙ ap (λ v. programs_with v c.args.x c.args.index on) (sym c.self.view_is) in
    let given = programs_then w c.args.x c.args.index c.in_ok-programs.programs c.self.inside.programs c.self.invariant (valid_within w.objects c.args.x valid) free.0 c.args.program
    (many ∙ ap (programs_with w c.args.x c.args.index) c.is_some.ensures) in
    let few = free.1 in
    rw slot (object_recounted w c.args.x f c.self.inside.programs c.self.invariant valid (verb_changed c.args.x c.args.index (with_program c.args.program) (thing_of w.objects c.args.x) (λ v h. h) (λ v h. h)) c.in_ok-programs.programs given (omega (arith, many, few)))

pub returns-clause-world : goal.returns-clause-world
returns-clause-world c =
    let w : World = record { objects = c.self.inside.objects.items; inheritance = c.self.inside.inheritance; containment = c.self.inside.containment; players = c.self.inside.players.items } in
    let valid = subst (λ v. IsSome (object_of v.objects c.args.x)) (sym c.self.view_is) c.requires in
    let slot = slot_changed w.objects c.args.x (with_changed_verb c.args.index (with_program c.args.program)) c.index_mut.result.now c.set_program_in.new.slot valid c.index_mut.ensures.value c.set_program_in.ensures in
    (sym (ap (program_raises c.args.self.now (Some c.args.x) c.args.index) c.is_some.ensures) ∙ c.in_ok-programs.ensures.programs.0, (rw slot (ap (λ v. with_object v c.args.x (with_changed_verb c.args.index (with_program c.args.program))) c.self.view_is)))
